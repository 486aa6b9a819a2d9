-- What holds of every admission of the desk.
-- Assumes nothing.
use Rattle.std.specs.Prelude.{Result, Ok, Err}
use Prim.Native.Nat.{ℕ, ◌-◌, ◌≤◌, ◌<◌, min}
use mathlib.Core.Path.{◌≡◌, refl, sym, ap, subst, ◌∙◌}
use mathlib.Core.Bool.{Bool, true, false}
use mathlib.Core.List.{List}
use mathlib.Core.Logic.{◌≢◌, ◌↔◌}
use native.Mathlib.Omega.{arith}
use borrow.Author.Tests.{le-leb, lt-leb}
use lib.Dec.{leb}
use lib.ListN.{length, get_or, set, length-set}
use lib.Seq.{get_or-set_same, get_or-set_other}
use Rattle.basics.specs.Pick.{pick}
use Rattle.basics.proofs.Tests.{by_leb}
use Rattle.answers.specs.declared.Refusal.{Refusal}
use Rattle.answers.specs.declared.Refusal.TheVariants.{Full}
use Rattle.item.specs.Layout.{layout_of, payload_of}
use Rattle.item.specs.declared.Fields.{Fields}
use Rattle.store.specs.Table.{Table, WellFormed}
use Rattle.judging.specs.Message.{next_row}
use Rattle.judging.specs.Verdict.{full, then_room, rules_of, judged_of, then_judged}
use Rattle.judging.specs.declared.Verdict.{Verdict}
use Rattle.judging.specs.declared.Verdict.TheVariants.{Fits, Holds, Breaks}
use Rattle.admission.specs.After.{answer_of, store_then, store_by}
use Rattle.admission.specs.Paper.{Accepted}
use Rattle.admission.specs.declared.Admitted.{Admitted}
use Rattle.admission.specs.declared.Admitted.TheVariants.{Done, Held, Refused}
use Rattle.origins.specs.Origins.{WellKept, without_place, AdmitsFrom}
use Rattle.origins.specs.Origins as from
use Rattle.origins.proofs.Theorems.{from_done_exactly_when, from_keeps}
use Rattle.desk.specs.Payload.{component_in, expanded_in, is_release}
use Rattle.desk.specs.Desk.{Desk, places_in, then_payload, then_places, release_of, then_release, release_verdict, store_with, desk_after}
use Rattle.desk.specs.Desk.{ReleasePlaced, DeskAdmits, damaged, sound}
use Rattle.desk.proofs.Steps.{release_mark, placed_layout}

-- AS EVERY ADMISSION

module _ (t : Table) (o s : List ℕ) (p : ℕ) (good : is_release (payload_of s) ≡ true) where
  -- With a release's payload, a place in the origins decides as it does without the desk: where the columns have one,
  placed_verdict : (b : Bool) → leb p t.counts.rows ≡ b → (v : Verdict)
      → then_places t p (then_payload s v) ≡ pick b (without_place (then_room t v)) (then_room t v)
  unfolding then_places then_payload then_room without_place
  placed_verdict true e (Fits row) = rw (good, e) (room_less (full t row))
    where
      room_less : (c : Bool) → Breaks Full ≡ without_place (pick c (Breaks Full) (Fits row))
      room_less true = refl
      room_less false = refl
  placed_verdict true e (Holds r) = refl
  placed_verdict true e (Breaks r) = refl
  placed_verdict false e (Fits row) = rw (good, e)
  placed_verdict false e (Holds r) = refl
  placed_verdict false e (Breaks r) = refl

  -- so does the store after it,
  store_kept : (f : Fields) (v : Verdict) → store_then t s f (without_place v) ≡ t
  unfolding store_then without_place
  store_kept f (Fits row) = refl
  store_kept f (Holds r) = refl
  store_kept f (Breaks r) = refl

  placed_store : (f : Fields) (b : Bool) (v : Verdict) → store_then t s f (pick b (without_place v) v) ≡ pick b t (store_then t s f v)
  placed_store f true v = store_kept f v
  placed_store f false v = refl

  module _ (b : Bool) (e : leb p t.counts.rows ≡ b) where
    -- for any layout.
    pub same_verdict : (l : Result Fields Refusal) → then_release t p s l ≡ pick b (without_place (then_judged t s l)) (then_judged t s l)
    unfolding then_release then_judged without_place
    same_verdict (Ok f) = placed_verdict b e (rules_of t s f)
    same_verdict (Err r) = either_way b
      where
        either_way : (c : Bool) → Breaks r ≡ pick c (Breaks r) (Breaks r)
        either_way true = refl
        either_way false = refl

    pub same_store : (l : Result Fields Refusal) → store_with t p s l ≡ pick b t (store_by t s l)
    unfolding store_with store_by
    same_store (Ok f) = ap (store_then t s f) (placed_verdict b e (rules_of t s f)) ∙ placed_store f b (judged_of t s f)
    same_store (Err r) = either_way b
      where
        either_way : (c : Bool) → t ≡ pick c t t
        either_way true = refl
        either_way false = refl

-- Where both columns have a place, as many rows have one as the origins leave.
places_tested : (n o c e : ℕ) → n < c → n < e → leb (min o (min c e)) n ≡ leb o n
places_tested n o c e h k =
    by_leb (λ (b : Bool). leb (min o (min c e)) n ≡ b) o n (λ l. le-leb (min o (min c e)) n (omega arith)) (λ l. lt-leb (min o (min c e)) n (omega arith))

-- WHERE THE PAYLOAD IS A RELEASE'S AND THE COLUMNS HAVE A PLACE, the desk's admission is the admission with origins.
pub desk_admits : (t : Table) (d : Desk) (g : ℕ) (s : List ℕ) (u : Table) (d' : Desk) (a : Admitted) → DeskAdmits t d g s u d' a
    → is_release (payload_of s) ≡ true → t.counts.rows < length d.components → t.counts.rows < length d.expanded
    → AdmitsFrom t d.origins g s u d'.origins a
desk_admits t d g s u d' a (damaged n e f i) good h k = from.damaged n e f (ap (λ (x : Desk). x.origins) i)
desk_admits t d g s u d' a (sound w j) good h k =
    let n = t.counts.rows in
    let o = d.origins in
    let e : leb (places_in d) n ≡ leb (length o) n = places_tested n (length o) (length d.components) (length d.expanded) h k in
    from.sound w
    (record {
      answer = j.answer ∙ ap (answer_of t) (same_verdict t o s (places_in d) good (leb (length o) n) e (layout_of s));
      after = j.after ∙ same_store t o s (places_in d) good (leb (length o) n) e (layout_of s);
      origins = ap (λ (x : Desk). x.origins) j.beside;
    })

-- WHAT IS DONE

-- Done is no refusal.
not_refused : (n : ℕ) (r : Refusal) → Done n ≡ Refused r → ⊥
not_refused n r e = let z : ◌≡◌ {A = ℕ} 0 1 = cc in omega arith

-- What is done had a place in all three parts, and a release's payload.
pub done_placed : (t : Table) (d : Desk) (g : ℕ) (s : List ℕ) (u : Table) (d' : Desk) (n : ℕ) → DeskAdmits t d g s u d' (Done n)
    → (1 ≤ n) × ((n ≤ places_in d) × (is_release (payload_of s) ≡ true))
done_placed t d g s u d' n (damaged x e f i) = absurd (not_refused n _ e)
done_placed t d g s u d' n (sound w j) = subst (ReleasePlaced (places_in d) s) (sym j.answer) (placed_layout t (places_in d) s (layout_of s))

-- Its row is the next one.
done_next : (t : Table) (d : Desk) (s : List ℕ) (n : ℕ) (v : Verdict) → Done n ≡ answer_of t v → n ≡ next_row t
done_next t d s n (Fits row) e = cc
done_next t d s n (Holds r) e = let z : ◌≡◌ {A = ℕ} 0 1 = cc in absurd (omega arith)
done_next t d s n (Breaks r) e = absurd (not_refused n r e)

pub done_row : (t : Table) (d : Desk) (g : ℕ) (s : List ℕ) (u : Table) (d' : Desk) (n : ℕ) → DeskAdmits t d g s u d' (Done n) → n ≡ next_row t
done_row t d g s u d' n (damaged x e f i) = absurd (not_refused n _ e)
done_row t d g s u d' n (sound w j) = done_next t d s n (release_verdict t (places_in d) s) j.answer

-- So it wrote what the admission with origins writes.
pub done_as_from : (t : Table) (d : Desk) (g : ℕ) (s : List ℕ) (u : Table) (d' : Desk) (n : ℕ) → DeskAdmits t d g s u d' (Done n)
    → AdmitsFrom t d.origins g s u d'.origins (Done n)
done_as_from t d g s u d' n h =
    let p = done_placed t d g s u d' n h in
    let e = done_row t d g s u d' n h in
    let l = p.1.0 in
    desk_admits t d g s u d' (Done n) h p.1.1 (omega arith) (omega arith)

-- What a part beside the store holds after a new row: its own number there, and every other place what it was.
pub record PutAt (l l' : List ℕ) (n x : ℕ) : Type 0 where
  pub own : get_or l' (n - 1) 0 ≡ x
  pub others : (k : ℕ) → k ≢ n - 1 → get_or l' k 0 ≡ get_or l k 0
  pub same_room : length l' ≡ length l

set_put : (l l' : List ℕ) (n x : ℕ) → n - 1 < length l → l' ≡ set l (n - 1) x → PutAt l l' n x
set_put l l' n x h e =
    record {
      own = ap (λ (z : List ℕ). get_or z (n - 1) 0) e ∙ get_or-set_same l (n - 1) x 0 h;
      others = λ k m. ap (λ (z : List ℕ). get_or z k 0) e ∙ get_or-set_other l (n - 1) k x 0 m;
      same_room = ap length e ∙ length-set l (n - 1) x;
    }

-- AFTER THE DESK'S ADMISSION THE COLUMNS HOLD WHAT THE PAYLOAD SAID, the origins the origin given, and all other places what they held.
pub record Recorded (d : Desk) (g : ℕ) (s : List ℕ) (d' : Desk) (n : ℕ) : Type 0 where
  pub origin : PutAt d.origins d'.origins n g
  pub component : PutAt d.components d'.components n (component_in (payload_of s))
  pub expanded : PutAt d.expanded d'.expanded n (expanded_in (payload_of s))
  pub mark : expanded_in (payload_of s) ≤ 1

pub done_recorded : (t : Table) (d : Desk) (g : ℕ) (s : List ℕ) (u : Table) (d' : Desk) (n : ℕ) → DeskAdmits t d g s u d' (Done n) → Recorded d g s d' n
done_recorded t d g s u d' n h =
    let p = done_placed t d g s u d' n h in
    let one = p.0 in
    let held = p.1.0 in
    let q = beside h in
    record {
      origin = set_put d.origins d'.origins n g (omega arith) (ap (λ (x : Desk). x.origins) q);
      component = set_put d.components d'.components n (component_in (payload_of s)) (omega arith) (ap (λ (x : Desk). x.components) q);
      expanded = set_put d.expanded d'.expanded n (expanded_in (payload_of s)) (omega arith) (ap (λ (x : Desk). x.expanded) q);
      mark = release_mark (payload_of s) p.1.1;
    }
  where
    beside : DeskAdmits t d g s u d' (Done n) → d' ≡ desk_after d g s (Done n)
    beside (damaged x e f i) = absurd (not_refused n _ e)
    beside (sound w j) = j.beside

-- A NUMBER THAT IS NEITHER 0 NOR 1 IS NEVER WRITTEN AS AN EXPANDED BYTE: where the column held none in the places of counted rows, it holds none after.
pub marks_stay : (t : Table) (d : Desk) (g : ℕ) (s : List ℕ) (u : Table) (d' : Desk) (n : ℕ) → DeskAdmits t d g s u d' (Done n)
    → ((r : ℕ) → r ≤ t.counts.rows → 1 ≤ r → get_or d.expanded (r - 1) 0 ≤ 1) → (r : ℕ) → r ≤ n → 1 ≤ r → get_or d'.expanded (r - 1) 0 ≤ 1
marks_stay t d g s u d' n h old r l m =
    let e = done_row t d g s u d' n h in
    let q = done_recorded t d g s u d' n h in
    by_leb (λ (b : Bool). get_or d'.expanded (r - 1) 0 ≤ 1) r t.counts.rows
    (λ k.
    let z : get_or d'.expanded (r - 1) 0 ≡ get_or d.expanded (r - 1) 0 = q.expanded.others (r - 1) (λ x. omega arith) in
    let y = old r k m in omega arith)
    (λ k.
    let i : r ≡ n = omega arith in
    let z : get_or d'.expanded (r - 1) 0 ≡ expanded_in (payload_of s) = subst (λ (x : ℕ). get_or d'.expanded (x - 1) 0 ≡ expanded_in (payload_of s)) (sym i)
    q.expanded.own in
    let y = q.mark in omega arith)

-- DONE EXACTLY WHEN admission with origins is, the payload is a release's, and all three parts have a place for the row.
pub desk_done_exactly_when : (t : Table) (d : Desk) (g : ℕ) (s : List ℕ) (u : Table) (d' : Desk) (a : Admitted) → DeskAdmits t d g s u d' a
    → ((n : ℕ) × (a ≡ Done n)) ↔ ((WellFormed t × ((f : Fields) × Accepted t s f)) × ((is_release (payload_of s) ≡ true) × (t.counts.rows < places_in d)))
desk_done_exactly_when t d g s u d' a h = (
  λ x.
      let k = subst (DeskAdmits t d g s u d') x.1 h in
      let p = done_placed t d g s u d' x.0 k in
      let e = done_row t d g s u d' x.0 k in
      let l = p.1.0 in
      let w = (from_done_exactly_when t d.origins g s u d'.origins (Done x.0) (done_as_from t d g s u d' x.0 k)).0 (x.0, refl) in
      (w.0, (p.1.1, omega arith)),
  λ y.
      let l = y.1.1 in
      let i : AdmitsFrom t d.origins g s u d'.origins a = desk_admits t d g s u d' a h y.1.0 (omega arith) (omega arith) in
      (from_done_exactly_when t d.origins g s u d'.origins a i).1 (y.0, omega arith),
)

-- WHAT IS NOT DONE

-- A verdict that gives no row leaves the store.
still_row : (t : Table) (s : List ℕ) (f : Fields) (v : Verdict) → ((n : ℕ) → answer_of t v ≡ Done n → ⊥) → store_then t s f v ≡ t
unfolding store_then
still_row t s f (Fits row) h = absurd (h (next_row t) refl)
still_row t s f (Holds r) h = refl
still_row t s f (Breaks r) h = refl

still_layout : (t : Table) (p : ℕ) (s : List ℕ) (l : Result Fields Refusal) → ((n : ℕ) → answer_of t (then_release t p s l) ≡ Done n → ⊥) → store_with t p s l ≡ t
unfolding then_release store_with
still_layout t p s (Ok f) h = still_row t s f (release_of t p s f) h
still_layout t p s (Err r) h = refl

-- An answer that is not done leaves what is beside the store.
still_beside : (d : Desk) (g : ℕ) (s : List ℕ) (a : Admitted) → ((n : ℕ) → a ≡ Done n → ⊥) → desk_after d g s a ≡ d
still_beside d g s (Done n) h = absurd (h n refl)
still_beside d g s (Held r) h = refl
still_beside d g s (Refused why) h = refl

-- HELD AND EVERY REFUSAL CHANGE NOTHING, columns included.
pub undone_keeps : (t : Table) (d : Desk) (g : ℕ) (s : List ℕ) (u : Table) (d' : Desk) (a : Admitted) → DeskAdmits t d g s u d' a
    → ((n : ℕ) → a ≡ Done n → ⊥) → (u ≡ t) × (d' ≡ d)
undone_keeps t d g s u d' a (damaged n e f i) h = (f, i)
undone_keeps t d g s u d' a (sound w j) h = (
  j.after ∙ still_layout t (places_in d) s (layout_of s) (λ n q. h n (j.answer ∙ q)),
  j.beside ∙ still_beside d g s a h,
)

-- A store and origins that are well kept stay so.
pub desk_keeps : (t : Table) (d : Desk) (g : ℕ) (s : List ℕ) (u : Table) (d' : Desk) (a : Admitted) → DeskAdmits t d g s u d' a → WellKept t d.origins
    → WellKept u d'.origins
desk_keeps t d g s u d' (Done n) h w = from_keeps t d.origins g s u d'.origins (Done n) (done_as_from t d g s u d' n h) w
desk_keeps t d g s u d' (Held r) h w = let k = undone_keeps t d g s u d' (Held r) h (λ n e. let z : ◌≡◌ {A = ℕ} 0 1 = cc in omega arith) in
    subst (λ (x : Table). WellKept x d'.origins) (sym k.0) (subst (λ (x : Desk). WellKept t x.origins) (sym k.1) w)
desk_keeps t d g s u d' (Refused why) h w = let k = undone_keeps t d g s u d' (Refused why) h (λ n e. not_refused n why (sym e)) in
    subst (λ (x : Table). WellKept x d'.origins) (sym k.0) (subst (λ (x : Desk). WellKept t x.origins) (sym k.1) w)

-- NOTHING BESIDE THE STORE IS READ: neither the answer nor the store after it depends on the origin given or on what the origins and the columns
-- hold, but on their lengths alone.
pub only_lengths : (t : Table) (d e : Desk) (g h : ℕ) (s : List ℕ) (u v : Table) (d' e' : Desk) (a b : Admitted)
    → length d.origins ≡ length e.origins → places_in d ≡ places_in e → DeskAdmits t d g s u d' a → DeskAdmits t e h s v e' b → (a ≡ b) × (u ≡ v)
only_lengths t d e g h s u v d' e' a b l m (damaged n x y i) (damaged n' x' y' i') = (x ∙ sym x', y ∙ sym y')
only_lengths t d e g h s u v d' e' a b l m (damaged n x y i) (sound w j) = absurd (n (record { store = w.store; held = omega (arith, l, w.held) }))
only_lengths t d e g h s u v d' e' a b l m (sound w j) (damaged n x y i) = absurd (n (record { store = w.store; held = omega (arith, l, w.held) }))
only_lengths t d e g h s u v d' e' a b l m (sound w j) (sound w' j') = (
  j.answer ∙ ap (λ (p : ℕ). answer_of t (release_verdict t p s)) m ∙ sym j'.answer,
  j.after ∙ ap (λ (p : ℕ). store_with t p s (layout_of s)) m ∙ sym j'.after,
)

-- Two answers that keep the promise are one, and so are the stores and all beside them that they leave.
pub one_admission : (t : Table) (d : Desk) (g : ℕ) (s : List ℕ) (u v : Table) (d' e' : Desk) (a b : Admitted) → DeskAdmits t d g s u d' a
    → DeskAdmits t d g s v e' b → (a ≡ b) × ((u ≡ v) × (d' ≡ e'))
one_admission t d g s u v d' e' a b h k =
    let e = only_lengths t d d g g s u v d' e' a b refl refl h k in
    (e.0, (e.1, left h k e.0))
  where
    left : DeskAdmits t d g s u d' a → DeskAdmits t d g s v e' b → a ≡ b → d' ≡ e'
    left (damaged n x y i) (damaged n' x' y' i') z = i ∙ sym i'
    left (damaged n x y i) (sound w j) z = absurd (n w)
    left (sound w j) (damaged n x y i) z = absurd (n w)
    left (sound w j) (sound w' j') z = j.beside ∙ ap (desk_after d g s) z ∙ sym j'.beside

-- Every item has an answer where the store and the origins are well kept.
pub admission_exists : (t : Table) (d : Desk) (g : ℕ) (s : List ℕ) → WellKept t d.origins
    → (a : Admitted) × ((u : Table) × ((d' : Desk) × DeskAdmits t d g s u d' a))
admission_exists t d g s w =
    let a = answer_of t (release_verdict t (places_in d) s) in
    (a, (store_with t (places_in d) s (layout_of s), (desk_after d g s a, sound w (record { answer = refl; after = refl; beside = refl }))))

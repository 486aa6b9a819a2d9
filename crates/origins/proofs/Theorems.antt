-- What holds of every admission with origins.
-- Assumes nothing.
use Rattle.std.specs.Prelude.{Result}
use Rattle.answers.specs.declared.Refusal.{Refusal}
use Prim.Native.Nat.{ℕ, ◌+◌, ◌-◌, ◌<◌}
use mathlib.Core.Path.{◌≡◌, refl, sym, ap, subst, ◌∙◌}
use mathlib.Core.Bool.{Bool, true, false}
use mathlib.Core.List.{List}
use mathlib.Core.Logic.{⊎_elim, ◌≢◌, ◌↔◌}
use native.Mathlib.Omega.{arith}
use borrow.Author.Tests.{le-leb, lt-leb}
use lib.Dec.{leb}
use lib.ListN.{length, get_or, set, length-set}
use lib.Seq.{get_or-set_same, get_or-set_other}
use Rattle.basics.specs.Pick.{pick}
use Rattle.basics.proofs.Tests.{by_ltb}
use Rattle.item.specs.declared.Fields.{Fields}
use Rattle.store.specs.Table.{Table, WellFormed}
use Rattle.judging.specs.Message.{next_row}
use Rattle.judging.specs.Verdict.{verdict_of}
use Rattle.judging.specs.declared.Verdict.{Verdict}
use Rattle.judging.specs.declared.Verdict.TheVariants.{Fits, Holds, Breaks}
use Rattle.admission.specs.After.{Judged, Admits, answer_of, store_after}
use Rattle.admission.specs.After as base
use Rattle.admission.specs.Paper.{Accepted}
use Rattle.admission.specs.declared.Admitted.{Admitted}
use Rattle.admission.specs.declared.Admitted.TheVariants.{Done, Held, Refused}
use Rattle.admission.proofs.Theorems.{done_exactly_when, done_grows, not_done_keeps, keeps_well_formed}
use Rattle.origins.specs.Origins.{WellKept, without_place, origins_after, AdmitsFrom, damaged, sound, Reports, damaged_store, no_row, reported}

-- "Two stores that differ only in origins give the same answer", and the same other parts: whatever the origins hold and whichever is given.
pub only_origins_differ : (t : Table) (o p : List ℕ) (g h : ℕ) (s : List ℕ) (u v : Table) (o' p' : List ℕ) (a b : Admitted) → length o ≡ length p
    → AdmitsFrom t o g s u o' a → AdmitsFrom t p h s v p' b → (a ≡ b) × (u ≡ v)
only_origins_differ t o p g h s u v o' p' a b l (damaged n e f i) (damaged m e' f' i') = (e ∙ sym e', f ∙ sym f')
only_origins_differ t o p g h s u v o' p' a b l (damaged n e f i) (sound k j) = absurd (n (record { store = k.store; held = omega (arith, l, k.held) }))
only_origins_differ t o p g h s u v o' p' a b l (sound k j) (damaged n e f i) = absurd (n (record { store = k.store; held = omega (arith, l, k.held) }))
only_origins_differ t o p g h s u v o' p' a b l (sound k j) (sound k' j') =
    let test : leb (length o) t.counts.rows ≡ leb (length p) t.counts.rows = ap (λ (n : ℕ). leb n t.counts.rows) l in (
      j.answer ∙ ap (λ (x : Bool). answer_of t (pick x (without_place (verdict_of t s)) (verdict_of t s))) test ∙ sym j'.answer,
      j.after ∙ ap (λ (x : Bool). pick x t (store_after t s)) test ∙ sym j'.after,
    )

-- Two answers that keep the promise are one, and so are the stores and the origins that they leave.
pub one_admission : (t : Table) (o : List ℕ) (g : ℕ) (s : List ℕ) (u v : Table) (o' p' : List ℕ) (a b : Admitted) → AdmitsFrom t o g s u o' a
    → AdmitsFrom t o g s v p' b → (a ≡ b) × ((u ≡ v) × (o' ≡ p'))
one_admission t o g s u v o' p' a b h k =
    let e = only_origins_differ t o o g g s u v o' p' a b refl h k in
    (e.0, (e.1, left h k e.0))
  where
    left : AdmitsFrom t o g s u o' a → AdmitsFrom t o g s v p' b → a ≡ b → o' ≡ p'
    left (damaged n e f i) (damaged m e' f' i') z = i ∙ sym i'
    left (damaged n e f i) (sound w j) z = absurd (n w)
    left (sound w j) (damaged n e f i) z = absurd (n w)
    left (sound w j) (sound x k) z = j.origins ∙ ap (origins_after o g) z ∙ sym k.origins

-- With a place for a row the admission is what it is without origins.
pub from_placed : (t : Table) (o : List ℕ) (g : ℕ) (s : List ℕ) (u : Table) (o' : List ℕ) (a : Admitted) → AdmitsFrom t o g s u o' a
    → t.counts.rows < length o → Admits t s u a
from_placed t o g s u o' a (damaged n e f i) h = base.damaged (λ w. n (record { store = w; held = omega arith })) e f
from_placed t o g s u o' a (sound k j) h =
    let b : leb (length o) t.counts.rows ≡ false = lt-leb (length o) t.counts.rows h in
    base.sound k.store
    (record {
      answer = j.answer ∙ ap (λ (x : Bool). answer_of t (pick x (without_place (verdict_of t s)) (verdict_of t s))) b;
      after = j.after ∙ ap (λ (x : Bool). pick x t (store_after t s)) b;
    })

-- Without a place nothing is done.
unplaced_undone : (t : Table) (v : Verdict) (n : ℕ) → answer_of t (without_place v) ≡ Done n → ⊥
unfolding without_place
unplaced_undone t (Fits row) n e = let z : ◌≡◌ {A = ℕ} 0 1 = cc in omega arith
unplaced_undone t (Holds r) n e = let z : ◌≡◌ {A = ℕ} 0 1 = cc in omega arith
unplaced_undone t (Breaks r) n e = let z : ◌≡◌ {A = ℕ} 0 1 = cc in omega arith

-- What is done had a place.
pub done_placed : (t : Table) (o : List ℕ) (g : ℕ) (s : List ℕ) (u : Table) (o' : List ℕ) (n : ℕ) → AdmitsFrom t o g s u o' (Done n)
    → t.counts.rows < length o
done_placed t o g s u o' n (damaged d e f i) = let z : ◌≡◌ {A = ℕ} 0 1 = cc in absurd (omega arith)
done_placed t o g s u o' n (sound k j) =
    by_ltb (λ (x : Bool). t.counts.rows < length o) t.counts.rows (length o) (λ h. h)
    (λ h.
    let b : leb (length o) t.counts.rows ≡ true = le-leb (length o) t.counts.rows h in
    absurd (unplaced_undone t (verdict_of t s) n (sym (j.answer ∙ ap (λ (x : Bool). answer_of t (pick x (without_place (verdict_of t s)) (verdict_of t s))) b))))

-- So what is done is what it is without origins.
pub done_admits : (t : Table) (o : List ℕ) (g : ℕ) (s : List ℕ) (u : Table) (o' : List ℕ) (n : ℕ) → AdmitsFrom t o g s u o' (Done n) → Admits t s u (Done n)
done_admits t o g s u o' n h = from_placed t o g s u o' (Done n) h (done_placed t o g s u o' n h)

-- What is done has the origin that was given, and every other row the one that it had.
pub done_origin : (t : Table) (o : List ℕ) (g : ℕ) (s : List ℕ) (u : Table) (o' : List ℕ) (n : ℕ) → AdmitsFrom t o g s u o' (Done n)
    → (n ≡ next_row t) × ((get_or o' (n - 1) 0 ≡ g) × ((k : ℕ) → k ≢ n - 1 → get_or o' k 0 ≡ get_or o k 0))
done_origin t o g s u o' n h =
    let p = done_placed t o g s u o' n h in
    let e : n ≡ next_row t = (done_grows t s u n (done_admits t o g s u o' n h)).0 in
    let q : o' ≡ set o (n - 1) g = origins_of h in (
      e,
      (
        ap (λ (l : List ℕ). get_or l (n - 1) 0) q ∙ get_or-set_same o (n - 1) g 0 (omega arith),
        λ k d. ap (λ (l : List ℕ). get_or l k 0) q ∙ get_or-set_other o (n - 1) k g 0 d,
      ),
    )
  where
    origins_of : AdmitsFrom t o g s u o' (Done n) → o' ≡ set o (n - 1) g
    origins_of (damaged d e f i) = let z : ◌≡◌ {A = ℕ} 0 1 = cc in absurd (omega arith)
    origins_of (sound k j) = j.origins

-- HELD and every refusal leave the store and the origins: "a HELD item keeps the first origin".
pub undone_keeps : (t : Table) (o : List ℕ) (g : ℕ) (s : List ℕ) (u : Table) (o' : List ℕ) (a : Admitted) → AdmitsFrom t o g s u o' a
    → ((n : ℕ) → a ≡ Done n → ⊥) → (u ≡ t) × (o' ≡ o)
undone_keeps t o g s u o' a (damaged d e f i) h = (f, i)
undone_keeps t o g s u o' a (sound k j) h = (
  by_ltb (λ (x : Bool). u ≡ t) t.counts.rows (length o) (λ l. not_done_keeps t s u a (from_placed t o g s u o' a (sound k j) l) h)
      (λ l. j.after ∙ ap (λ (x : Bool). pick x t (store_after t s)) (le-leb (length o) t.counts.rows l)),
  j.origins ∙ stays a h,
)
  where
    stays : (a : Admitted) → ((n : ℕ) → a ≡ Done n → ⊥) → origins_after o g a ≡ o
    stays (Done n) h = absurd (h n refl)
    stays (Held r) h = refl
    stays (Refused why) h = refl

-- DONE EXACTLY WHEN: as without origins, and there is a place for the new row's.
pub from_done_exactly_when : (t : Table) (o : List ℕ) (g : ℕ) (s : List ℕ) (u : Table) (o' : List ℕ) (a : Admitted) → AdmitsFrom t o g s u o' a
    → ((n : ℕ) × (a ≡ Done n)) ↔ ((WellFormed t × ((f : Fields) × Accepted t s f)) × (t.counts.rows < length o))
from_done_exactly_when t o g s u o' a h = (
  λ d.
      let p = done_placed t o g s u o' d.0 (subst (AdmitsFrom t o g s u o') d.1 h) in
      ((done_exactly_when t s u a (from_placed t o g s u o' a h p)).0 d, p),
  λ c. (done_exactly_when t s u a (from_placed t o g s u o' a h c.1)).1 c.0,
)

-- A store and origins that are well kept stay so.
pub from_keeps : (t : Table) (o : List ℕ) (g : ℕ) (s : List ℕ) (u : Table) (o' : List ℕ) (a : Admitted) → AdmitsFrom t o g s u o' a → WellKept t o
    → WellKept u o'
from_keeps t o g s u o' (Done n) h w =
    let p = done_placed t o g s u o' n h in
    let b = from_placed t o g s u o' (Done n) h p in
    let c : u.counts.rows ≡ t.counts.rows + 1 = ap (λ k. k.rows) (done_grows t s u n b).1.1.1.1.counts_new in
    let l : length o' ≡ length o = same_many h in
    record { store = keeps_well_formed t s u (Done n) b w.store; held = omega arith }
  where
    same_many : AdmitsFrom t o g s u o' (Done n) → length o' ≡ length o
    same_many (damaged d e f i) = ap length i
    same_many (sound k j) = ap length j.origins ∙ length-set o (n - 1) g
from_keeps t o g s u o' (Held r) h w =
    let k = undone_keeps t o g s u o' (Held r) h (λ n e. let z : ◌≡◌ {A = ℕ} 0 1 = cc in omega arith) in
    subst (λ (x : Table). WellKept x o') (sym k.0) (subst (WellKept t) (sym k.1) w)
from_keeps t o g s u o' (Refused why) h w =
    let k = undone_keeps t o g s u o' (Refused why) h (λ n e. let z : ◌≡◌ {A = ℕ} 0 1 = cc in omega arith) in
    subst (λ (x : Table). WellKept x o') (sym k.0) (subst (WellKept t) (sym k.1) w)

-- A well_formed store stays so, whatever the origins.
pub store_keeps : (t : Table) (o : List ℕ) (g : ℕ) (s : List ℕ) (u : Table) (o' : List ℕ) (a : Admitted) → AdmitsFrom t o g s u o' a → WellFormed t
    → WellFormed u
store_keeps t o g s u o' a (damaged n e f i) w = subst WellFormed (sym f) w
store_keeps t o g s u o' a (sound k j) w = (from_keeps t o g s u o' a (sound k j) k).store

-- The same store, origins and row have one report.
pub one_report : (t : Table) (o : List ℕ) (r : ℕ) (a b : Result ℕ Refusal) → Reports t o r a → Reports t o r b → a ≡ b
one_report t o r a b (damaged_store n e) (damaged_store m f) = e ∙ sym f
one_report t o r a b (damaged_store n e) (no_row k c f) = absurd (n k)
one_report t o r a b (damaged_store n e) (reported k c d f) = absurd (n k)
one_report t o r a b (no_row k c e) (damaged_store m f) = absurd (m k)
one_report t o r a b (no_row k c e) (no_row k' c' f) = e ∙ sym f
one_report t o r a b (no_row k c e) (reported k' c' d f) = ⊎_elim (λ z. absurd (omega arith)) (λ z. absurd (omega arith)) c
one_report t o r a b (reported k c d e) (damaged_store m f) = absurd (m k)
one_report t o r a b (reported k c d e) (no_row k' c' f) = ⊎_elim (λ z. absurd (omega arith)) (λ z. absurd (omega arith)) c'
one_report t o r a b (reported k c d e) (reported k' c' d' f) = e ∙ sym f

-- What an admission's promise says: of any answer that keeps `Admits`, for every store and every item.
-- Assumes nothing.
use Rattle.std.specs.Prelude.{Result, Ok, Err}
use Prim.Native.Nat.{ℕ}
use mathlib.Core.Path.{◌≡◌, refl, sym, ap, ◌∙◌}
use mathlib.Core.List.{List}
use mathlib.Core.Logic.{◌↔◌}
use native.Mathlib.Omega.{arith}
use lib.ListN.{drop, get_or}
use Rattle.answers.specs.declared.Refusal.{Refusal}
use Rattle.answers.proofs.Distinct.{one_number, not_held, not_done}
use Rattle.sha256.specs.Sha256.{sha256_of}
use Rattle.item.specs.Id.{id_of}
use Rattle.item.specs.Layout.{layout_of, key_of}
use Rattle.item.specs.declared.Fields.{Fields}
use Rattle.item.proofs.Places.{item_sound}
use Rattle.item.proofs.Verdict.{sound_passed}
use Rattle.store.specs.Table.{Table, WellFormed, id_at}
use Rattle.store.specs.declared.Row.{Row}
use Rattle.admission.specs.Answer.{answer_number, answer_row}
use Rattle.admission.specs.After.{admitted, answer_of, store_then, store_by, Admits, damaged, sound}
use Rattle.admission.specs.Grown.{RowOfItem, Grows}
use Rattle.judging.specs.Message.{next_row, dep_rows}
use Rattle.admission.specs.Paper.{Accepted}
use Rattle.judging.specs.Verdict.{row_for, judged_of, then_judged, verdict_of}
use Rattle.admission.specs.declared.Admitted.{Admitted}
use Rattle.admission.specs.declared.Admitted.TheVariants.{Done, Held, Refused}
use Rattle.judging.specs.declared.Verdict.{Verdict}
use Rattle.judging.specs.declared.Verdict.TheVariants.{Fits, Holds, Breaks}
use Rattle.admission.proofs.Accepting.{accepted, row_of_item, passing}
use Rattle.admission.proofs.Growing.{has_room, grows}
use Rattle.admission.proofs.Joining.{row_branches}
use Rattle.judging.proofs.Passing.{passes, fits}
use Rattle.admission.proofs.Writing.{length_id, length_key, keeps_row}

-- Two answers that keep the promise are one, and so are the stores that they leave.
pub one_answer : (t : Table) (s : List ℕ) (u v : Table) (a b : Admitted) → Admits t s u a → Admits t s v b → (a ≡ b) × (u ≡ v)
one_answer t s u v a b (damaged n e g) (damaged m f h) = (e ∙ sym f, g ∙ sym h)
one_answer t s u v a b (damaged n e g) (sound w j) = absurd (n w)
one_answer t s u v a b (sound w j) (damaged n e g) = absurd (n w)
one_answer t s u v a b (sound w j) (sound x k) = (j.answer ∙ sym k.answer, j.after ∙ sym k.after)

-- Two answers with one number and one row are one.
pub same_number : (a b : Admitted) → answer_number a ≡ answer_number b → answer_row a ≡ answer_row b → a ≡ b
same_number (Done m) (Done n) e g = ap Done g
same_number (Done m) (Held n) e g = absurd (omega arith)
same_number (Done m) (Refused r) e g = absurd (not_done r (sym e))
same_number (Held m) (Done n) e g = absurd (omega arith)
same_number (Held m) (Held n) e g = ap Held g
same_number (Held m) (Refused r) e g = absurd (not_held r (sym e))
same_number (Refused r) (Done n) e g = absurd (not_done r e)
same_number (Refused r) (Held n) e g = absurd (not_held r e)
same_number (Refused r) (Refused q) e g = ap Refused (one_number r q e)

-- What a done admission comes from: the row that the verdict gave, and the item's fields.
pub record Gave (t : Table) (s : List ℕ) (u : Table) (n : ℕ) : Type 0 where
  pub fields : Fields
  pub row : Row
  pub laid : layout_of s ≡ Ok fields
  pub given : judged_of t s fields ≡ Fits row
  pub place : n ≡ next_row t
  pub after : u ≡ admitted t s fields row

module _ (t : Table) (s : List ℕ) (u : Table) (n : ℕ) where
  -- The verdict on an item with these fields, where the answer is done.
  gave_row : (f : Fields) → layout_of s ≡ Ok f → (v : Verdict) → judged_of t s f ≡ v → answer_of t v ≡ Done n → u ≡ store_then t s f v → Gave t s u n
  unfolding store_then
  gave_row f l (Fits row) g e h = record { fields = f; row = row; laid = l; given = g; place = cc; after = h }
  gave_row f l (Holds r) g e h = let z : ◌≡◌ {A = ℕ} 0 1 = cc in absurd (omega arith)
  gave_row f l (Breaks r) g e h = let z : ◌≡◌ {A = ℕ} 0 1 = cc in absurd (omega arith)

  -- The same, by the layout.
  gave_by : (l : Result Fields Refusal) → layout_of s ≡ l → answer_of t (then_judged t s l) ≡ Done n → u ≡ store_by t s l → Gave t s u n
  unfolding then_judged store_by
  gave_by (Ok f) g e h = gave_row f g (judged_of t s f) refl e h
  gave_by (Err r) g e h = let z : ◌≡◌ {A = ℕ} 0 1 = cc in absurd (omega arith)

  -- A done admission gave a row.
  pub gave : (a : Admitted) → Admits t s u a → a ≡ Done n → WellFormed t × Gave t s u n
  gave a (damaged d e g) q = let z : ◌≡◌ {A = ℕ} 0 1 = cc in absurd (omega arith)
  gave a (sound w j) q = (w, gave_by (layout_of s) refl (sym j.answer ∙ q) j.after)

-- DONE EXACTLY WHEN: an admission is done exactly when the store is well formed and the item is an item with mark 1 whose id is new,
-- for which M1 to M6 and document 01's rules of index and room hold.
pub done_exactly_when : (t : Table) (s : List ℕ) (u : Table) (a : Admitted) → Admits t s u a
    → ((n : ℕ) × (a ≡ Done n)) ↔ (WellFormed t × ((f : Fields) × Accepted t s f))
unfolding then_judged
done_exactly_when t s u a h = (there, back h)
  where
    there : ((n : ℕ) × (a ≡ Done n)) → WellFormed t × ((f : Fields) × Accepted t s f)
    there d =
        let x = gave t s u d.0 a h d.1 in
        let g = x.1 in
        let q = passes t s g.fields g.row g.given in
        (x.0, (g.fields, accepted t x.0 s g.fields g.laid q.0 q.1.1))

    back : Admits t s u a → WellFormed t × ((f : Fields) × Accepted t s f) → (n : ℕ) × (a ≡ Done n)
    back (damaged n e g) x = absurd (n x.0)
    back (sound w j) x =
        let f = x.1.0 in
        let y = x.1.1 in
        let p = passing t w s f y in
        let l : layout_of s ≡ Ok f = item_sound s f y.item in
        let v : judged_of t s f ≡ Fits (row_for t s f p.0) = fits t s f p.0 p.1 in
        let z : verdict_of t s ≡ Fits (row_for t s f p.0) = ap (then_judged t s) l ∙ v in
        (next_row t, j.answer ∙ ap (answer_of t) z)

-- A done admission's row is the next one, and the item's; the store after it is the old one with exactly that row, its id, its
-- dependencies, its author's key and its branch counts: every old row, id, key and dependency is what it was, and so is the room that is left.
pub done_grows : (t : Table) (s : List ℕ) (u : Table) (n : ℕ) → Admits t s u (Done n)
    → (n ≡ next_row t) × ((f : Fields) × ((row : Row) × (RowOfItem t s f row (dep_rows t s f) × Grows t u row (id_of s) (key_of s) (dep_rows t s f))))
done_grows t s u n h =
    let x = gave t s u n (Done n) h refl in
    let g = x.1 in
    let f = g.fields in
    let q = passes t s f g.row g.given in
    let p = q.0 in
    let room = has_room t (row_for t s f p) q.1.1.room in
    let k : Grows t (admitted t s f (row_for t s f p)) (row_for t s f p) (id_of s) (key_of s) (dep_rows t s f) =
    grows t s f p x.0 (length_id s) (length_key s f g.laid) room (row_branches t s f p x.0 q.1.1) in
    let e : admitted t s f (row_for t s f p) ≡ u = sym (g.after ∙ ap (admitted t s f) q.1.0) in
    (g.place, (f, (row_for t s f p, (row_of_item t x.0 s f g.laid p q.1.1, rw e at k))))

-- The id of a done admission's row is SHA-256 of the body without the mark.
pub done_id : (t : Table) (s : List ℕ) (u : Table) (n : ℕ) → Admits t s u (Done n) → id_at u n ≡ sha256_of (drop 7 s)
done_id t s u n h = let x = done_grows t s u n h in rw x.0 x.1.1.1.1.id_new

-- THE MARK: an admitted item's mark is the byte 1.
pub done_mark : (t : Table) (s : List ℕ) (u : Table) (n : ℕ) → Admits t s u (Done n) → get_or s 6 0 ≡ 1
done_mark t s u n h =
    let g = (gave t s u n (Done n) h refl).1 in
    let q = passes t s g.fields g.row g.given in
    sym (ap (λ (f : Fields). f.mark) (sound_passed s g.fields g.laid).fields) ∙ q.1.1.marked

module _ (t : Table) (s : List ℕ) where
  -- A verdict that gives no row leaves the store.
  still_row : (f : Fields) (v : Verdict) → ((n : ℕ) → answer_of t v ≡ Done n → ⊥) → store_then t s f v ≡ t
  unfolding store_then
  still_row f (Fits row) h = absurd (h (next_row t) refl)
  still_row f (Holds r) h = refl
  still_row f (Breaks r) h = refl

  -- The same, by the layout.
  still_by : (l : Result Fields Refusal) → ((n : ℕ) → answer_of t (then_judged t s l) ≡ Done n → ⊥) → store_by t s l ≡ t
  unfolding then_judged store_by
  still_by (Ok f) h = still_row f (judged_of t s f) h
  still_by (Err r) h = refl

  -- A verdict leaves a well_formed store well formed.
  keeps_verdict : WellFormed t → (f : Fields) → layout_of s ≡ Ok f → (v : Verdict) → judged_of t s f ≡ v → WellFormed (store_then t s f v)
  unfolding store_then
  keeps_verdict w f l (Fits row) g = keeps_row t s f w l row g
  keeps_verdict w f l (Holds r) g = w
  keeps_verdict w f l (Breaks r) g = w

  -- The same, by the layout.
  keeps_layout : WellFormed t → (l : Result Fields Refusal) → layout_of s ≡ l → WellFormed (store_by t s l)
  unfolding store_by
  keeps_layout w (Ok f) g = keeps_verdict w f g (judged_of t s f) refl
  keeps_layout w (Err r) g = w

-- An answer that is not done leaves every part and the counts as they were.
pub not_done_keeps : (t : Table) (s : List ℕ) (u : Table) (a : Admitted) → Admits t s u a → ((n : ℕ) → a ≡ Done n → ⊥) → u ≡ t
not_done_keeps t s u a (damaged d e g) h = g
not_done_keeps t s u a (sound w j) h = j.after ∙ still_by t s (layout_of s) (λ n q. h n (j.answer ∙ q))

-- A refusal does,
pub refused_keeps : (t : Table) (s : List ℕ) (u : Table) (r : Refusal) → Admits t s u (Refused r) → u ≡ t
refused_keeps t s u r h = not_done_keeps t s u (Refused r) h (λ n q. let z : ◌≡◌ {A = ℕ} 0 1 = cc in omega arith)

-- and so does HELD.
pub held_keeps : (t : Table) (s : List ℕ) (u : Table) (r : ℕ) → Admits t s u (Held r) → u ≡ t
held_keeps t s u r h = not_done_keeps t s u (Held r) h (λ n q. let z : ◌≡◌ {A = ℕ} 0 1 = cc in omega arith)

-- Admission keeps a well_formed store well formed.
pub keeps_well_formed : (t : Table) (s : List ℕ) (u : Table) (a : Admitted) → Admits t s u a → WellFormed t → WellFormed u
keeps_well_formed t s u a (damaged n e g) w = absurd (n w)
keeps_well_formed t s u a (sound w j) x = rw j.after (keeps_layout t s w (layout_of s) refl)

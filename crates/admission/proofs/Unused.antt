-- Document 02, request 10: "a previous row never follows the message that names it, so 13 is never given".
-- Assumes nothing.
use Prim.Native.Nat.{ℕ, ◌≤◌, ◌<◌}
use mathlib.Core.Path.{◌≡◌, refl, ap}
use mathlib.Core.List.{List}
use native.Mathlib.Omega.{arith}
use Rattle.answers.proofs.Distinct.{refusal_never_13}
use Rattle.item.specs.Layout.{previous_of}
use Rattle.store.specs.Paper.{Message}
use Rattle.store.specs.Table.{Table, WellFormed, prev_of}
use Rattle.store.specs.declared.lent.Counts.{Counts}
use Rattle.store.proofs.Facts.{prev_older}
use Rattle.judging.specs.Message.{next_row}
use Rattle.admission.specs.After.{Admits}
use Rattle.admission.specs.Answer.{answer_number}
use Rattle.admission.specs.Paper.{Has}
use Rattle.admission.specs.declared.Admitted.{Admitted}
use Rattle.admission.specs.declared.Admitted.TheVariants.{Done, Held, Refused}
use Rattle.admission.proofs.Theorems.{gave, done_grows, keeps_well_formed}

-- A PREVIOUS ROW NEVER FOLLOWS: of a message that comes to the store, the row that has its previous id is before the row that it would take;
pub previous_older : (t : Table) (s : List ℕ) (r : ℕ) → Has t (previous_of s) r → r < next_row t
previous_older t s r h = let l : r ≤ t.counts.rows = h.message.held in omega arith

-- of a message of a well_formed store, the previous row is before its own;
pub held_older : (t : Table) → WellFormed t → (r : ℕ) → Message t r → prev_of t r < r
held_older t w r m = prev_older t w r m.held m.some

-- and so it is of a message that was admitted.
pub done_older : (t : Table) (s : List ℕ) (u : Table) (n : ℕ) → Admits t s u (Done n) → prev_of u n < n
done_older t s u n h =
    let w = keeps_well_formed t s u (Done n) h (gave t s u n (Done n) h refl).0 in
    let g = done_grows t s u n h in
    let e : n ≡ next_row t = g.0 in
    let c : u.counts.rows ≡ next_row t = ap (λ (x : Counts). x.rows) g.1.1.1.1.counts_new in
    held_older u w n (record { some = omega arith; held = omega arith })

-- So no store and no item meets the line of 13: "previous row is at or after the row the message would take".
pub line_13_empty : (t : Table) (s : List ℕ) (r : ℕ) → Has t (previous_of s) r → next_row t ≤ r → ⊥
line_13_empty t s r h l = let o : r < next_row t = previous_older t s r h in omega arith

-- No admission is answered 13.
pub admitted_never_13 : (a : Admitted) → answer_number a ≡ 13 → ⊥
admitted_never_13 (Done row) e = omega arith
admitted_never_13 (Held row) e = omega arith
admitted_never_13 (Refused r) e = refusal_never_13 r e

-- The clean intake, taken in whole by an empty store.
-- Assumes nothing.
use Rattle.std.specs.Prelude.{Ok}
use Prim.Native.Nat.{ℕ, ◌+◌, ◌*◌}
use mathlib.Core.Path.{◌≡◌, refl, sym, ap, ◌∙◌}
use mathlib.Core.List.{List, ◌∷◌, ◌++◌}
use native.Mathlib.Omega.{arith}
use lib.ListN.{length, drop}
use Rattle.cutting.specs.Cutting.{items_of}
use Rattle.admission.specs.Answer.{answer_number, answer_row}
use Rattle.admission.specs.declared.Admitted.{Admitted}
use Rattle.morning.specs.Intake.{Kept, Sound, kept_after, answers_to, answer_width, TakesIn}
use Rattle.morning.specs.Intake as intake
use Rattle.rescue.specs.Greedy.{salvage_origin}
use Rattle.rescue.specs.Orders.{AllAdmitted, none_left, admitted, dones_from}
use Rattle.rescue.specs.Salvaging.{Lent, empty_in, salvage_of, clean_of}
use Rattle.rescue.proofs.Growth.{done_count, sound_after}
use Rattle.rescue.proofs.Theorems.{empty_sound, clean_ordered, clean_leaves}

-- Items that are all admitted in turn are answered 0, each with the next row.
all_done : {k : Kept} {is : List (List ℕ)} → Sound k → AllAdmitted k is → answers_to k salvage_origin is ≡ dones_from k.store.counts.rows (length is)
unfolding answers_to dones_from
all_done w (none_left k) = refl
all_done w (admitted k i is row e rest) =
    let c = done_count k w salvage_origin i row e in
    let u = kept_after k salvage_origin i in
    let h = all_done (sound_after k w salvage_origin i) rest in
    ap (λ (a : Admitted). answer_number a ∷ answer_row a ∷ answers_to u salvage_origin is) e
    ∙ ap (λ (n : ℕ). 0 ∷ n ∷ answers_to u salvage_origin is) c.0
    ∙ ap (λ (r : List ℕ). 0 ∷ (k.store.counts.rows + 1) ∷ r) (h ∙ ap (λ (n : ℕ). dones_from n (length is)) c.1)

-- THE CLEAN INTAKE IS CLEAN: a morning's intake of it into an empty store with origin 0 answers every item with 0 and the next row, and leaves
-- the store that the salvage left.
pub clean_taken_in : (stick : List ℕ) (l : Lent) (list : List ℕ) (k' : Kept) (list' : List ℕ) (n : ℕ)
    → TakesIn (empty_in l) salvage_origin (clean_of (items_of stick) (salvage_of stick l)) list k' list' (Ok n)
    → (k' ≡ (salvage_of stick l).kept) × (list' ≡ dones_from 0 n ++ drop (answer_width * n) list)
clean_taken_in stick l list k' list' n (intake.damaged d e f h) = let z : ◌≡◌ {A = ℕ} 0 1 = cc in absurd (omega arith)
clean_taken_in stick l list k' list' n (intake.no_room w d e f h) = let z : ◌≡◌ {A = ℕ} 0 1 = cc in absurd (omega arith)
clean_taken_in stick l list k' list' n (intake.taken_in w d e each) =
    let items = items_of (clean_of (items_of stick) (salvage_of stick l)) in
    let many : n ≡ length items = cc in (
      each.kept ∙ sym (clean_leaves stick l),
      each.list
          ∙ ap (λ (r : List ℕ). r ++ drop (2 * length items) list) (all_done (empty_sound l) (clean_ordered stick l))
          ∙ ap (λ (m : ℕ). dones_from 0 m ++ drop (2 * m) list) (sym many),
    )

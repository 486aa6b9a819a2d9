-- Document 02, request 10: "13 is never given", of the plain forms: the number of none of them is 13.
-- Assumes nothing.
use Rattle.logs.specs.declared.LogState.{LogState}
use Rattle.logs.specs.declared.Nearest.{Nearest}
use Rattle.item.specs.declared.Fields.{Fields}
use Rattle.std.specs.Prelude.{Bool, ℕ, Result, Ok, Err}
use Rattle.answers.specs.declared.Refusal.{Refusal}
use mathlib.Core.Path.{◌≡◌}
use native.Mathlib.Omega.{arith}
use Rattle.answers.proofs.Distinct.{refusal_never_13}
use Rattle.answers.proofs.Unused.{choice_never_13, written_never_13}
use Rattle.logs.proofs.Unused.{prefixed_never_13, merged_never_13}
use Rattle.admission.specs.declared.Admitted.{Admitted}
use Rattle.store.specs.declared.lent.Counts.{Counts}
use Rattle.admission.proofs.Unused.{admitted_never_13}
use Rattle.plain.specs.Plain.{prefix_answer, state_answer, choice_answer, written_answer, admit_answer, origin_answer, item_answer, stretch_answer}

-- No row,
pub row_never_13 : (p : Result Nearest Refusal) → (prefix_answer p).number ≡ 13 → ⊥
row_never_13 p e = prefixed_never_13 p e

-- no state,
pub state_never_13 : (m : Result LogState Refusal) → (state_answer m).number ≡ 13 → ⊥
unfolding state_answer
state_never_13 m e = merged_never_13 m e

-- no yes or no,
pub yes_never_13 : (c : Result Bool Refusal) → (choice_answer c).number ≡ 13 → ⊥
yes_never_13 c e = choice_never_13 c e

-- no count of numbers,
pub count_never_13 : (w : Result ℕ Refusal) → (written_answer w).number ≡ 13 → ⊥
count_never_13 w e = written_never_13 w e

-- no admission,
pub admit_never_13 : (a : Admitted) (c : Counts) → (admit_answer a c).number ≡ 13 → ⊥
admit_never_13 a c e = admitted_never_13 a e

-- no origin of a row,
pub origin_never_13 : (o : Result ℕ Refusal) → (origin_answer o).number ≡ 13 → ⊥
origin_never_13 (Ok g) e = omega arith
origin_never_13 (Err why) e = refusal_never_13 why e

-- no item that is read,
pub item_never_13 : (l : Result Fields Refusal) → (item_answer l).number ≡ 13 → ⊥
item_never_13 (Ok f) e = omega arith
item_never_13 (Err r) e = refusal_never_13 r e

-- and no stretch comes with 13.
pub stretch_never_13 : (l : Result Fields Refusal) → (stretch_answer l).number ≡ 13 → ⊥
stretch_never_13 (Ok f) e = omega arith
stretch_never_13 (Err r) e = refusal_never_13 r e

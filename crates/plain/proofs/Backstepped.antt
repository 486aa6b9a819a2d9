-- Document 02, request 10: "13 is never given", with a backstep.
-- Assumes nothing.
use Rattle.std.specs.Prelude.{Result, Ok, Err}
use Rattle.answers.specs.declared.Refusal.{Refusal}
use Rattle.catalogue.specs.declared.deciding.Backstep.{Backstep}
use mathlib.Core.Path.{◌≡◌}
use native.Mathlib.Omega.{arith}
use Rattle.answers.proofs.Distinct.{refusal_never_13}
use Rattle.plain.specs.Backsteps.{backstep_answer}

-- No backstep comes with 13.
pub backstep_never_13 : (b : Result Backstep Refusal) → (backstep_answer b).number ≡ 13 → ⊥
backstep_never_13 (Ok w) e = omega arith
backstep_never_13 (Err why) e = refusal_never_13 why e

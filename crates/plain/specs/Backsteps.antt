-- The plain form of the catalogue's backstep: 0 with the two rows, or the refusal's number with zeros.
-- Assumes nothing.
use Rattle.std.specs.Prelude.{Result}
use Rattle.answers.specs.declared.Refusal.{Refusal}
use Rattle.catalogue.specs.declared.deciding.Backstep.{Backstep}
use Rattle.catalogue.specs.Calls.{backstep_number, backstep_row, backstep_earlier}
use Rattle.plain.specs.declared.backsteps.BackstepAnswer.{BackstepAnswer}

-- The two rows of a backstep.
abbrev pub backstep_answer : Result Backstep Refusal → BackstepAnswer
backstep_answer b = record { number = backstep_number b; row = backstep_row b; earlier = backstep_earlier b }

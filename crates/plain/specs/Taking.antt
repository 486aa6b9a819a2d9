-- The plain form of the answer to a whole intake.
-- Assumes nothing.
use Rattle.std.specs.Prelude.{ℕ, Result}
use Rattle.answers.specs.declared.Refusal.{Refusal}
use Rattle.answers.specs.Answers.{written_number, written_count}
use Rattle.store.specs.declared.lent.Counts.{Counts}
use Rattle.plain.specs.declared.taking.IntakeAnswer.{IntakeAnswer}

-- How many items there are, or the refusal's number with 0; the counts are those of the store after the call.
abbrev pub intake_answer : Result ℕ Refusal → Counts → IntakeAnswer
intake_answer w c = record { number = written_number w; items = written_count w; counts = c }

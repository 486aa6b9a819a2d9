-- The numbers and the row of an admission's answer: document 01, "Answer numbers".
-- Assumes nothing.
use Rattle.std.specs.Prelude.{ℕ}
use Rattle.answers.specs.Number.{number_of}
use Rattle.admission.specs.declared.Admitted.{Admitted}
use Rattle.admission.specs.declared.Admitted.TheVariants.{Done, Held, Refused}

-- 0 done, 8 HELD, and the number of each refusal.
abbrev pub answer_number : Admitted → ℕ
answer_number (Done row) = 0
answer_number (Held row) = 8
answer_number (Refused r) = number_of r

-- "admitted, with the new row"; "A refusal returns its number and row 0 (HELD: the row)".
abbrev pub answer_row : Admitted → ℕ
answer_row (Done row) = row
answer_row (Held row) = row
answer_row (Refused r) = 0

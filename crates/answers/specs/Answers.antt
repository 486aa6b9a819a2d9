-- The answers that several calls share: document 01's number of each case, and the value that it gives.
-- Assumes nothing.
use Rattle.answers.specs.declared.Refusal.{Refusal}
use Rattle.std.specs.Prelude.{ℕ, Bool, true, false, Result, Ok, Err}
use Rattle.answers.specs.Number.{number_of}

-- The number of a check: 0, or the refusal's.
abbrev pub checked_number : Result (Unit {0}) Refusal → ℕ
checked_number (Ok tt) = 0
checked_number (Err why) = number_of why

-- The number of a yes or no: 0, or the refusal's.
abbrev pub choice_number : Result Bool Refusal → ℕ
choice_number (Ok b) = 0
choice_number (Err why) = number_of why

-- Yes is 1 and no is 0.
abbrev pub yes_number : Bool → ℕ
yes_number true = 1
yes_number false = 0

-- What a yes or no says, and 0 on a refusal.
abbrev pub choice_said : Result Bool Refusal → ℕ
choice_said (Ok b) = yes_number b
choice_said (Err why) = 0

-- The number of a call that writes numbers: 0, or the refusal's.
abbrev pub written_number : Result ℕ Refusal → ℕ
written_number (Ok n) = 0
written_number (Err why) = number_of why

-- "Both calls return how many numbers they wrote": none on a refusal.
abbrev pub written_count : Result ℕ Refusal → ℕ
written_count (Ok n) = n
written_count (Err why) = 0

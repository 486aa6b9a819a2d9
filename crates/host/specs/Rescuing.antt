-- What `snowknoll_salvage` promises: document 02, §11, of an answer whose plain form it returns.
-- Assumes nothing.
use Rattle.answers.specs.declared.Refusal.{Refusal}
use Rattle.rescue.specs.declared.Clean.{Clean}
use Rattle.std.specs.Prelude.{List, ℕ, Result, Ok, Err}
use Rattle.answers.specs.Number.{number_of}
use Rattle.rescue.specs.Salvaging.{Lent, empty_counts, Salvages}
use Rattle.host.specs.declared.rescuing.SalvageAnswer.{SalvageAnswer}
use Rattle.host.specs.Calls.{Plainly}

-- 0 with how many items the stick has, how many bytes the clean intake has and the counts of the store; or the refusal's number with zeros.
abbrev pub salvage_answer : Result Clean Refusal → SalvageAnswer
salvage_answer (Ok c) = record { number = 0; items = c.items; bytes = c.bytes; counts = c.counts }
salvage_answer (Err why) = record { number = number_of why; items = 0; bytes = 0; counts = empty_counts }

-- What the call promises of the stick, and of all that is lent before and after.
abbrev pub SalvagesPlainly : List ℕ → Lent → Lent → SalvageAnswer → Type 0
SalvagesPlainly stick l l' r = Plainly _ _ (Salvages stick l l') salvage_answer r

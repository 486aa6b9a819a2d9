-- What the C functions that write and read a standing promise.
-- Assumes nothing.
use Rattle.std.specs.Prelude.{ℕ, List}
use Rattle.store.specs.Table.{Table}
use Rattle.standing.specs.Calls.{WritesStanding, ReadsStanding}
use Rattle.plain.specs.declared.CountAnswer.{CountAnswer}
use Rattle.plain.specs.Plain.{written_answer}
use Rattle.host.specs.Calls.{Plainly}

-- What `snowknoll_write_standing` promises of a frontier, and of the bytes before and after.
abbrev pub SendsPlainly : Table → List ℕ → List ℕ → List ℕ → CountAnswer → Type 0
SendsPlainly t f out out' r = Plainly _ _ (WritesStanding t f out out') written_answer r

-- What `snowknoll_read_standing` promises of an item, and of the list before and after.
abbrev pub ReceivesPlainly : Table → List ℕ → List ℕ → List ℕ → CountAnswer → Type 0
ReceivesPlainly u s out out' r = Plainly _ _ (ReadsStanding u s out out') written_answer r

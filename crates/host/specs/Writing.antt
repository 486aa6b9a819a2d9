-- What the C function that writes an item promises.
-- Assumes nothing.
use Rattle.std.specs.Prelude.{ℕ, List}
use Rattle.writing.specs.Message.{Message}
use Rattle.writing.specs.Writing.{WritesItem}
use Rattle.plain.specs.declared.CountAnswer.{CountAnswer}
use Rattle.plain.specs.Plain.{written_answer}
use Rattle.host.specs.Calls.{Plainly}

-- What `snowknoll_write_item` promises of a message, and of the buffer before and after.
abbrev pub WritesPlainly : Message → List ℕ → List ℕ → CountAnswer → Type 0
WritesPlainly m out out' r = Plainly _ _ (WritesItem m out out') written_answer r

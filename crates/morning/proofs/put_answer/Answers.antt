-- `morning::put_answer` meets its contract.
-- Assumes nothing.
use Rattle.morning.proofs.put_answer.Goals as goal

pub returns : goal.returns
returns c = rw (c.answer_number.ensures, c.answer_row.ensures)

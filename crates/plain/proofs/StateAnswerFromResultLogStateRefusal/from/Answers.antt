-- `StateAnswer::from` meets its contract: by the answer's cases.
-- Assumes nothing.
use Rattle.std.proofs.Common.{rules}
use Rattle.plain.specs.Plain.{state_answer}
use Rattle.plain.proofs.StateAnswerFromResultLogStateRefusal.from.Goals as goal

pub returns-in-Ok : goal.returns-in-Ok
unfolding state_answer
returns-in-Ok c = search rules

pub returns-in-Err : goal.returns-in-Err
unfolding state_answer
returns-in-Err c = search rules

-- `morning::admit_next` meets its contract: the item is cut, admitted and listed.
-- Assumes nothing.
use Rattle.morning.specs.Intake.{kept_by}
use Rattle.morning.proofs.Going.{next_of}
use Rattle.morning.proofs.admit_next.Goals as goal

pub put_answer-requires : goal.put_answer-requires
put_answer-requires c =
    c.requires.1.1

pub returns-clause-taken : goal.returns-clause-taken
returns-clause-taken c =
    let a = c.args in
    next_of (kept_by a.store.now a.origins.now) a.origin
    a.stretch.now a.at a.list.now a.k _ _ _ _ c.admit_sound-answer.result
    c.requires.0 c.cut_item-cut.ensures c.admit_sound-answer.ensures.judged c.put_answer.ensures

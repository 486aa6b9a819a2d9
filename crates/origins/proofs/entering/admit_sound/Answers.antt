-- `origins::entering::admit_sound` meets its contract.
-- Assumes nothing.
use Rattle.store.specs.Clauses.{table_held}
use Rattle.judging.specs.Verdict.{verdict_of}
use Rattle.origins.proofs.Placing.{judged_unplaced, placed_of, judged_placed}
use Rattle.origins.proofs.entering.admit_sound.Goals as goal

pub returns-then-origins-store-clause-judged : goal.returns-then-origins-store-clause-judged
returns-then-origins-store-clause-judged c =
    let a = c.args in
    judged_unplaced (table_held a.store.now) a.origins.now a.origin
    a.item.now _ c.if-origins-store.true (rw c.read.ensures at c.unplaced.ensures)

pub put_origin-requires : goal.put_origin-requires
put_origin-requires c =
    let a = c.args in
    placed_of (table_held a.store.now) a.origins.now (verdict_of (table_held a.store.now) a.item.now) _
    c.if-origins-store.false c.admit_sound-answer.ensures.judged.answer

pub returns-clause-judged : goal.returns-clause-judged
returns-clause-judged c =
    let a = c.args in
    judged_placed (table_held a.store.now) a.origins.now a.origin
    a.item.now _ _ _ c.if-origins-store.false c.admit_sound-answer.ensures.judged c.put_origin.ensures

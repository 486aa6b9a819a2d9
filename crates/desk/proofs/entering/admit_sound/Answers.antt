-- `desk::entering::admit_sound` meets its contract: the store is judged with as many places as all three parts have, and a new row has one in each.
-- Assumes nothing.
use Rattle.store.specs.Clauses.{table_held}
use Rattle.desk.specs.Desk.{desk_of}
use Rattle.desk.proofs.Steps.{placed_beside, desk_judged}
use Rattle.desk.proofs.entering.admit_sound.Goals as goal

pub put_beside-requires : goal.put_beside-requires
put_beside-requires c =
    let a = c.args in
    placed_beside (table_held a.store.now)
    (desk_of a.origins.now a.components.now a.expanded.now) a.item.now _ _ _ c.min.ensures c.min-places.ensures
    c.admit_store-answer.ensures.judged.answer

pub returns-clause-judged : goal.returns-clause-judged
returns-clause-judged c =
    let a = c.args in
    desk_judged (table_held a.store.now)
    (desk_of a.origins.now a.components.now a.expanded.now) a.origin a.item.now _ _ _ _ _ c.min.ensures
    c.min-places.ensures c.admit_store-answer.ensures.judged c.put_beside.ensures

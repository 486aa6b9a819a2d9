-- `logs::ordering::admissible` meets its contract: it is the lower evidence, or its id is not below that of the higher.
-- Assumes nothing.
use Rattle.logs.proofs.Orders.{low_admissible, other_admissible}
use Rattle.logs.proofs.ordering.admissible.Goals as goal

pub returns-then-c-low : goal.returns-then-c-low
returns-then-c-low c =
    let a = c.args in
    low_admissible a.ids.now a.low a.high a.c c.if-c-low.true

pub returns : goal.returns
returns c =
    let a = c.args in
    other_admissible a.ids.now a.low a.high a.c c.lower.result c.if-c-low.false c.lower.ensures

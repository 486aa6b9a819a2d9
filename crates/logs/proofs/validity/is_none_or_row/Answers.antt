-- `logs::validity::is_none_or_row` meets its contract.
-- Assumes nothing.
use Rattle.logs.proofs.Valids.{none_node, row_node}
use Rattle.logs.proofs.validity.is_none_or_row.Goals as goal

pub returns-then-x-eq0 : goal.returns-then-x-eq0
returns-then-x-eq0 c =
    let a = c.args in
    none_node a.rows.now a.count a.author a.x c.if-x-eq0.true

pub returns : goal.returns
returns c =
    let a = c.args in
    row_node a.rows.now a.count a.author a.x c.if-x-eq0.false c.is_row.result c.is_row.ensures

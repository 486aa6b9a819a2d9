-- `logs::validity::is_child` meets its contract: a row of the author, by its previous row.
-- Assumes nothing.
use Rattle.logs.proofs.Valids.{no_row_no_child, child_by_prev}
use Rattle.logs.proofs.validity.is_child.Goals as goal

pub returns-then-not-is_row : goal.returns-then-not-is_row
returns-then-not-is_row c =
    let a = c.args in
    let t = c.is_row in
    no_row_no_child a.rows.now a.count a.author a.x a.last t.result t.ensures c.if-not-is_row.true

pub returns : goal.returns
returns c =
    let a = c.args in
    let t = c.is_row in
    child_by_prev a.rows.now a.count a.author a.x a.last
    c.wide.result
    c.wide-2.result
    c.row_at-row.result
    t.result
    t.ensures
    c.if-not-is_row.false
    c.wide.ensures
    c.row_at-row.ensures
    c.wide-2.ensures

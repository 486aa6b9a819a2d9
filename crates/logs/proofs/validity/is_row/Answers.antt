-- `logs::validity::is_row` meets its contract: each test is a part of what a row of the author is.
-- Assumes nothing.
use Rattle.logs.proofs.Valids.{none_no_row, past_no_row, row_by_author}
use Rattle.logs.proofs.validity.is_row.Goals as goal

pub returns-then-x-eq0 : goal.returns-then-x-eq0
returns-then-x-eq0 c =
    let a = c.args in
    none_no_row a.rows.now a.count a.author a.x c.if-x-eq0.true

pub returns-then-count-place : goal.returns-then-count-place
returns-then-count-place c =
    let a = c.args in
    past_no_row a.rows.now a.count a.author a.x c.wide-place.result c.wide-place.ensures c.if-count-place.true

pub returns : goal.returns
returns c =
    let a = c.args in
    row_by_author a.rows.now a.count a.author a.x c.wide-place.result c.wide-who.result c.row_at-row.result
    c.if-x-eq0.false
    c.wide-place.ensures
    c.if-count-place.false
    c.row_at-row.ensures
    c.wide-who.ensures

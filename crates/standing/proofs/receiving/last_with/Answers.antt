-- `standing::receiving::last_with` meets its contract: none, or the row that has the id.
-- Assumes nothing.
use Rattle.standing.proofs.Held.{last_row_none, last_row_some}
use Rattle.standing.proofs.receiving.last_with.Goals as goal

pub returns-then-byte_in-eq0 : goal.returns-then-byte_in-eq0
returns-then-byte_in-eq0 c = let a = c.args in last_row_none a.ids.now a.rows a.item.now a.i _ c.byte_in.ensures
    c.if-byte_in-eq0.true

pub returns : goal.returns
returns c =
    let a = c.args in
    last_row_some a.ids.now a.rows a.item.now a.i _ _ c.byte_in.ensures c.if-byte_in-eq0.false c.row_with.ensures

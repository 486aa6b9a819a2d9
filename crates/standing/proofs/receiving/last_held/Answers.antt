-- `standing::receiving::last_held` meets its contract: it does not apply, or its place decides.
-- Assumes nothing.
use Rattle.standing.proofs.Held.{last_none, last_some}
use Rattle.standing.proofs.receiving.last_held.Goals as goal

pub returns-then-byte_in-eq0 : goal.returns-then-byte_in-eq0
returns-then-byte_in-eq0 c = let a = c.args in last_none a.ids.now a.rows a.item.now a.i _ c.byte_in.ensures
    c.if-byte_in-eq0.true

pub returns : goal.returns
returns c =
    let a = c.args in
    last_some a.ids.now a.rows a.item.now a.i _ _ c.byte_in.ensures c.if-byte_in-eq0.false c.row_with.ensures

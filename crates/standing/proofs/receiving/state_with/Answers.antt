-- `standing::receiving::state_with` meets its contract: growing, or forked with the rows that have the evidence ids.
-- Assumes nothing.
use mathlib.Core.Path.{refl}
use Rattle.standing.proofs.Held.{growing_rows, forked_rows}
use Rattle.standing.proofs.receiving.state_with.Goals as goal

pub returns-then-byte_in-eq0 : goal.returns-then-byte_in-eq0
returns-then-byte_in-eq0 c =
    let a = c.args in
    (refl, growing_rows a.ids.now a.rows a.item.now a.i _ _ c.byte_in.ensures c.if-byte_in-eq0.true c.last_with-last.ensures)

pub returns : goal.returns
returns c =
    let a = c.args in (
      refl,
      forked_rows a.ids.now a.rows a.item.now a.i _ _ _ _ c.byte_in.ensures c.if-byte_in-eq0.false
          c.last_with-last.ensures
          c.row_with-low.ensures c.row_with-high.ensures,
    )

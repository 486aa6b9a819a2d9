-- `catalogue::deciding::lowest_break` meets its contract: the rows passed keep M7.
-- Assumes nothing.
use native.Mathlib.Omega.{arith}
use Rattle.catalogue.proofs.Nearer.{steps_back}
use Rattle.catalogue.proofs.Stored.{break_within, steps_same}
use Rattle.catalogue.proofs.deciding.lowest_break.Goals as goal

pub narrow-requires-then-earlier-ne0 : goal.narrow-requires-then-earlier-ne0
narrow-requires-then-earlier-ne0 c =
    let a = c.args in
    let l = c.loop-row in
    let b = break_within a.rows.now a.deps.now a.starts.now a.count l.row _ _ _ c.requires (omega arith)
    (omega (arith, c.loop-row-test.true)) c.row_at-this.ensures
    c.latest_break-earlier.ensures c.if-earlier-ne0.true in
    omega (arith, b, c.requires.limit)

pub returns-then-earlier-ne0 : goal.returns-then-earlier-ne0
returns-then-earlier-ne0 c =
    let a = c.args in
    let l = c.loop-row in
    steps_same a.rows.now a.deps.now a.count _ _ _ _
    (steps_back a.rows.now a.deps.now a.count l.row _ _ _ (omega arith)
    (omega (arith, c.loop-row-test.true)) c.row_at-this.ensures
    c.list_of.ensures c.latest_break-earlier.ensures c.if-earlier-ne0.true
    l.invariant) c.narrow.ensures c.narrow-then-earlier-ne0.ensures

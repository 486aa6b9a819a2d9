-- `catalogue::deciding::latest_break` meets its contract: the latest of those judged so far.
-- Assumes nothing.
use native.Mathlib.Omega.{arith}
use Rattle.catalogue.proofs.Nearer.{latest_none, latest_next}
use Rattle.catalogue.proofs.deciding.latest_break.Goals as goal

pub loop-named-init : goal.loop-named-init
loop-named-init c = latest_none _ _ _

pub loop-named-preserved : goal.loop-named-preserved
loop-named-preserved c =
    let a = c.args in
    let l = c.loop-named in
    latest_next a.rows.now a.deps.now a.on a.list.now l.named-index l.latest _ _ _
    (omega (arith, c.loop-named-test.true)) c.wide.ensures l.invariant
    c.break_by-found.ensures c.max-latest.ensures

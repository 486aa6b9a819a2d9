-- `salvage::marks::wake` meets its contract.
-- Assumes nothing.
use native.Mathlib.Omega.{arith}
use Rattle.std.proofs.Common.{rules}
use Rattle.cutting.specs.Cutting.{items_of}
use Rattle.salvage.proofs.Marking.{woken_more}
use Rattle.salvage.proofs.marks.wake.Goals as goal

pub loop-k-preserved : goal.loop-k-preserved
loop-k-preserved c =
    let l = c.loop-k in
    let t = c.loop-k-test.true in
    let w = woken_more (items_of c.args.stick.now) _ c.args.id.now l.k l.list _ _ l.invariant.1 (omega (arith, l.invariant.0.1, t)) c.item_at.ensures
    c.wake_item.ensures in
    (search rules, w)

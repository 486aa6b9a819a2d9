-- `salvage::marks::free_all` meets its contract.
-- Assumes nothing.
use native.Mathlib.Omega.{arith}
use Rattle.std.proofs.Common.{rules}
use Rattle.salvage.proofs.Marking.{free_more}
use Rattle.salvage.proofs.marks.free_all.Goals as goal

pub loop-k-preserved : goal.loop-k-preserved
loop-k-preserved c =
    let l = c.loop-k in
    let f = free_more _ l.k l.list _ l.invariant.1 (omega (arith, l.invariant.0, c.loop-k-test.true))
    c.put_mark.ensures in
    (search rules, f)

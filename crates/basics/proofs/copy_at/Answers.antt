-- `basics::copy_at` meets its contract: one element more is copied.
-- Assumes nothing.
use Rattle.std.proofs.Common.{arith}
use Rattle.basics.proofs.Copies.{stored_any}
use Rattle.basics.proofs.copy_at.Goals as goal

pub loop-i-preserved : goal.loop-i-preserved
loop-i-preserved g c =
    let l = c.loop-i in
    stored_any _ c.args.at c.args.from.now l.i l.out c.index-from-i.result l.invariant (omega (arith, c.requires)) (omega arith) c.index-from-i.is

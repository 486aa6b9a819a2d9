-- `writing::laying::put16` meets its contract: two bytes are stored, the low byte first.
-- Assumes nothing.
use native.Mathlib.Omega.{arith}
use lib.Seq.{lt-length-set}
use Rattle.writing.proofs.Behind.{laid_16}
use Rattle.writing.proofs.laying.put16.Goals as goal

pub bounds-out-at-2 : goal.bounds-out-at-2
bounds-out-at-2 c = lt-length-set c.args.out.now c.args.at _ (omega arith)

pub returns : goal.returns
returns c = laid_16 c.args.out.now c.args.at c.args.n c.requires

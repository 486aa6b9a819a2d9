-- `ladder::sum` is safe: each number is below 65,536, so the total fits.
-- Assumes nothing.
use Prim.Native.Nat.{◌*◌, ◌≤◌}
use Rattle.ladder.proofs.sum.Given as goal

abbrev pub invariant-loop-x : goal.invariant-loop-x
invariant-loop-x l = l.total ≤ 65536 * l.x-index

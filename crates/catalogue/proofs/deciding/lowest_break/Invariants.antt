-- `catalogue::deciding::lowest_break` meets its contract: the rows passed keep M7.
-- Assumes nothing.
use Prim.Native.Nat.{◌-◌}
use Rattle.catalogue.specs.Steady.{KeepUpTo}
use Rattle.catalogue.proofs.deciding.lowest_break.Given as goal

abbrev pub invariant-loop-row : goal.invariant-loop-row
invariant-loop-row l = KeepUpTo l.rows l.deps (l.row - 1)

-- `frontiers::counting::merged_length` meets its contract.
-- Assumes nothing.
use Prim.Native.Nat.{◌*◌, ◌-◌, ◌≤◌}
use Rattle.frontiers.specs.Numbers.{entry_width}
use Rattle.frontiers.proofs.Lengths.{Counted}
use Rattle.frontiers.proofs.counting.merged_length.Given as goal

abbrev pub invariant-loop-a : goal.invariant-loop-a
invariant-loop-a l = (l.count ≤ entry_width * l.a) × Counted l.authors l.f l.g (l.a - 1) l.count

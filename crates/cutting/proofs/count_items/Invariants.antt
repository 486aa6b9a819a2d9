-- `cutting::count_items` meets its contract: those counted and those of the bytes that are left are all.
-- Assumes nothing.
use Prim.Native.Nat.{◌-◌}
use lib.ListN.{length}
use Rattle.cutting.proofs.Items.{Counted}
use Rattle.cutting.proofs.count_items.Given as goal

abbrev pub invariant-loop-at : goal.invariant-loop-at
invariant-loop-at l = Counted l.stretch l.at l.items

abbrev pub decreases-loop-at : goal.decreases-loop-at
decreases-loop-at l = length l.stretch - l.at

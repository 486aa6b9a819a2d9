-- `packing::marking::mark_entries` meets its contract: after some entries what they pack is marked, and from each root a walk may begin.
-- Assumes nothing.
use Rattle.packing.proofs.Filling.{Entered}
use Prim.Native.Nat.{◌/◌}
use lib.ListN.{length}
use Rattle.frontiers.specs.Numbers.{entry_width}
use Rattle.packing.proofs.marking.mark_entries.Given as goal

abbrev pub invariant-loop-entry : goal.invariant-loop-entry
invariant-loop-entry l = Entered l.rows l.deps l.starts l.frontier l.initial.marks l.marks (length l.frontier / entry_width) l.entry

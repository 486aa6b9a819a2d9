-- `salvage::marks::wake` meets its contract.
-- Assumes nothing.
use Prim.Native.Nat.{◌+◌, ◌*◌, ◌≤◌}
use mathlib.Core.Path.{◌≡◌}
use lib.ListN.{length}
use Rattle.cutting.specs.Cutting.{items_of}
use Rattle.salvage.specs.Marks.{Woken}
use Rattle.salvage.proofs.marks.wake.Given as goal

abbrev pub invariant-loop-k : goal.invariant-loop-k
invariant-loop-k l =
    ((l.n + 1 ≤ length l.begins) × ((2 * l.n ≤ length l.initial.list) × (length l.list ≡ length l.initial.list))) × Woken (items_of l.stick) l.initial.list l.id l.k l.list

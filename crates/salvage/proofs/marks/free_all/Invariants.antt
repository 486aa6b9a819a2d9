-- `salvage::marks::free_all` meets its contract.
-- Assumes nothing.
use Prim.Native.Nat.{◌*◌, ◌≤◌}
use mathlib.Core.Path.{◌≡◌}
use lib.ListN.{length}
use Rattle.salvage.specs.Marks.{AllFree}
use Rattle.salvage.proofs.marks.free_all.Given as goal

abbrev pub invariant-loop-k : goal.invariant-loop-k
invariant-loop-k l = ((2 * l.n ≤ length l.initial.list) × (length l.list ≡ length l.initial.list)) × AllFree l.initial.list l.k l.list

-- `salvage::marks::lowest_free` meets its contract: none of the items passed is free.
-- Assumes nothing.
use Prim.Native.Nat.{ℕ, ◌<◌}
use mathlib.Core.Logic.{◌≢◌}
use Rattle.salvage.specs.Marks.{mark_of}
use Rattle.salvage.proofs.marks.lowest_free.Given as goal

abbrev pub invariant-loop-k : goal.invariant-loop-k
invariant-loop-k l = (p : ℕ) → p < l.k → mark_of l.list p ≢ 2

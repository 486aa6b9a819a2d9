-- `salvage::marks::fill_begins` meets its contract.
-- Assumes nothing.
use Prim.Native.Nat.{ℕ, ◌-◌, ◌≤◌, ◌<◌}
use mathlib.Core.Path.{◌≡◌}
use lib.ListN.{length, get_or}
use Rattle.cutting.specs.Cutting.{items_of}
use Rattle.salvage.specs.Marks.{begin_of}
use Rattle.salvage.proofs.Places.{Reached}
use Rattle.salvage.proofs.marks.fill_begins.Given as goal

abbrev pub invariant-loop-at : goal.invariant-loop-at
invariant-loop-at l =
    ((length l.begins ≡ length l.initial.begins) × (length (items_of l.stick) < length l.begins)) ×
    (Reached l.stick l.at l.k × ((p : ℕ) → p ≤ l.k → get_or l.begins p 0 ≡ begin_of (items_of l.stick) p))

abbrev pub decreases-loop-at : goal.decreases-loop-at
decreases-loop-at l = length l.stick - l.at

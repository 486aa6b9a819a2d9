-- `morning::admit_each` meets its contract: the items that are left decide the rest.
-- Assumes nothing.
use mathlib.Core.Path.{◌≡◌}
use Prim.Native.Nat.{◌*◌, ◌-◌, ◌≤◌}
use lib.ListN.{length}
use Rattle.store.specs.Clauses.{SameParts}
use Rattle.cutting.specs.Cutting.{items_of}
use Rattle.morning.specs.Intake.{kept_by}
use Rattle.morning.proofs.Going.{Going}
use Rattle.morning.proofs.admit_each.Given as goal

abbrev pub invariant-loop-at : goal.invariant-loop-at
invariant-loop-at l =
    (SameParts l.initial.store l.store × (length l.origins ≡ length l.initial.origins)) ×
    ((2 * length (items_of l.stretch) ≤ length l.initial.list) ×
    ((length l.list ≡ length l.initial.list) ×
    Going (kept_by l.initial.store l.initial.origins) l.origin l.stretch l.initial.list l.at l.k (kept_by l.store l.origins) l.list))

abbrev pub decreases-loop-at : goal.decreases-loop-at
decreases-loop-at l = length l.stretch - l.at

-- `catalogue::looking::nearest_row` meets its contract: what is nearest from here is nearest from the row.
-- Assumes nothing.
use Prim.Native.Nat.{ℕ, ◌≤◌}
use Rattle.catalogue.specs.Nearest.{Nearest}
use Rattle.catalogue.proofs.looking.nearest_row.Given as goal

abbrev pub invariant-loop-at : goal.invariant-loop-at
invariant-loop-at l = (l.at ≤ l.row) × ((q : ℕ) → Nearest l.rows l.deps l.author l.at q → Nearest l.rows l.deps l.author l.row q)

abbrev pub decreases-loop-at : goal.decreases-loop-at
decreases-loop-at l = l.at

-- `review::listing::lowest_tip` meets its contract.
-- Assumes nothing.
use Prim.Native.Nat.{◌≤◌}
use Rattle.review.specs.Children.{BestSoFar}
use Rattle.review.proofs.listing.lowest_tip.Given as goal

abbrev pub invariant-loop-row : goal.invariant-loop-row
invariant-loop-row l = BestSoFar l.ids l.kids l.row l.best × (l.best ≤ l.row)

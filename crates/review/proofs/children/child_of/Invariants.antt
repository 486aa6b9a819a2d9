-- `review::children::child_of` meets its contract: the child that is looked for is ahead.
-- Assumes nothing.
use Rattle.review.proofs.Climbing.{Climbed}
use Rattle.review.proofs.children.child_of.Given as goal

abbrev pub invariant-loop-at : goal.invariant-loop-at
invariant-loop-at l = Climbed l.rows l.last l.row l.at

abbrev pub decreases-loop-at : goal.decreases-loop-at
decreases-loop-at l = l.at

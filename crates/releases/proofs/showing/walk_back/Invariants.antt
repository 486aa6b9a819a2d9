-- `releases::showing::walk_back` meets its contract: all that carry the component are at or before the row where the walk is.
-- Assumes nothing.
use Rattle.releases.proofs.Walking.{Walked}
use Rattle.releases.proofs.showing.walk_back.Given as goal

abbrev pub invariant-loop-at : goal.invariant-loop-at
invariant-loop-at l = Walked l.rows l.components l.last l.component l.at

abbrev pub decreases-loop-at : goal.decreases-loop-at
decreases-loop-at l = l.at

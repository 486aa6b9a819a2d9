-- `catalogue::looking::climbs_to` meets its contract: the log of the place that it has come to has the earlier row where the row's has it.
-- Assumes nothing.
use Rattle.catalogue.proofs.Back.{Climbed}
use Rattle.catalogue.proofs.looking.climbs_to.Given as goal

abbrev pub invariant-loop-at : goal.invariant-loop-at
invariant-loop-at l = Climbed l.rows l.earlier l.row l.at

abbrev pub decreases-loop-at : goal.decreases-loop-at
decreases-loop-at l = l.at

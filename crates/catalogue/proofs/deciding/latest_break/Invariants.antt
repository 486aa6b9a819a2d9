-- `catalogue::deciding::latest_break` meets its contract: the latest of those judged so far.
-- Assumes nothing.
use lib.ListN.{take}
use Rattle.catalogue.specs.Nearest.{Latest}
use Rattle.catalogue.proofs.deciding.latest_break.Given as goal

abbrev pub invariant-loop-named : goal.invariant-loop-named
invariant-loop-named l = Latest l.rows l.deps l.on (take l.named-index l.list) l.latest

-- `catalogue::looking::dep_by` meets its contract: the dependencies that are left decide.
-- Assumes nothing.
use mathlib.Core.Path.{◌≡◌}
use lib.ListN.{drop}
use Rattle.catalogue.specs.Nearest.{dep_by}
use Rattle.catalogue.proofs.looking.dep_by.Given as goal

abbrev pub invariant-loop-named : goal.invariant-loop-named
invariant-loop-named l = dep_by l.rows l.author l.list ≡ dep_by l.rows l.author (drop l.named-index l.list)

-- `catalogue::steady` meets its contract: the store keeps M7 where no row is named.
-- Assumes nothing.
use Rattle.store.specs.Clauses.{table_in}
use Rattle.catalogue.proofs.Stored.{named_tells}
use Rattle.catalogue.proofs.steady.Goals as goal

pub returns : goal.returns
returns c = named_tells (table_in c.args.store.now) c.in_ok-found.found c.in_ok-found.ensures

-- `frontiers::frontier_at_or_below` meets its contract: the store and both frontiers passed the tests.
-- Assumes nothing.
use Rattle.store.specs.Clauses.{table_in}
use Rattle.frontiers.proofs.Calls.{accepted_ready}
use Rattle.frontiers.proofs.frontier_at_or_below.Goals as goal

pub frontier_below-requires : goal.frontier_below-requires
frontier_below-requires c =
    let a = c.args in
    accepted_ready (table_in a.store.now) a.f.now a.g.now a.store.now.bytes c.in_ok-check_two.ensures

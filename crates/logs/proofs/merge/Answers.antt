-- `logs::merge` meets its contract: the store and both states passed the tests.
-- Assumes nothing.
use Rattle.store.specs.Clauses.{table_in}
use Rattle.logs.proofs.Dones.{pair_ready}
use Rattle.logs.proofs.merge.Goals as goal

pub merge_states-requires : goal.merge_states-requires
merge_states-requires c =
    let a = c.args in
    let h = c.in_ok-check_pair.ensures in
    pair_ready (table_in a.store.now) h.well_formed a.store.now.bytes a.first a.second h

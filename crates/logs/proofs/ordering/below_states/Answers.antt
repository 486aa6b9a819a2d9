-- `logs::ordering::below_states` meets its contract: by the phase of the first state.
-- Assumes nothing.
use Rattle.logs.proofs.Orders.{pair_comparable, test_decides}
use Rattle.logs.proofs.ordering.below_states.Goals as goal

pub growing_below-requires : goal.growing_below-requires
growing_below-requires c =
    let a = c.args in
    rw c.in-Growing.is at (pair_comparable a.store.now.ids.now a.store.now.rows.now a.store.now.counts.rows a.first a.second c.requires)

pub forked_below-requires : goal.forked_below-requires
forked_below-requires c =
    let a = c.args in
    rw c.in-Forked.is at (pair_comparable a.store.now.ids.now a.store.now.rows.now a.store.now.counts.rows a.first a.second c.requires)

pub returns-in-Growing : goal.returns-in-Growing
returns-in-Growing c =
    let a = c.args in
    test_decides a.store.now.ids.now a.store.now.rows.now a.store.now.counts.rows a.first a.second c.requires c.growing_below.result
    (rw c.in-Growing.is (c.growing_below.ensures a.store.now.counts.rows))

pub returns-in-Forked : goal.returns-in-Forked
returns-in-Forked c =
    let a = c.args in
    test_decides a.store.now.ids.now a.store.now.rows.now a.store.now.counts.rows a.first a.second c.requires c.forked_below.result
    (rw c.in-Forked.is (c.forked_below.ensures a.store.now.counts.rows))

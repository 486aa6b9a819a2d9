-- `logs::merging::merge_states` meets its contract: by the phase of the first state.
-- Assumes nothing.
use Rattle.logs.proofs.Unions.{last_addable, low_addable, high_addable, growing_joined, forked_joined}
use Rattle.logs.proofs.merging.merge_states.Goals as goal

pub add_row-requires : goal.add_row-requires
add_row-requires c =
    let a = c.args in
    last_addable a.store.now.ids.now a.store.now.rows.now a.store.now.counts.rows a.first a.second c.requires

pub add_row-with_low-requires : goal.add_row-with_low-requires
add_row-with_low-requires c =
    let a = c.args in
    let forked = c.in-Forked in
    low_addable a.store.now.ids.now a.store.now.rows.now a.store.now.counts.rows a.first a.second c.requires forked.low forked.high forked.is

pub add_row-requires-in-Forked : goal.add_row-requires-in-Forked
add_row-requires-in-Forked c =
    let a = c.args in
    let forked = c.in-Forked in
    high_addable a.store.now.ids.now a.store.now.rows.now a.store.now.counts.rows a.first a.second c.requires forked.low forked.high forked.is
    c.add_row-with_low.result
    c.add_row-with_low.ensures

pub returns-in-Growing : goal.returns-in-Growing
returns-in-Growing c =
    let a = c.args in
    growing_joined a.store.now.ids.now a.store.now.rows.now a.store.now.counts.rows a.first a.second c.requires c.in-Growing.is
    c.add_row.result
    c.add_row.ensures

pub returns-in-Forked : goal.returns-in-Forked
returns-in-Forked c =
    let a = c.args in
    let forked = c.in-Forked in
    forked_joined a.store.now.ids.now a.store.now.rows.now a.store.now.counts.rows a.first a.second c.requires forked.low forked.high forked.is
    c.add_row-with_low.result
    c.add_row-in-Forked.result
    c.add_row-with_low.ensures
    c.add_row-in-Forked.ensures

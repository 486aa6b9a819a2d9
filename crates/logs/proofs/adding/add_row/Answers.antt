-- `logs::adding::add_row` meets its contract: by where the prefix of the last row and the new one lies, and by the phase.
-- Assumes nothing.
use Rattle.logs.proofs.Additions.{climb_ready, fork_ready, child_ready, add_covered, add_forks, add_grows, add_child}
use Rattle.logs.proofs.adding.add_row.Goals as goal

pub climb-prefix-requires : goal.climb-prefix-requires
climb-prefix-requires c =
    let a = c.args in
    climb_ready a.store.now.ids.now a.store.now.rows.now a.store.now.counts.rows a.state a.row c.requires

pub returns-then-prefix-row : goal.returns-then-prefix-row
returns-then-prefix-row c =
    let a = c.args in
    add_covered a.store.now.ids.now a.store.now.rows.now a.store.now.counts.rows a.state a.row c.climb-prefix.result c.climb-prefix.ensures c.if-prefix-row.true

pub sorted-phase-requires : goal.sorted-phase-requires
sorted-phase-requires c =
    let a = c.args in
    fork_ready a.store.now.ids.now a.store.now.rows.now a.store.now.counts.rows a.state a.row c.requires c.climb-prefix.result c.climb-prefix.ensures
    c.if-prefix-row.false
    c.if-prefix-last.true

pub returns-then-prefix-last : goal.returns-then-prefix-last
returns-then-prefix-last c =
    let a = c.args in
    add_forks a.store.now.ids.now a.store.now.rows.now a.store.now.counts.rows a.state a.row c.climb-prefix.result c.climb-prefix.ensures
    c.if-prefix-row.false
    c.if-prefix-last.true
    c.sorted-phase.result
    c.sorted-phase.ensures

pub with_child-phase-requires : goal.with_child-phase-requires
with_child-phase-requires c =
    let a = c.args in
    let forked = c.in-Forked in
    child_ready a.store.now.ids.now a.store.now.rows.now a.store.now.counts.rows a.state a.row c.requires c.climb-prefix.result c.climb-prefix.ensures
    c.if-prefix-row.false
    forked.low
    forked.high
    forked.is

pub returns-in-Growing : goal.returns-in-Growing
returns-in-Growing c =
    let a = c.args in
    add_grows a.store.now.ids.now a.store.now.rows.now a.store.now.counts.rows a.state a.row c.climb-prefix.result c.climb-prefix.ensures
    c.if-prefix-row.false
    c.if-prefix-last.false
    c.in-Growing.is

pub returns-in-Forked : goal.returns-in-Forked
returns-in-Forked c =
    let a = c.args in
    let forked = c.in-Forked in
    add_child a.store.now.ids.now a.store.now.rows.now a.store.now.counts.rows a.state a.row c.climb-prefix.result c.climb-prefix.ensures
    c.if-prefix-row.false
    c.if-prefix-last.false
    forked.low
    forked.high
    c.with_child-phase.result
    forked.is
    c.with_child-phase.ensures

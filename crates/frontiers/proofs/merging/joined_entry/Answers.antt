-- `frontiers::merging::joined_entry` meets its contract.
-- Assumes nothing.
use Rattle.logs.specs.Held.{chain}
use Rattle.frontiers.proofs.Slots.{joined_second, joined_first, entries_pair, joined_both}
use Rattle.frontiers.proofs.merging.joined_entry.Goals as goal

pub returns-in_default : goal.returns-in_default
returns-in_default c =
    let a = c.args in
    joined_second (chain a.store.now.ids.now a.store.now.rows.now a.store.now.counts.rows) a.f.now a.g.now a.a c.find_entry-first.result c.find_entry-second.result
    c.in_default.is c.find_entry-first.ensures c.find_entry-second.ensures

pub returns-in_default-second : goal.returns-in_default-second
returns-in_default-second c =
    let a = c.args in
    joined_first (chain a.store.now.ids.now a.store.now.rows.now a.store.now.counts.rows) a.f.now a.g.now a.a _ _ _ c.in-Some.is
    c.in_default-second.is c.find_entry-first.ensures c.find_entry-second.ensures

pub merge_states-requires : goal.merge_states-requires
merge_states-requires c =
    let a = c.args in
    entries_pair a.store.now.ids.now a.store.now.rows.now a.store.now.counts a.f.now a.g.now c.requires a.a _ _ _ _ c.in-Some.is
    c.in-Some-second.is c.find_entry-first.ensures c.find_entry-second.ensures

pub returns : goal.returns
returns c =
    let a = c.args in
    joined_both a.store.now.ids.now a.store.now.rows.now a.store.now.counts a.f.now a.g.now c.requires a.a _ _ _ _ c.in-Some.is
    c.in-Some-second.is c.find_entry-first.ensures c.find_entry-second.ensures c.merge_states.result c.merge_states.ensures

-- `packing::marking::mark_entry` meets its contract: the walks from the roots, one after another, mark what the entry packs.
-- Assumes nothing.
use Rattle.packing.proofs.Roots.{last_walk, low_walk, high_walk, growing_marked, forked_marked}
use Rattle.packing.proofs.marking.mark_entry.Goals as goal

pub pack_row-requires : goal.pack_row-requires
pack_row-requires c =
    let a = c.args in
    last_walk a.frontier.now a.entry c.requires.1 c.wide.ensures

pub returns-then-frontier-at-eq0 : goal.returns-then-frontier-at-eq0
returns-then-frontier-at-eq0 c =
    let a = c.args in
    growing_marked a.frontier.now a.entry c.if-frontier-at-eq0.true c.wide.ensures c.pack_row.ensures

pub pack_row-requires-2 : goal.pack_row-requires-2
pack_row-requires-2 c =
    let fork = c.if-frontier-at-eq0.false in
    let a = c.args in
    let p = c.pack_row in
    low_walk a.frontier.now a.entry c.requires.1 fork c.wide-2.ensures p.auto.marks p.ensures

pub pack_row-requires-3 : goal.pack_row-requires-3
pack_row-requires-3 c =
    let fork = c.if-frontier-at-eq0.false in
    let a = c.args in
    let p = c.pack_row in
    let q = c.pack_row-2 in
    high_walk a.frontier.now a.entry c.requires.1 fork c.wide-3.ensures p.auto.marks p.ensures q.auto.marks q.ensures

pub returns : goal.returns
returns c =
    let fork = c.if-frontier-at-eq0.false in
    let a = c.args in
    forked_marked a.frontier.now a.entry fork c.wide.ensures c.wide-2.ensures c.wide-3.ensures
    c.pack_row.ensures c.pack_row-2.ensures c.pack_row-3.ensures

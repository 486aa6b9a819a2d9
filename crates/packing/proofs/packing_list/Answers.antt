-- `packing::packing_list` meets its contract: the two checks decide the refusals, and what they show lets the packing begin.
-- Assumes nothing.
use Rattle.packing.proofs.Checked.{may_pack}
use Rattle.packing.specs.Packing.{bad_store, bad_frontier, answered}
use Rattle.logs.proofs.Tables.{table_sound}
use Rattle.store.specs.Clauses.{table_in}
use mathlib.Core.Path.{refl}
use Rattle.packing.proofs.packing_list.Goals as goal

pub returns-then-not-well_formed : goal.returns-then-not-well_formed
returns-then-not-well_formed c = bad_store refl (c.well_formed-2.ensures.no c.if-not-well_formed.true) refl

pub frontier_valid-requires : goal.frontier_valid-requires
frontier_valid-requires c =
    let a = c.args in
    let t = table_in a.store.now in
    table_sound t (c.well_formed-2.ensures.yes c.if-not-well_formed.false)
    c.args.store.now.bytes

pub returns-then-not-frontier_valid : goal.returns-then-not-frontier_valid
returns-then-not-frontier_valid c =
    bad_frontier refl (c.well_formed-2.ensures.yes c.if-not-well_formed.false)
    (c.frontier_valid.ensures.no c.if-not-frontier_valid.true) refl

pub pack_frontier-requires : goal.pack_frontier-requires
pack_frontier-requires c =
    let a = c.args in
    let t = table_in a.store.now in
    let f = c.frontier_valid.ensures.yes c.if-not-frontier_valid.false in
    may_pack t a.frontier.now (c.well_formed-2.ensures.yes c.if-not-well_formed.false) f

pub returns : goal.returns
returns c =
    answered (c.well_formed-2.ensures.yes c.if-not-well_formed.false) (c.frontier_valid.ensures.yes c.if-not-frontier_valid.false)
    c.pack_frontier.ensures

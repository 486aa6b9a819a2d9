-- `frontiers::valid_frontier` meets its contract.
-- Assumes nothing.
use mathlib.Core.Path.{refl}
use Rattle.store.specs.Clauses.{table_in}
use Rattle.logs.proofs.Tables.{table_sound}
use Rattle.frontiers.specs.Calls.{NotChecked}
use Rattle.frontiers.proofs.valid_frontier.Goals as goal

pub returns-then-not-well_formed : goal.returns-then-not-well_formed
returns-then-not-well_formed c = NotChecked.not_well_formed refl (c.well_formed-2.ensures.no c.if-not-well_formed.true)

pub frontier_valid-requires : goal.frontier_valid-requires
frontier_valid-requires c =
    let a = c.args in
    table_sound (table_in a.store.now)
    (c.well_formed-2.ensures.yes c.if-not-well_formed.false)
    c.args.store.now.bytes

pub returns : goal.returns
returns c = ((c.well_formed-2.ensures.yes c.if-not-well_formed.false), c.frontier_valid.ensures)

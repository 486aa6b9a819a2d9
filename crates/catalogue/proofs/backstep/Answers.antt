-- `catalogue::backstep` meets its contract: what looking through the rows finds.
-- Assumes nothing.
use mathlib.Core.Path.{refl}
use Rattle.store.specs.Clauses.{table_in}
use Rattle.catalogue.specs.Calls.{damaged_store, named}
use Rattle.catalogue.proofs.Stored.{may_search}
use Rattle.catalogue.proofs.backstep.Goals as goal

pub returns-then-not-well_formed : goal.returns-then-not-well_formed
returns-then-not-well_formed c =
    damaged_store (c.well_formed-2.ensures.no c.if-not-well_formed.true) refl

pub find_backstep-requires : goal.find_backstep-requires
find_backstep-requires c =
    let a = c.args in
    let t = table_in a.store.now in
    may_search t (c.well_formed-2.ensures.yes c.if-not-well_formed.false)

pub returns : goal.returns
returns c =
    named (c.well_formed-2.ensures.yes c.if-not-well_formed.false) _ _ c.find_backstep.ensures refl

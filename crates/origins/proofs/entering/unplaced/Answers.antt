-- `origins::entering::unplaced` meets its contract.
-- Assumes nothing.
use mathlib.Core.Path.{sym, ◌∙◌}
use Rattle.store.specs.Clauses.{table_in}
use Rattle.origins.proofs.Placing.{unplaced_sound, unplaced_unsound}
use Rattle.origins.proofs.entering.unplaced.Goals as goal

pub unplaced_item-requires : goal.unplaced_item-requires
unplaced_item-requires c = (
  sym c.layout_of-layout.ensures ∙ c.in-Ok.is,
  c.requires,
)

pub returns-in-Ok : goal.returns-in-Ok
returns-in-Ok c =
    let a = c.args in
    unplaced_sound (table_in a.store.now) a.item.now _ c.in-Ok.f _
    c.layout_of-layout.ensures c.in-Ok.is c.unplaced_item.ensures

pub returns-in-Err : goal.returns-in-Err
returns-in-Err c =
    let a = c.args in
    unplaced_unsound (table_in a.store.now) a.item.now _ c.in-Err.refusal
    c.layout_of-layout.ensures c.in-Err.is

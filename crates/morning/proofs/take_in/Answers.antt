-- `morning::take_in` meets its contract: a damaged store, a short list, or all items.
-- Assumes nothing.
use Rattle.std.specs.Prelude.{Ok}
use mathlib.Core.Path.{refl, ap}
use native.Mathlib.Omega.{arith}
use Rattle.morning.specs.Intake.{damaged, no_room, taken_in}
use Rattle.morning.proofs.Going.{half_short, half_enough}
use Rattle.morning.proofs.take_in.Goals as goal

pub returns-then-not-well_kept-clause-taken : goal.returns-then-not-well_kept-clause-taken
returns-then-not-well_kept-clause-taken c = damaged (rw c.read.ensures at (c.well_kept.ensures.no c.if-not-well_kept.true)) refl refl refl

pub returns-then-list-items-clause-taken : goal.returns-then-list-items-clause-taken
returns-then-list-items-clause-taken c =
    let a = c.args in
    no_room (rw c.read.ensures at (c.well_kept.ensures.yes c.if-not-well_kept.false))
    (half_short a.list.now a.stretch.now c.count_items-items.result c.count_items-items.ensures c.if-list-items.true) refl refl refl

pub admit_each-requires : goal.admit_each-requires
admit_each-requires c =
    let a = c.args in
    ((rw c.read.ensures at (c.well_kept.ensures.yes c.if-not-well_kept.false)), half_enough a.list.now a.stretch.now c.count_items-items.result c.count_items-items.ensures c.if-list-items.false)

pub returns-clause-taken : goal.returns-clause-taken
returns-clause-taken c =
    let a = c.args in
    taken_in (rw c.read.ensures at (c.well_kept.ensures.yes c.if-not-well_kept.false))
    (half_enough a.list.now a.stretch.now c.count_items-items.result c.count_items-items.ensures c.if-list-items.false)
    (ap Ok c.count_items-items.ensures) c.admit_each.ensures.taken

-- `salvage::names::missing_name` meets its contract.
-- Assumes nothing.
use mathlib.Core.Path.{sym, ◌∙◌}
use native.Mathlib.Omega.{arith}
use Rattle.std.proofs.Common.{rules}
use Rattle.item.proofs.Laid.{sound_item}
use Rattle.salvage.proofs.Naming.{stands_first, stands_ready, stands_broken}
use Rattle.salvage.proofs.names.missing_name.Goals as goal

pub first_missing-place-requires : goal.first_missing-place-requires
first_missing-place-requires c =
    ((sound_item c.args.item.now c.in-Ok.f (sym c.layout_of-layout.ensures ∙ c.in-Ok.is)).count_limit_lem, c.requires)

pub overflow_add-f : goal.overflow_add-f
overflow_add-f c =
    let l = (sound_item c.args.item.now c.in-Ok.f (sym c.layout_of-layout.ensures ∙ c.in-Ok.is)).count_limit_lem in
    search (rules, l)

pub returns-then-f-place : goal.returns-then-f-place
returns-then-f-place c =
    let a = c.args in
    stands_ready a.ids.now a.n a.item.now a.after c.first_missing-place.result c.layout_of-layout.result c.in-Ok.f
    c.layout_of-layout.ensures c.in-Ok.is c.first_missing-place.ensures c.if-f-place.true

pub returns-else-f-place : goal.returns-else-f-place
returns-else-f-place c =
    let a = c.args in
    stands_first a.ids.now a.n a.item.now a.after c.first_missing-place.result c.layout_of-layout.result c.in-Ok.f
    c.layout_of-layout.ensures c.in-Ok.is c.first_missing-place.ensures (omega (arith, c.if-f-place.false))

pub returns-in-Err : goal.returns-in-Err
returns-in-Err c =
    let a = c.args in
    stands_broken a.ids.now a.n a.item.now a.after c.layout_of-layout.result c.in-Err.field-0 c.layout_of-layout.ensures c.in-Err.is

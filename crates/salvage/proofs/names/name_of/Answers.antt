-- `salvage::names::name_of` meets its contract.
-- Assumes nothing.
use mathlib.Core.Path.{◌∙◌}
use native.Mathlib.Omega.{arith}
use Rattle.salvage.proofs.Naming.{name_previous, name_dependency}
use Rattle.salvage.proofs.names.name_of.Goals as goal

pub returns-then-place-le1 : goal.returns-then-place-le1
returns-then-place-le1 c =
    let a = c.args in
    c.previous_of.ensures ∙ name_previous a.item.now a.f a.place c.if-place-le1.true

pub returns : goal.returns
returns c =
    let a = c.args in
    c.dependency_of.ensures ∙ name_dependency a.item.now a.f a.place (omega (arith, c.if-place-le1.false))

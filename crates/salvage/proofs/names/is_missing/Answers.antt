-- `salvage::names::is_missing` meets its contract.
-- Assumes nothing.
use native.Mathlib.Omega.{arith}
use Rattle.salvage.proofs.Naming.{missing_dep, missing_none_named, missing_previous}
use Rattle.salvage.proofs.names.is_missing.Goals as goal

pub returns-then-place-ne1 : goal.returns-then-place-ne1
returns-then-place-ne1 c =
    let a = c.args in
    missing_dep a.ids.now a.n a.item.now a.f a.place _ _ (omega (
      arith,
      c.if-place-ne1.true,
      c.requires,
    )) c.dependency_of.ensures
    c.lacks.ensures

pub returns-then-f-le1 : goal.returns-then-f-le1
returns-then-f-le1 c =
    let a = c.args in
    missing_none_named a.ids.now a.n a.item.now a.f a.place (omega (arith, c.if-place-ne1.false)) c.if-f-le1.true

pub returns : goal.returns
returns c =
    let a = c.args in
    missing_previous a.ids.now a.n a.item.now a.f a.place _ _ (omega (arith, c.if-place-ne1.false))
    (omega (arith, c.if-f-le1.false)) c.previous_of.ensures c.lacks-2.ensures

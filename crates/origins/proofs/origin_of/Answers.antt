-- `origins::origin_of` meets its contract.
-- Assumes nothing.
use Rattle.std.specs.Prelude.{Ok}
use mathlib.Core.Path.{refl, ap}
use mathlib.Core.Logic.{inl, inr}
use native.Mathlib.Omega.{arith}
use Prim.Native.Nat.{◌-◌}
use lib.ListN.{get_or}
use Rattle.origins.specs.Origins.{damaged_store, no_row, reported}
use Rattle.origins.proofs.origin_of.Goals as goal

pub returns-then-not-well_kept : goal.returns-then-not-well_kept
returns-then-not-well_kept c = damaged_store (c.well_kept.ensures.no c.if-not-well_kept.true) refl

pub returns-then-row-eq0 : goal.returns-then-row-eq0
returns-then-row-eq0 c = no_row (c.well_kept.ensures.yes c.if-not-well_kept.false) (inl c.if-row-eq0.true) refl

pub returns-then-store-at : goal.returns-then-store-at
returns-then-store-at c =
    no_row (c.well_kept.ensures.yes c.if-not-well_kept.false)
    (inr (omega (arith, c.wide-at.ensures, c.if-store-at.true)))
    refl

pub overflow_sub-result : goal.overflow_sub-result
overflow_sub-result c = omega (arith, c.wide-at.ensures, c.if-row-eq0.false)

pub bounds-origins-at : goal.bounds-origins-at
bounds-origins-at c =
    let k = c.well_kept.ensures.yes c.if-not-well_kept.false in
    omega (arith, c.wide-at.ensures, c.if-row-eq0.false, c.if-store-at.false, k.held)

pub returns : goal.returns
returns c =
    let a = c.args in
    reported (c.well_kept.ensures.yes c.if-not-well_kept.false)
    (omega (arith, c.if-row-eq0.false))
    (omega (arith, c.wide-at.ensures, c.if-store-at.false))
    (ap (λ n. Ok (get_or a.origins.now (n - 1) 0)) c.wide-at.ensures)

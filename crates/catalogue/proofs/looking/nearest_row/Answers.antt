-- `catalogue::looking::nearest_row` meets its contract: what is nearest from here is nearest from the row.
-- Assumes nothing.
use Prim.Native.Nat.{ℕ}
use mathlib.Core.Path.{sym, ap, subst, ◌∙◌}
use native.Mathlib.Omega.{arith}
use Rattle.catalogue.specs.Nearest.{dep_by, Nearest, found, none}
use Rattle.catalogue.proofs.Back.{nearest_more, look_less}
use Rattle.catalogue.proofs.looking.nearest_row.Goals as goal

pub loop-at-init : goal.loop-at-init
loop-at-init c = (omega arith, λ q n. n)

pub list_of-requires : goal.list_of-requires
list_of-requires c = (omega (arith, c.loop-at-test.true), look_less c.requires c.loop-at.invariant.0)

pub returns-then-dep_by-ne0 : goal.returns-then-dep_by-ne0
returns-then-dep_by-ne0 c =
    let l = c.loop-at in
    let a = c.args in
    let e = c.dep_by.ensures ∙ ap (dep_by a.rows.now a.author) c.list_of.ensures in
    l.invariant.1 l.at (found l.at (omega (arith, c.loop-at-test.true)) (λ z. c.if-dep_by-ne0.true (e ∙ z)))

pub loop-at-smaller : goal.loop-at-smaller
loop-at-smaller c =
    let l = c.loop-at in
    let a = c.args in
    let e = c.dep_by.ensures ∙ ap (dep_by a.rows.now a.author) c.list_of.ensures in
    (nearest_more a.rows.now a.deps.now a.starts.now a.author a.row l.at _ c.requires
    (omega (arith, c.loop-at-test.true)) l.invariant.0
    l.invariant.1 (sym e ∙ c.if-dep_by-ne0.false) c.row_at-here.ensures).0

pub loop-at-preserved : goal.loop-at-preserved
loop-at-preserved c =
    let l = c.loop-at in
    let a = c.args in
    let e = c.dep_by.ensures ∙ ap (dep_by a.rows.now a.author) c.list_of.ensures in
    (nearest_more a.rows.now a.deps.now a.starts.now a.author a.row l.at _ c.requires
    (omega (arith, c.loop-at-test.true)) l.invariant.0
    l.invariant.1 (sym e ∙ c.if-dep_by-ne0.false) c.row_at-here.ensures).1

pub returns : goal.returns
returns c =
    let l = c.loop-at in
    let a = c.args in
    l.invariant.1 0 (subst (λ (x : ℕ). Nearest a.rows.now a.deps.now a.author x 0) (sym c.loop-at-test.false) none)

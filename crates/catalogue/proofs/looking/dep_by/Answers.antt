-- `catalogue::looking::dep_by` meets its contract: the dependencies that are left decide.
-- Assumes nothing.
use native.Mathlib.Omega.{arith}
use Rattle.catalogue.proofs.Back.{dep_found, dep_passed, dep_none}
use Rattle.catalogue.proofs.looking.dep_by.Goals as goal

pub returns-then-this-author : goal.returns-then-this-author
returns-then-this-author c =
    let l = c.loop-named in
    let a = c.args in
    dep_found a.rows.now a.author a.list.now l.named-index _ _ (omega (arith, c.loop-named-test.true))
    l.invariant c.wide-dependency.ensures
    c.row_at-this.ensures c.if-this-author.true

pub loop-named-preserved : goal.loop-named-preserved
loop-named-preserved c =
    let l = c.loop-named in
    let a = c.args in
    dep_passed a.rows.now a.author a.list.now l.named-index _ _ (omega (arith, c.loop-named-test.true))
    l.invariant c.wide-dependency.ensures
    c.row_at-this.ensures c.if-this-author.false

pub returns : goal.returns
returns c = let l = c.loop-named in dep_none _ _ _ l.named-index (omega (arith, c.loop-named-test.false)) l.invariant

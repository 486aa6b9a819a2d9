-- `catalogue::looking::climbs_to` meets its contract: the log of the place that it has come to has the earlier row where the row's has it.
-- Assumes nothing.
use native.Mathlib.Omega.{arith}
use Rattle.catalogue.proofs.Back.{climb_first, climb_more, climb_decides}
use Rattle.catalogue.proofs.looking.climbs_to.Goals as goal

pub loop-at-init : goal.loop-at-init
loop-at-init c = let a = c.args in climb_first a.rows.now a.earlier a.row

pub loop-at-smaller : goal.loop-at-smaller
loop-at-smaller c =
    let l = c.loop-at in
    (climb_more c.args.rows.now c.args.deps.now c.args.earlier c.args.row l.at _ c.requires.1 (omega (arith, c.loop-at-test.true))
    l.invariant c.row_at-this.ensures).0

pub loop-at-preserved : goal.loop-at-preserved
loop-at-preserved c =
    let l = c.loop-at in
    (climb_more c.args.rows.now c.args.deps.now c.args.earlier c.args.row l.at _ c.requires.1 (omega (arith, c.loop-at-test.true))
    l.invariant c.row_at-this.ensures).1

pub returns : goal.returns
returns c =
    let l = c.loop-at in
    climb_decides c.args.rows.now c.args.deps.now c.args.earlier c.args.row l.at c.requires.1 c.requires.0
    (omega (arith, c.loop-at-test.false)) l.invariant

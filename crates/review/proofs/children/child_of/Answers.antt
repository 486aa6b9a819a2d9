-- `review::children::child_of` meets its contract: the child that is looked for is ahead.
-- Assumes nothing.
use Rattle.review.proofs.Climbing.{climbed_more, climbed_found}
use Rattle.review.proofs.children.child_of.Goals as goal

pub returns-then-this-last : goal.returns-then-this-last
returns-then-this-last c =
    let a = c.args in
    let l = c.loop-at in
    climbed_found a.rows.now a.last a.row l.at _ c.loop-at-test.true l.invariant c.row_at-this.ensures c.if-this-last.true

pub loop-at-smaller : goal.loop-at-smaller
loop-at-smaller c =
    let a = c.args in
    let l = c.loop-at in
    (climbed_more a.rows.now a.count a.last a.row l.at _ c.requires.1 c.requires.0 c.loop-at-test.true l.invariant c.row_at-this.ensures
    c.if-this-last.false).0

pub loop-at-preserved : goal.loop-at-preserved
loop-at-preserved c =
    let a = c.args in
    let l = c.loop-at in
    (climbed_more a.rows.now a.count a.last a.row l.at _ c.requires.1 c.requires.0 c.loop-at-test.true l.invariant c.row_at-this.ensures
    c.if-this-last.false).1

-- `releases::showing::walk_back` meets its contract: all that carry the component are at or before the row where the walk is.
-- Assumes nothing.
use Rattle.releases.proofs.Walking.{walked_first, walked_more, walked_found, walked_none}
use Rattle.releases.proofs.showing.walk_back.Goals as goal

pub loop-at-init : goal.loop-at-init
loop-at-init c = let a = c.args in walked_first a.rows.now a.components.now a.last a.component

pub returns-then-components-at : goal.returns-then-components-at
returns-then-components-at c = let l = c.loop-at in walked_found _ _ _ _ l.at l.invariant c.if-components-at.true

pub loop-at-smaller : goal.loop-at-smaller
loop-at-smaller c =
    let a = c.args in
    let p = c.requires in
    let l = c.loop-at in
    (walked_more a.rows.now a.components.now a.count a.last a.component l.at _ p.0 p.1.0 c.loop-at-test.true l.invariant
    c.if-components-at.false c.row_at-row.ensures).0

pub loop-at-preserved : goal.loop-at-preserved
loop-at-preserved c =
    let a = c.args in
    let p = c.requires in
    let l = c.loop-at in
    (walked_more a.rows.now a.components.now a.count a.last a.component l.at _ p.0 p.1.0 c.loop-at-test.true l.invariant
    c.if-components-at.false c.row_at-row.ensures).1

pub returns : goal.returns
returns c =
    let a = c.args in
    let l = c.loop-at in
    walked_none a.rows.now a.components.now a.last a.component l.at c.loop-at-test.false l.invariant

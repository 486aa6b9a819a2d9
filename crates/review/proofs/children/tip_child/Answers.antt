-- `review::children::tip_child` meets its contract.
-- Assumes nothing.
use Rattle.review.proofs.Kids.{tip_followed, tip_of}
use Rattle.review.proofs.children.tip_child.Goals as goal

pub returns-then-branches-row-ne0 : goal.returns-then-branches-row-ne0
returns-then-branches-row-ne0 c =
    let a = c.args in
    tip_followed a.rows.now a.branches.now a.count a.author a.last a.row c.requires c.if-branches-row-ne0.true

pub returns : goal.returns
returns c =
    let a = c.args in
    tip_of a.rows.now a.branches.now a.count a.author a.last a.row c.requires _ _ c.row_at-this.ensures c.if-this-author.false
    c.if-branches-row-ne0.false c.child_of.ensures

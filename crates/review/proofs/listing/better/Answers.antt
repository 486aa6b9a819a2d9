-- `review::listing::better` meets its contract.
-- Assumes nothing.
use mathlib.Core.Path.{sym, ◌∙◌}
use Rattle.review.proofs.Order.{before_of}
use Rattle.review.proofs.Best.{best_lower, best_stays}
use Rattle.review.proofs.listing.better.Goals as goal

pub returns-then-before : goal.returns-then-before
returns-then-before c =
    let a = c.args in
    let e = before_of _ _ _ _ _ c.before-2.ensures c.piece_at.ensures c.piece_at-2.ensures in
    best_lower a.ids.now a.kids.now a.row a.best c.requires.1.0 c.requires.1.1 c.if-kids-row-eq0.false
    c.if-best-eq0.false (sym e ∙ c.if-before.true)

pub returns : goal.returns
returns c =
    let a = c.args in
    let e = before_of _ _ _ _ _ c.before-2.ensures c.piece_at.ensures c.piece_at-2.ensures in
    best_stays a.ids.now a.kids.now a.row a.best c.requires.1.0 c.requires.1.1 c.requires.0 c.if-kids-row-eq0.false
    c.if-best-eq0.false (sym e ∙ c.if-before.false)

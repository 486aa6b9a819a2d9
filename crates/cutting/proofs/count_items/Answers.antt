-- `cutting::count_items` meets its contract: those counted and those of the bytes that are left are all.
-- Assumes nothing.
use native.Mathlib.Omega.{arith}
use Rattle.cutting.proofs.Items.{left_less, counted_more, counted_all}
use Rattle.cutting.proofs.count_items.Goals as goal

pub loop-at-smaller : goal.loop-at-smaller
loop-at-smaller c = let l = c.loop-at in
    let a = c.args in left_less a.stretch.now l.at _ _ (omega arith) c.cut_item-cut.ensures

pub loop-at-preserved : goal.loop-at-preserved
loop-at-preserved c = let l = c.loop-at in counted_more _ l.at l.items _ _ (omega arith) c.cut_item-cut.ensures l.invariant

pub returns : goal.returns
returns c = let l = c.loop-at in counted_all _ l.at l.items (omega arith) l.invariant

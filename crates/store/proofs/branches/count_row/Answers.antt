-- `store::branches::count_row` meets its contract: the two numbers stand where the definition sets them.
-- Assumes nothing.
use lib.ListN.{length-set}
use Rattle.store.proofs.Counting.{counted_row}
use Rattle.std.proofs.Common.{rules}
use Rattle.store.proofs.branches.count_row.Goals as goal

pub bounds-branches-counts : goal.bounds-branches-counts
bounds-branches-counts c = simp length-set (search rules)

pub returns : goal.returns
returns c =
    let p = c.counted_at-at in
    let n = c.number_with-number in
    let a = c.args in
    counted_row a.branches.now a.counts a.row p.result n.result p.ensures.0 n.ensures

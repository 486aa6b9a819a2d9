-- The cycle of calls of `pack_list` and `pack_row`. The row falls: `pack_row` at a row calls itself at the previous row and
-- `pack_list` at the row itself, which calls `pack_row` at earlier rows; so twice the row, and one more for `pack_row`, is less each time.
-- Assumes nothing.
use Rattle.std.proofs.Common.{◌+◌, ◌*◌, get_or}
use Rattle.packing.proofs.Calls.{Done}
use Rattle.packing.proofs.walk.+pack_list_pack_row.Given as goal

abbrev pub decreases-pack_list : goal.decreases-pack_list
decreases-pack_list l = 2 * l.row

abbrev pub decreases-pack_row : goal.decreases-pack_row
decreases-pack_row l = 2 * l.row + 1

abbrev pub invariant-pack_list-loop-place : goal.invariant-pack_list-loop-place
invariant-pack_list-loop-place l = Done l.rows l.deps l.starts l.initial.marks l.marks l.row (get_or l.starts l.row 0) l.place

-- `review::listing::write_table` meets its contract: the count decides, and what is written is the list.
-- Assumes nothing.
use native.Mathlib.Omega.{arith}
use Rattle.review.proofs.Kids.{kids_few}
use Rattle.review.proofs.listing.write_table.Goals as goal

pub overflow_mul-size : goal.overflow_mul-size
overflow_mul-size c =
    omega (arith, c.count_kids-found.ensures, kids_few c.args.kids.now c.args.count, c.requires.1)

-- `review::listing::write_branches` meets its contract: the lowest that is left, again and again.
-- Assumes nothing.
use Rattle.review.proofs.Writing.{Sofar}
use Rattle.review.proofs.listing.write_branches.Given as goal

abbrev pub invariant-loop-k : goal.invariant-loop-k
invariant-loop-k l = Sofar l.ids l.count l.found l.initial.kids l.initial.out l.k l.kids l.out

-- `review::children::fill_children` meets its contract: the table has the child of each row passed.
-- Assumes nothing.
use Prim.Native.Nat.{ℕ, ◌≤◌, ◌<◌}
use lib.ListN.{get_or}
use Rattle.review.specs.Children.{TipChild}
use Rattle.review.proofs.children.fill_children.Given as goal

abbrev pub invariant-loop-row : goal.invariant-loop-row
invariant-loop-row l = (r : ℕ) → r < l.row → 1 ≤ r → TipChild l.rows l.count l.author l.last r (get_or l.kids r 0)

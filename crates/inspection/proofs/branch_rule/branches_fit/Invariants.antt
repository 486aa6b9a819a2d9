-- `inspection::branches_fit` meets its contract: the table counts the rows passed at each place, and is compared at the end.
-- Assumes nothing.
use Prim.Native.Nat.{ℕ}
use mathlib.Core.Path.{◌≡◌}
use lib.ListN.{length, get_or}
use Rattle.store.specs.Branches.{counted_in}
use Rattle.inspection.proofs.branch_rule.branches_fit.Given as goal

abbrev pub invariant-loop-i : goal.invariant-loop-i
invariant-loop-i l = (length l.counts ≡ 1089) × ((p : ℕ) → get_or l.counts p 0 ≡ counted_in l.rows l.i p)

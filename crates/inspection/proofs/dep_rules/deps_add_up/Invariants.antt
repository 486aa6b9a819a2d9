-- `inspection::deps_add_up` meets its contract: the sum of the rows passed is at hand, and stays within the total.
-- Assumes nothing.
use Prim.Native.Nat.{◌≤◌}
use mathlib.Core.Path.{◌≡◌}
use Rattle.store.specs.Table.{dep_sum}
use Rattle.inspection.proofs.dep_rules.deps_add_up.Given as goal

abbrev pub invariant-loop-i : goal.invariant-loop-i
invariant-loop-i l = (l.sum ≤ l.total) × (l.sum ≡ dep_sum l.rows l.i)

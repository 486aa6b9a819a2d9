-- `inspection::rows_depend` meets its contract: all rows passed keep the rule, and the dependencies of the next begin at `start`.
-- Assumes nothing.
use Prim.Native.Nat.{◌≤◌}
use mathlib.Core.Path.{◌≡◌}
use lib.ListN.{length}
use Rattle.store.specs.Table.{dep_sum}
use Rattle.store.specs.Clauses.{AllDepend}
use Rattle.inspection.proofs.dep_rules.rows_depend.Given as goal

abbrev pub invariant-loop-i : goal.invariant-loop-i
invariant-loop-i l = (l.start ≡ dep_sum l.rows l.i) × ((dep_sum l.rows l.n ≤ length l.deps) × AllDepend l.rows l.deps l.i)

-- `inspection::authors_appear` meets its contract: the largest author number of the rows passed is at hand, and they keep the rule.
-- Assumes nothing.
use Prim.Native.Nat.{◌≤◌}
use mathlib.Core.Path.{◌≡◌}
use Rattle.store.specs.Table.{authors_in}
use Rattle.store.specs.Clauses.{AllNumbered}
use Rattle.inspection.proofs.row_rules.authors_appear.Given as goal

abbrev pub invariant-loop-i : goal.invariant-loop-i
invariant-loop-i l = (l.most ≤ l.i) × ((l.most ≡ authors_in l.rows l.i) × AllNumbered l.rows l.i)

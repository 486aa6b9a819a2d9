-- `store::dep_rules::one_per_author` meets its contract: the rest passed has one row an author, and its authors are marked.
-- Assumes nothing.
use mathlib.Core.Path.{◌≡◌}
use mathlib.Core.Bool.{true}
use lib.ListN.{length, drop}
use Rattle.store.specs.Table.{one_per_author}
use Rattle.store.specs.Authors.{Marked}
use Rattle.store.proofs.dep_rules.one_per_author.Given as goal

abbrev pub invariant-loop-i : goal.invariant-loop-i
invariant-loop-i l =
    (length l.marks ≡ 64) × ((one_per_author l.rows (drop l.i l.ds) ≡ true) × Marked l.rows l.marks (drop l.i l.ds))

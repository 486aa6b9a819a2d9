-- The rule of the table and the groups of its clauses that the functions decide.
-- Assumes nothing.
use mathlib.Core.Path.{◌≡◌}
use Rattle.chunks.specs.Lookup.{Distinct}
use Rattle.store.specs.Table.{Table, WellFormed, dep_sum}
use Rattle.store.specs.Clauses.{CountsFit, RowsFit, BranchesFit}

module _ (t : Table) where
  -- What the rule says of the counts.
  pub whole_counts : WellFormed t → CountsFit t
  whole_counts w =
      record {
        rows_limit = w.rows_limit;
        authors_limit = w.authors_limit;
        deps_limit = w.deps_limit;
        rows_held = w.rows_held;
        ids_held = w.ids_held;
        keys_held = w.keys_held;
        deps_held = w.deps_held;
        firsts_held = w.firsts_held;
        branches_held = w.branches_held;
      }

  -- What it says of the rows.
  pub whole_rows : WellFormed t → RowsFit t.rows t.deps t.counts.rows t.counts.authors
  whole_rows w =
      record {
        authors_fit = record { in_order = w.authors_numbered; appear = w.authors_appear };
        chain = w.rows_chained;
        depend = w.rows_depend;
      }

  -- What it says of the branch counts.
  pub whole_branches : WellFormed t → BranchesFit t.rows t.branches t.counts.rows t.counts.authors
  whole_branches w = record { successors = w.branches_right; firsts = w.firsts_right }

  -- The groups make the rule.
  pub whole_of : CountsFit t → dep_sum t.rows t.counts.rows ≡ t.counts.deps
      → Distinct t.keys t.counts.authors → Distinct t.ids t.counts.rows
      → BranchesFit t.rows t.branches t.counts.rows t.counts.authors
      → RowsFit t.rows t.deps t.counts.rows t.counts.authors → WellFormed t
  whole_of c s k i b f =
      record {
        rows_limit = c.rows_limit;
        authors_limit = c.authors_limit;
        deps_limit = c.deps_limit;
        rows_held = c.rows_held;
        ids_held = c.ids_held;
        keys_held = c.keys_held;
        deps_held = c.deps_held;
        deps_sum = s;
        keys_distinct = k;
        ids_distinct = i;
        authors_numbered = f.authors_fit.in_order;
        authors_appear = f.authors_fit.appear;
        rows_chained = f.chain;
        rows_depend = f.depend;
        firsts_held = c.firsts_held;
        branches_held = c.branches_held;
        branches_right = b.successors;
        firsts_right = b.firsts;
      }

-- "Entries beyond the counts are never read": two tables that agree within the counts.
-- Assumes nothing.
use Rattle.std.specs.Prelude.{ℕ, ◌*◌, ◌≡◌, take, drop}
use Rattle.basics.specs.Chunk.{chunk_size}
use Rattle.store.specs.Limits.{author_limit, row_width}
use Rattle.store.specs.Table.{Table}

-- The first so many rows, keys and dependencies of two tables are the same: what no operation changes once it is written.
pub record SameWithin (t u : Table) (rows authors deps : ℕ) : Type 0 where
  pub same_keys : take (authors * chunk_size) t.keys ≡ take (authors * chunk_size) u.keys
  pub same_ids : take (rows * chunk_size) t.ids ≡ take (rows * chunk_size) u.ids
  pub same_rows : take (rows * row_width) t.rows ≡ take (rows * row_width) u.rows
  pub same_deps : take deps t.deps ≡ take deps u.deps

-- The branch counts of so many rows and authors are the same: what an admission may raise.
pub record SameBranches (t u : Table) (rows authors : ℕ) : Type 0 where
  pub same_firsts : take authors t.branches ≡ take authors u.branches
  pub same_branches : take rows (drop author_limit t.branches) ≡ take rows (drop author_limit u.branches)

-- Two tables with the same counts agree within them.
pub record Agree (t u : Table) : Type 0 where
  pub same_counts : t.counts ≡ u.counts
  pub within : SameWithin t u t.counts.rows t.counts.authors t.counts.deps
  pub counted : SameBranches t u t.counts.rows t.counts.authors

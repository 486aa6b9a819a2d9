-- The room of two stores: document 01, "Where a lent part is shorter than its limit, its length is the limit for FULL".
-- Assumes nothing.
use Rattle.std.specs.Prelude.{◌≡◌, length}
use Rattle.store.specs.Table.{Table}

-- The parts of two stores have equal lengths.
pub record SameLengths (t u : Table) : Type 0 where
  pub keys : length t.keys ≡ length u.keys
  pub ids : length t.ids ≡ length u.ids
  pub rows : length t.rows ≡ length u.rows
  pub deps : length t.deps ≡ length u.deps
  pub branches : length t.branches ≡ length u.branches

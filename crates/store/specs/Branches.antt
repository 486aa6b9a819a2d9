-- Document 02, §8, as the functions count: each row counts at one place of the part branches.
-- Assumes nothing.
use Rattle.std.specs.Prelude.{ℕ, zero, suc, ◌+◌, ◌≤◌, ◌<◌, List, length, get_or, set, eqb, ltb}
use Rattle.basics.specs.Pick.{pick}
use Rattle.store.specs.Limits.{row_limit, author_limit, branch_limit}
use Rattle.store.specs.Table.{row_at, first_place, branch_place}
use Rattle.store.specs.declared.lent.Counts.{Counts}
use Rattle.store.specs.declared.Row.{Row}

-- "the number of its previous row, or author": where the number stands that a row adds to. A row that no store has counts after all places.
unfoldable pub counted_at : Row → ℕ
counted_at row =
    pick (eqb row.prev 0)
    (pick (eqb row.author 0) branch_limit (pick (ltb author_limit row.author) branch_limit (first_place row.author)))
    (pick (ltb row_limit row.prev) branch_limit (branch_place row.prev))

-- How many of the first `n` rows count at place `p`.
unfoldable pub counted_in : List ℕ → ℕ → ℕ → ℕ
counted_in rows zero p = 0
counted_in rows (suc n) p = counted_in rows n p + pick (eqb (counted_at (row_at rows (suc n))) p) 1 0

-- The number at a row's place once the row is written: one more, and 1 for a new author, whatever stood there.
abbrev pub number_with : List ℕ → Counts → Row → ℕ
number_with branches c row = pick (ltb c.authors row.author) 1 (get_or branches (counted_at row) 0 + 1)

-- "An admission so also writes 0 for its own row and the number of its previous row, or author."
abbrev pub branches_with : List ℕ → Counts → Row → List ℕ
branches_with branches c row = set (set branches (counted_at row) (number_with branches c row)) (branch_place (c.rows + 1)) 0

-- What counting a row asks: both places, and a number that may be raised where the author is known.
pub record Countable (branches : List ℕ) (c : Counts) (row : Row) : Type 0 where
  pub place : counted_at row < length branches
  pub own_place : branch_place (c.rows + 1) < length branches
  pub raisable : row.author ≤ c.authors → get_or branches (counted_at row) 0 ≤ row_limit

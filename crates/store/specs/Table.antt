-- Document 01, "The store": the lent parts with their counts, what stands in them, and the rule that makes them well formed.
-- Rows and authors are numbered from 1; 0 means none.
-- Assumes nothing.
use Rattle.std.specs.Prelude.{ℕ, zero, suc, ◌+◌, ◌-◌, ◌*◌, ◌/◌, ◌≤◌, ◌<◌, max, ◌≡◌, Bool, true, false, not, List, [], ◌∷◌, ◌≢◌, length, take, drop, get_or, eqb, ltb, leb}
use Rattle.std.proofs.Math.Seq.{paste}
use Rattle.basics.specs.Pick.{pick, both, either}
use Rattle.basics.specs.Chunk.{chunk_size}
use Rattle.chunks.specs.Piece.{piece_at}
use Rattle.store.specs.Limits.{row_limit, author_limit, dep_limit, row_width}
use Rattle.store.specs.declared.lent.Counts.{Counts}
use Rattle.store.specs.declared.Row.{Row}

-- "The store holds 32-byte keys and ids, and 2-byte numbers: for each row its author, previous row, index and number of
-- dependencies, then all dependencies row after row. The three counts travel beside it." Document 02, §8: the branch counts too.
pub record Table : Type 0 where
  pub keys : List ℕ
  pub ids : List ℕ
  pub rows : List ℕ
  pub deps : List ℕ
  pub branches : List ℕ
  pub counts : Counts

-- What stands in the place of no row.
abbrev pub no_row : Row
no_row = record { author = 0; prev = 0; index = 0; deps = 0 }

-- The four numbers of row `r`: none for row 0, and for a row that the part does not hold whole.
unfoldable pub row_at : List ℕ → ℕ → Row
row_at rows r =
    pick (eqb r 0) no_row
    (pick (ltb (length rows / row_width) r) no_row
    (record {
      author = get_or rows ((r - 1) * row_width) 0;
      prev = get_or rows ((r - 1) * row_width + 1) 0;
      index = get_or rows ((r - 1) * row_width + 2) 0;
      deps = get_or rows ((r - 1) * row_width + 3) 0;
    }))

-- "its author, previous row, index and number of dependencies": the four numbers of a row, in that order.
abbrev pub row_numbers : Row → List ℕ
row_numbers row = row.author ∷ row.prev ∷ row.index ∷ row.deps ∷ []

-- The rows with one more written after the first `n`.
abbrev pub row_put : List ℕ → ℕ → Row → List ℕ
row_put rows n row = paste rows (n * row_width) (row_numbers row) row_width

-- A row's numbers fit two bytes: none is above the most rows.
pub record Small (row : Row) : Type 0 where
  pub author : row.author ≤ row_limit
  pub prev : row.prev ≤ row_limit
  pub index : row.index ≤ row_limit
  pub deps : row.deps ≤ row_limit

-- The author of row `r`.
abbrev pub author_of : Table → ℕ → ℕ
author_of t r = (row_at t.rows r).author

-- The previous row of row `r`, or none.
abbrev pub prev_of : Table → ℕ → ℕ
prev_of t r = (row_at t.rows r).prev

-- The index of row `r`.
abbrev pub index_of : Table → ℕ → ℕ
index_of t r = (row_at t.rows r).index

-- The number of dependencies of row `r`.
abbrev pub dep_count_of : Table → ℕ → ℕ
dep_count_of t r = (row_at t.rows r).deps

-- The id of row `r`.
abbrev pub id_at : Table → ℕ → List ℕ
id_at t r = piece_at t.ids r

-- The key of author `a`.
abbrev pub key_at : Table → ℕ → List ℕ
key_at t a = piece_at t.keys a

-- The numbers of dependencies of the first `n` rows, added up.
unfoldable pub dep_sum : List ℕ → ℕ → ℕ
dep_sum rows zero = 0
dep_sum rows (suc n) = dep_sum rows n + (row_at rows (suc n)).deps

-- "all dependencies row after row": those of row `r` begin after those of the rows before it.
abbrev pub dep_start : Table → ℕ → ℕ
dep_start t r = dep_sum t.rows (r - 1)

-- The dependencies of row `r` in the part `deps`.
abbrev pub deps_in : List ℕ → List ℕ → ℕ → List ℕ
deps_in rows deps r = take (row_at rows r).deps (drop (dep_sum rows (r - 1)) deps)

-- The dependencies of row `r`.
abbrev pub deps_of : Table → ℕ → List ℕ
deps_of t r = deps_in t.rows t.deps r

-- The largest author number of the first `n` rows: how many authors have appeared there.
unfoldable pub authors_in : List ℕ → ℕ → ℕ
authors_in rows zero = 0
authors_in rows (suc n) = max (authors_in rows n) (row_at rows (suc n)).author

-- "authors are numbered by first appearance": a row's author has appeared before it, or is the next one.
unfoldable pub numbered : List ℕ → ℕ → Bool
numbered rows r = both (leb 1 (row_at rows r).author) (leb (row_at rows r).author (authors_in rows (r - 1) + 1))

-- "a row has no previous row and index 1,"
abbrev pub first : Row → Bool
first row = both (eqb row.prev 0) (eqb row.index 1)

-- "or an earlier row of the same author whose index is one less"
abbrev pub follows : List ℕ → ℕ → Row → Bool
follows rows r row =
    both (both (leb 1 row.prev) (ltb row.prev r))
    (both (eqb (row_at rows row.prev).author row.author) (eqb ((row_at rows row.prev).index + 1) row.index))

-- Both sentences of previous row and index.
unfoldable pub chained : List ℕ → ℕ → Bool
chained rows r = either (first (row_at rows r)) (follows rows r (row_at rows r))

-- All of a list pass a test.
unfoldable pub every : (ℕ → Bool) → List ℕ → Bool
every f [] = true
every f (d ∷ ds) = both (f d) (every f ds)

-- "earlier rows, of other authors": so is `d` for row `r`.
abbrev pub reaches : List ℕ → ℕ → ℕ → Bool
reaches rows r d = both (both (leb 1 d) (ltb d r)) (not (eqb (row_at rows d).author (row_at rows r).author))

-- One of the rows in a list is of author `a`.
unfoldable pub has_author : List ℕ → ℕ → List ℕ → Bool
has_author rows a [] = false
has_author rows a (d ∷ ds) = either (eqb (row_at rows d).author a) (has_author rows a ds)

-- "at most one per author"
unfoldable pub one_per_author : List ℕ → List ℕ → Bool
one_per_author rows [] = true
one_per_author rows (d ∷ ds) = both (not (has_author rows (row_at rows d).author ds)) (one_per_author rows ds)

-- "its dependencies are earlier rows, of other authors, at most one per author": so are `ds` for row `r`.
unfoldable pub depends : List ℕ → ℕ → List ℕ → Bool
depends rows r ds = both (every (reaches rows r) ds) (one_per_author rows ds)

-- The rule of one row with its dependencies, over the rows before it: that it stands, or may be added.
abbrev pub row_fits : List ℕ → ℕ → List ℕ → Bool
row_fits rows r ds = both (numbered rows r) (both (chained rows r) (depends rows r ds))

-- Document 02, §8: "The successors of none are kept too, one number per author": where author `a`'s number stands,
abbrev pub first_place : ℕ → ℕ
first_place a = a - 1

-- and after those of the authors row `r`'s: "Keep the number in the store, one per row".
abbrev pub branch_place : ℕ → ℕ
branch_place r = author_limit + (r - 1)

-- The number that the store keeps of author `a`,
abbrev pub firsts_of : Table → ℕ → ℕ
firsts_of t a = get_or t.branches (first_place a) 0

-- and of row `r`.
abbrev pub branches_of : Table → ℕ → ℕ
branches_of t r = get_or t.branches (branch_place r) 0

-- "The successors of none .., one number per author": how many of the first `n` rows are first messages of author `a`.
unfoldable pub firsts_in : List ℕ → ℕ → ℕ → ℕ
firsts_in rows zero a = 0
firsts_in rows (suc n) a = firsts_in rows n a + pick (both (eqb (row_at rows (suc n)).prev 0) (eqb (row_at rows (suc n)).author a)) 1 0

-- "the number of rows whose previous row is this one": how many of the first `n` rows have the previous row `r`.
unfoldable pub successors_in : List ℕ → ℕ → ℕ → ℕ
successors_in rows zero r = 0
successors_in rows (suc n) r = successors_in rows n r + pick (eqb (row_at rows (suc n)).prev r) 1 0

-- "It is well formed when .."
pub record WellFormed (t : Table) : Type 0 where
  -- ".. the counts keep the limits"
  pub rows_limit : t.counts.rows ≤ row_limit
  pub authors_limit : t.counts.authors ≤ author_limit
  pub deps_limit : t.counts.deps ≤ dep_limit
  -- "and fit the lent parts;"
  pub rows_held : t.counts.rows * row_width ≤ length t.rows
  pub ids_held : t.counts.rows * chunk_size ≤ length t.ids
  pub keys_held : t.counts.authors * chunk_size ≤ length t.keys
  pub deps_held : t.counts.deps ≤ length t.deps
  -- "the rows' numbers of dependencies add up to the dependency count;"
  pub deps_sum : dep_sum t.rows t.counts.rows ≡ t.counts.deps
  -- "keys are distinct"
  pub keys_distinct : (j : ℕ) → j ≤ t.counts.authors → (i : ℕ) → i < j → 1 ≤ i → key_at t i ≢ key_at t j
  -- "and ids are distinct;"
  pub ids_distinct : (j : ℕ) → j ≤ t.counts.rows → (i : ℕ) → i < j → 1 ≤ i → id_at t i ≢ id_at t j
  -- "authors are numbered by first appearance"
  pub authors_numbered : (r : ℕ) → r ≤ t.counts.rows → 1 ≤ r → numbered t.rows r ≡ true
  -- "and each has a row;"
  pub authors_appear : authors_in t.rows t.counts.rows ≡ t.counts.authors
  -- "a row has no previous row and index 1, or an earlier row of the same author whose index is one less;"
  pub rows_chained : (r : ℕ) → r ≤ t.counts.rows → 1 ≤ r → chained t.rows r ≡ true
  -- "its dependencies are earlier rows, of other authors, at most one per author (M1 to M4 of source 002)."
  pub rows_depend : (r : ℕ) → r ≤ t.counts.rows → 1 ≤ r → depends t.rows r (deps_of t r) ≡ true
  -- Document 02, §8: the counts fit the part branches too,
  pub firsts_held : t.counts.authors ≤ length t.branches
  pub branches_held : t.counts.rows ≤ length t.branches - author_limit
  -- "equal to the number of rows whose previous row is this one, and the well_formed rule of document 01 now includes that."
  pub branches_right : (r : ℕ) → r ≤ t.counts.rows → 1 ≤ r → branches_of t r ≡ successors_in t.rows t.counts.rows r
  -- "The successors of none are kept too, one number per author."
  pub firsts_right : (a : ℕ) → a ≤ t.counts.authors → 1 ≤ a → firsts_of t a ≡ firsts_in t.rows t.counts.rows a

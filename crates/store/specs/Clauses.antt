-- Clauses of the rule of the table as the functions decide them, over the lent parts alone.
-- Assumes nothing.
use Rattle.std.specs.Prelude.{ℕ, ◌+◌, ◌-◌, ◌*◌, ◌≤◌, ◌<◌, ◌≡◌, true, List, length, get_or}
use Rattle.basics.specs.Chunk.{chunk_size}
use Rattle.store.specs.Limits.{row_limit, author_limit, dep_limit, row_width}
use Rattle.store.specs.Table.{Table, authors_in, numbered, chained, deps_in, depends}
use Rattle.store.specs.Table.{first_place, branch_place, firsts_in, successors_in}
use Rattle.store.specs.declared.lent.Counts.{Counts}
use Rattle.store.specs.declared.lent.Store.{Store}
use Rattle.store.specs.declared.lent.StoreMut.{StoreMut}

-- The table of the lent parts and the counts.
abbrev pub table_of : List ℕ → List ℕ → List ℕ → List ℕ → List ℕ → Counts → Table
table_of keys ids rows deps branches counts =
    record { keys = keys; ids = ids; rows = rows; deps = deps; branches = branches; counts = counts }

-- The table that stands in a store lent to be read,
abbrev pub table_in : Store → Table
table_in s = table_of s.keys.now s.ids.now s.rows.now s.deps.now s.branches.now s.counts

-- and in one lent to be written.
abbrev pub table_held : StoreMut → Table
table_held s = table_of s.keys.now s.ids.now s.rows.now s.deps.now s.branches.now s.counts

-- The parts lent are the same ones, each as long as it was, whatever was written into them.
pub record SameParts (s t : StoreMut) : Type 0 where
  pub keys : t.keys.ghost_name ≡ s.keys.ghost_name
  pub ids : t.ids.ghost_name ≡ s.ids.ghost_name
  pub rows : t.rows.ghost_name ≡ s.rows.ghost_name
  pub deps : t.deps.ghost_name ≡ s.deps.ghost_name
  pub branches : t.branches.ghost_name ≡ s.branches.ghost_name
  pub keys_length : length t.keys.now ≡ length s.keys.now
  pub ids_length : length t.ids.now ≡ length s.ids.now
  pub rows_length : length t.rows.now ≡ length s.rows.now
  pub deps_length : length t.deps.now ≡ length s.deps.now
  pub branches_length : length t.branches.now ≡ length s.branches.now

-- "the counts keep the limits and fit the lent parts"
pub record CountsFit (t : Table) : Type 0 where
  pub rows_limit : t.counts.rows ≤ row_limit
  pub authors_limit : t.counts.authors ≤ author_limit
  pub deps_limit : t.counts.deps ≤ dep_limit
  pub rows_held : t.counts.rows * row_width ≤ length t.rows
  pub ids_held : t.counts.rows * chunk_size ≤ length t.ids
  pub keys_held : t.counts.authors * chunk_size ≤ length t.keys
  pub deps_held : t.counts.deps ≤ length t.deps
  pub firsts_held : t.counts.authors ≤ length t.branches
  pub branches_held : t.counts.rows ≤ length t.branches - author_limit

-- "authors are numbered by first appearance": so are the first `n` rows.
abbrev pub AllNumbered : List ℕ → ℕ → Type 0
AllNumbered rows n = (r : ℕ) → r ≤ n → 1 ≤ r → numbered rows r ≡ true

-- "authors are numbered by first appearance and each has a row"
pub record AuthorsFit (rows : List ℕ) (n authors : ℕ) : Type 0 where
  pub in_order : AllNumbered rows n
  pub appear : authors_in rows n ≡ authors

-- "a row has no previous row and index 1, or an earlier row of the same author whose index is one less": so have the first `n`.
abbrev pub AllChained : List ℕ → ℕ → Type 0
AllChained rows n = (r : ℕ) → r ≤ n → 1 ≤ r → chained rows r ≡ true

-- "its dependencies are earlier rows, of other authors, at most one per author": so are those of the first `n` rows.
abbrev pub AllDepend : List ℕ → List ℕ → ℕ → Type 0
AllDepend rows deps n = (r : ℕ) → r ≤ n → 1 ≤ r → depends rows r (deps_in rows deps r) ≡ true

-- The rules of the first `n` rows, with so many authors.
pub record RowsFit (rows deps : List ℕ) (n authors : ℕ) : Type 0 where
  pub authors_fit : AuthorsFit rows n authors
  pub chain : AllChained rows n
  pub depend : AllDepend rows deps n

-- Document 02, §8: "equal to the number of rows whose previous row is this one"; "The successors of none are kept too, one number per
-- author": so are the numbers of the first `n` rows and of so many authors.
pub record BranchesFit (rows branches : List ℕ) (n authors : ℕ) : Type 0 where
  pub successors : (r : ℕ) → r ≤ n → 1 ≤ r → get_or branches (branch_place r) 0 ≡ successors_in rows n r
  pub firsts : (a : ℕ) → a ≤ authors → 1 ≤ a → get_or branches (first_place a) 0 ≡ firsts_in rows n a

-- From a place on, the next `n` numbers of two lists are the same.
abbrev pub SamePlaces : List ℕ → List ℕ → ℕ → ℕ → Type 0
SamePlaces s u at n = (k : ℕ) → k < n → get_or s (at + k) 0 ≡ get_or u (at + k) 0

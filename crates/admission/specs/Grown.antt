-- The store with one row more: document 01, "Admission writes one row, its id, its dependencies and, for a new key, that key.
-- Nothing else changes."
-- Assumes nothing.
use Rattle.std.specs.Prelude.{ℕ, ◌+◌, ◌*◌, ◌≤◌, ◌<◌, ◌≡◌, List, ◌≢◌, length, get_or, drop}
use Rattle.basics.specs.Chunk.{chunk_size}
use Rattle.item.specs.Laid.{IsItem}
use Rattle.item.specs.Layout.{previous_of, dependency_of}
use Rattle.item.specs.declared.Fields.{Fields}
use Rattle.store.specs.Agree.{SameWithin}
use Rattle.store.specs.Limits.{row_width}
use Rattle.store.specs.Branches.{counted_at}
use Rattle.store.specs.Table.{Table, row_at, id_at, key_at, deps_of, branch_place, firsts_of, branches_of}
use Rattle.store.specs.declared.Row.{Row}
use Rattle.judging.specs.Message.{next_row}
use Rattle.admission.specs.After.{counts_with}
use Rattle.admission.specs.Paper.{Has, NoPrevious}

-- The row, with the rows `ds` that it depends on, is the item's: "for each row its author, previous row, index and number of dependencies".
-- The author is said by its key, below.
pub record RowOfItem (t : Table) (s : List ℕ) (f : Fields) (row : Row) (ds : List ℕ) : Type 0 where
  pub item : IsItem s f
  pub index : row.index ≡ f.index
  pub number : row.deps ≡ f.count
  -- "An index of 1 means no previous message"; any other item has the row of its previous id,
  pub prev_none : NoPrevious f → row.prev ≡ 0
  pub prev_named : (NoPrevious f → ⊥) → Has t (previous_of s) row.prev
  -- and in its order the rows of its dependency ids.
  pub deps_number : length ds ≡ f.count
  pub deps_named : (k : ℕ) → k < f.count → Has t (dependency_of f k s) (get_or ds k 0)

-- Document 02, §8: "An admission so also writes 0 for its own row and the number of its previous row, or author", which is one more; the
-- first of a new author is 1. Every other number of the part is what it was.
pub record BranchesGrow (t u : Table) (row : Row) : Type 0 where
  pub own : branches_of u (next_row t) ≡ 0
  pub previous : 1 ≤ row.prev → branches_of u row.prev ≡ branches_of t row.prev + 1
  pub author_known : row.prev ≡ 0 → row.author ≤ t.counts.authors → firsts_of u row.author ≡ firsts_of t row.author + 1
  pub author_new : t.counts.authors < row.author → firsts_of u row.author ≡ 1
  pub others : (p : ℕ) → p ≢ branch_place (next_row t) → p ≢ counted_at row → get_or u.branches p 0 ≡ get_or t.branches p 0
  pub branches_length : length u.branches ≡ length t.branches

-- `u` is `t` with this row, its id, the rows that it depends on, its author's key and one more to count; every old row, id, key and
-- dependency is what it was, and so is the room that is left.
pub record Grows (t u : Table) (row : Row) (id key ds : List ℕ) : Type 0 where
  pub kept : SameWithin t u t.counts.rows t.counts.authors t.counts.deps
  pub row_new : row_at u.rows (next_row t) ≡ row
  pub id_new : id_at u (next_row t) ≡ id
  pub key_new : key_at u row.author ≡ key
  pub deps_new : deps_of u (next_row t) ≡ ds
  pub counts_new : u.counts ≡ counts_with t.counts row
  pub keys_length : length u.keys ≡ length t.keys
  pub ids_length : length u.ids ≡ length t.ids
  pub rows_length : length u.rows ≡ length t.rows
  pub deps_length : length u.deps ≡ length t.deps
  pub keys_beyond : drop (u.counts.authors * chunk_size) u.keys ≡ drop (u.counts.authors * chunk_size) t.keys
  pub ids_beyond : drop (u.counts.rows * chunk_size) u.ids ≡ drop (u.counts.rows * chunk_size) t.ids
  pub rows_beyond : drop (u.counts.rows * row_width) u.rows ≡ drop (u.counts.rows * row_width) t.rows
  pub deps_beyond : drop u.counts.deps u.deps ≡ drop u.counts.deps t.deps
  pub branches_new : BranchesGrow t u row

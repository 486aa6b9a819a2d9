-- What an admission answers and leaves: document 01, "Answer numbers".
-- Assumes nothing.
use Rattle.answers.specs.declared.Refusal.{Refusal}
use Rattle.std.specs.Prelude.{ℕ, ◌+◌, ◌*◌, ◌≤◌, ◌<◌, ◌≡◌, List, length, ltb, Result, Ok, Err}
use Rattle.std.proofs.Math.Seq.{paste}
use Rattle.basics.specs.Pick.{pick}
use Rattle.basics.specs.Chunk.{chunk_size}
use Rattle.answers.specs.declared.Refusal.TheVariants.{Store}
use Rattle.chunks.specs.Piece.{put_at}
use Rattle.item.specs.Layout.{layout_of, key_of}
use Rattle.item.specs.Id.{id_of}
use Rattle.item.specs.declared.Fields.{Fields}
use Rattle.store.specs.Branches.{branches_with, Countable}
use Rattle.store.specs.Limits.{row_limit, dep_limit, row_dep_limit, row_width}
use Rattle.store.specs.Table.{Table, WellFormed, Small, row_put}
use Rattle.store.specs.declared.lent.Counts.{Counts}
use Rattle.store.specs.declared.Row.{Row}
use Rattle.judging.specs.Message.{next_row, dep_rows}
use Rattle.judging.specs.Verdict.{judged_of, verdict_of}
use Rattle.judging.specs.declared.Verdict.{Verdict}
use Rattle.judging.specs.declared.Verdict.TheVariants.{Fits, Holds, Breaks}
use Rattle.admission.specs.declared.Admitted.{Admitted}
use Rattle.admission.specs.declared.Admitted.TheVariants.{Done, Held, Refused}

-- The keys after the row: one more where its author is one more than those that have a key.
abbrev pub keyed : Table → Row → List ℕ → List ℕ
keyed t row k = pick (ltb t.counts.authors row.author) (put_at t.keys row.author k) t.keys

-- The counts after one row more.
abbrev pub counts_with : Counts → Row → Counts
counts_with c row =
    record {
      rows = c.rows + 1;
      authors = pick (ltb c.authors row.author) row.author c.authors;
      deps = c.deps + row.deps;
    }

-- "Admission writes one row, its id, its dependencies and, for a new key, that key. Nothing else changes." Document 02, §8: "An admission
-- so also writes 0 for its own row and the number of its previous row, or author."
abbrev pub admitted : Table → List ℕ → Fields → Row → Table
admitted t s f row =
    record {
      keys = keyed t row (key_of s);
      ids = put_at t.ids (next_row t) (id_of s);
      rows = row_put t.rows t.counts.rows row;
      deps = paste t.deps t.counts.deps (dep_rows t s f) f.count;
      branches = branches_with t.branches t.counts row;
      counts = counts_with t.counts row;
    }

-- What writing a row asks: its numbers fit two bytes, the parts have room for it, and the id is the item's.
pub record Writable (t : Table) (s : List ℕ) (f : Fields) (id : List ℕ) (row : Row) : Type 0 where
  pub small : Small row
  pub counted : row.deps ≡ f.count
  pub few : f.count ≤ row_dep_limit
  pub rows_limit : t.counts.rows ≤ row_limit
  pub deps_limit : t.counts.deps ≤ dep_limit
  pub rows_place : (t.counts.rows + 1) * row_width ≤ length t.rows
  pub ids_place : (t.counts.rows + 1) * chunk_size ≤ length t.ids
  pub deps_place : t.counts.deps + f.count ≤ length t.deps
  pub author_next : row.author ≤ t.counts.authors + 1
  pub keys_place : t.counts.authors < row.author → row.author * chunk_size ≤ length t.keys
  pub countable : Countable t.branches t.counts row
  pub key_sized : chunk_size ≤ length (key_of s)
  pub id_sized : chunk_size ≤ length id
  pub id_is : id ≡ id_of s

-- The store after a verdict on an item that has these fields.
unfoldable pub store_then : Table → List ℕ → Fields → Verdict → Table
store_then t s f (Fits row) = admitted t s f row
store_then t s f (Holds r) = t
store_then t s f (Breaks r) = t

-- The store after an item, by its layout.
unfoldable pub store_by : Table → List ℕ → Result Fields Refusal → Table
store_by t s (Ok f) = store_then t s f (judged_of t s f)
store_by t s (Err r) = t

-- The store after an item.
abbrev pub store_after : Table → List ℕ → Table
store_after t s = store_by t s (layout_of s)

-- The answer of a verdict: "0 done, admitted, with the new row"; "8 HELD, .. with its row"; "A refusal returns its number".
abbrev pub answer_of : Table → Verdict → Admitted
answer_of t (Fits row) = Done (next_row t)
answer_of t (Holds r) = Held r
answer_of t (Breaks r) = Refused r

-- What an admission promises of a well_formed store and an item that has these fields.
pub record JudgedItem (t : Table) (s : List ℕ) (f : Fields) (u : Table) (a : Admitted) : Type 0 where
  pub answer : a ≡ answer_of t (judged_of t s f)
  pub after : u ≡ store_then t s f (judged_of t s f)

-- What an admission promises of a well_formed store: of the store before, the item's bytes, the store after and the answer.
pub record Judged (t : Table) (s : List ℕ) (u : Table) (a : Admitted) : Type 0 where
  pub answer : a ≡ answer_of t (verdict_of t s)
  pub after : u ≡ store_after t s

-- What an admission promises of any store.
pub data Admits (t : Table) (s : List ℕ) (u : Table) (a : Admitted) : Type 0 where
  -- 1 STORE: "not well formed"
  damaged : (WellFormed t → ⊥) → a ≡ Refused Store → u ≡ t → Admits t s u a
  sound : WellFormed t → Judged t s u a → Admits t s u a

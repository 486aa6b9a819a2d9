-- The table "Answer numbers" of document 01, line by line: where an admission may give each refusal.
-- Assumes nothing.
use Rattle.std.specs.Prelude.{ℕ, ◌+◌, ◌≤◌, ◌<◌, ◌≡◌, List, ◌≢◌, replicate}
use Rattle.basics.specs.Chunk.{chunk_size}
use Rattle.answers.specs.declared.Refusal.{Refusal}
use Rattle.answers.specs.declared.Refusal.TheVariants.{Store, Flag, Sign, Index, Prev, Owner, Step, Dep, DepOwner, Full}
use Rattle.item.specs.Laid.{IsItem}
use Rattle.item.specs.Layout.{key_of, previous_of, dependency_of}
use Rattle.item.specs.Lines as item
use Rattle.item.specs.declared.Fields.{Fields}
use Rattle.store.specs.Table.{Table, WellFormed, key_at, index_of}
use Rattle.admission.specs.Paper.{Has, author_key}
use Rattle.judging.specs.Verdict.{row_room, author_room, dep_room}

-- The lines 6 to 16 on an item that has these fields.
pub data Rule (t : Table) (s : List ℕ) (f : Fields) : Refusal → Type 0 where
  -- 6 FLAG: "mark is neither 0 nor 1"
  flag : f.mark ≢ 0 → f.mark ≢ 1 → Rule t s f Flag
  -- 7 SIGN: "mark is 0 (M5)"
  sign : f.mark ≡ 0 → Rule t s f Sign
  -- 9 INDEX: "index 0, or index 1 with a previous field not zero"
  index_none : f.index ≡ 0 → Rule t s f Index
  index_marked : f.index ≡ 1 → previous_of s ≢ replicate chunk_size 0 → Rule t s f Index
  -- 10 PREV: "index above 1, previous id not in the store"
  prev : 1 < f.index → ((r : ℕ) → Has t (previous_of s) r → ⊥) → Rule t s f Prev
  -- 11 OWNER: "previous row has another author"
  owner : 1 < f.index → (r : ℕ) → Has t (previous_of s) r → author_key t r ≢ key_of s → Rule t s f Owner
  -- 12 STEP: "index is not the previous one plus 1"
  step : 1 < f.index → (r : ℕ) → Has t (previous_of s) r → f.index ≢ index_of t r + 1 → Rule t s f Step
  -- 13 CYCLE: "previous row is at or after the row the message would take": no store and no item meets this line (the law `line_13_empty`)
  -- 14 DEP: "a dependency id not in the store"
  dep : (k : ℕ) → k < f.count → ((r : ℕ) → Has t (dependency_of f k s) r → ⊥) → Rule t s f Dep
  -- 15 DEPOWNER: "dependency of the message's own author, or two of one author"
  own : (k : ℕ) → k < f.count → (r : ℕ) → Has t (dependency_of f k s) r → author_key t r ≡ key_of s → Rule t s f DepOwner
  two : (i j : ℕ) → i < j → j < f.count → (q r : ℕ) → Has t (dependency_of f i s) q → Has t (dependency_of f j s) r
      → author_key t q ≡ author_key t r → Rule t s f DepOwner
  -- 16 FULL: "no free row, no place for a new author, or too few dependency places"
  no_row : row_room t ≤ t.counts.rows → Rule t s f Full
  no_key : ((a : ℕ) → a ≤ t.counts.authors → 1 ≤ a → key_at t a ≢ key_of s) → author_room t ≤ t.counts.authors → Rule t s f Full
  no_deps : dep_room t < t.counts.deps + f.count → Rule t s f Full

-- The lines of all refusals of an admission.
pub data Line (t : Table) (s : List ℕ) : Refusal → Type 0 where
  -- 1 STORE: "not well formed"
  store : (WellFormed t → ⊥) → Line t s Store
  -- 2 to 5
  layout : {r : Refusal} → item.Line s r → Line t s r
  -- 6 to 16
  rule : {f : Fields} {r : Refusal} → WellFormed t → IsItem s f → Rule t s f r → Line t s r

-- Source 002, section 3.2.1, "Validity Properties", said of a message that comes as an item to a store: `t` is the store, `s` the item's
-- bytes, `f` its fields. A message of the store is a row within the count; the rows of a well_formed store are all valid.
-- Assumes nothing.
use Rattle.std.specs.Prelude.{ℕ, ◌+◌, ◌≤◌, ◌<◌, ◌≡◌, List, ◌≢◌, ◌⊎◌, replicate}
use Rattle.basics.specs.Chunk.{chunk_size}
use Rattle.item.specs.Id.{id_of}
use Rattle.item.specs.Laid.{IsItem}
use Rattle.item.specs.Layout.{key_of, previous_of, dependency_of}
use Rattle.item.specs.declared.Fields.{Fields}
use Rattle.store.specs.Paper.{Message, back}
use Rattle.store.specs.Table.{Table, id_at, key_at, author_of, index_of}
use Rattle.judging.specs.Verdict.{row_room, author_room, dep_room}

-- "x = MsgId(M'): M' exists and is valid": row `r` of the store is M'.
pub record Has (t : Table) (x : List ℕ) (r : ℕ) : Type 0 where
  pub message : Message t r
  pub id : id_at t r ≡ x

-- "M'_author", the key of a row's author.
abbrev pub author_key : Table → ℕ → List ℕ
author_key t r = key_at t (author_of t r)

-- "M_prev = ⊥": document 01, "An index of 1 means no previous message".
abbrev pub NoPrevious : Fields → Type 0
NoPrevious f = f.index ≡ 1

-- M1 (single previous dependency): "either M_prev = ⊥, or M_prev = MsgId(M'): M' exists and is valid."
abbrev pub M1 : Table → List ℕ → Fields → Type 0
M1 t s f = NoPrevious f ⊎ ((r : ℕ) × Has t (previous_of s) r)

-- M2 (single author): "if M_prev = MsgId(M') then M'_author = M_author."
abbrev pub M2 : Table → List ℕ → Fields → Type 0
M2 t s f = (NoPrevious f → ⊥) → (r : ℕ) → Has t (previous_of s) r → author_key t r ≡ key_of s

-- M3 (valid external dependencies): "for all msgId ∈ M_deps, there exists a valid M' such that MsgId(M') = msgId and M'_author ≠ M_author."
abbrev pub M3 : Table → List ℕ → Fields → Type 0
M3 t s f = (k : ℕ) → k < f.count → (r : ℕ) × (Has t (dependency_of f k s) r × (author_key t r ≢ key_of s))

-- M4 (single author dependencies): "for any possible author not equal to M_author, there exists at most one msgId ∈ M_deps, such that
-- .. M'_author = author." A message id that is listed twice is two of one author, as document 01 has it.
abbrev pub M4 : Table → List ℕ → Fields → Type 0
M4 t s f =
    (author : List ℕ) → author ≢ key_of s → (i j : ℕ) → i < f.count → j < f.count → (q r : ℕ)
    → Has t (dependency_of f i s) q → Has t (dependency_of f j s) r → author_key t q ≡ author → author_key t r ≡ author → i ≡ j

-- M5 (self-certifying): "M_signature is consistent with M_author", which the host's mark says: document 01, "mark is 0 (M5)".
abbrev pub M5 : Fields → Type 0
M5 f = f.mark ≡ 1

-- M6 (acyclic): "M_prev does not reference a successor of M": no previous links lead from M_prev to M, nor is it M.
abbrev pub M6 : Table → List ℕ → Fields → Type 0
M6 t s f = (NoPrevious f → ⊥) → (r : ℕ) → Has t (previous_of s) r → (n : ℕ) → Has t (id_of s) (back t n r) → ⊥

-- Document 01: "An index of 1 means no previous message, and the previous field is then 32 zero bytes"; any other index is "the previous one plus 1".
pub data Indexed (t : Table) (s : List ℕ) (f : Fields) : Type 0 where
  first : f.index ≡ 1 → previous_of s ≡ replicate chunk_size 0 → Indexed t s f
  later : 1 < f.index → ((r : ℕ) → Has t (previous_of s) r → f.index ≡ index_of t r + 1) → Indexed t s f

-- Document 01: there is a free row, a place for the key where no author has it, and places for the dependencies.
pub record HasRoom (t : Table) (s : List ℕ) (f : Fields) : Type 0 where
  pub row : t.counts.rows < row_room t
  pub key : ((a : ℕ) → a ≤ t.counts.authors → 1 ≤ a → key_at t a ≢ key_of s) → t.counts.authors < author_room t
  pub deps : t.counts.deps + f.count ≤ dep_room t

-- When a message is accepted.
pub record Accepted (t : Table) (s : List ℕ) (f : Fields) : Type 0 where
  pub item : IsItem s f
  pub m5 : M5 f
  pub fresh : (r : ℕ) → Has t (id_of s) r → ⊥
  pub m1 : M1 t s f
  pub m2 : M2 t s f
  pub indexed : Indexed t s f
  pub m6 : M6 t s f
  pub m3 : M3 t s f
  pub m4 : M4 t s f
  pub room : HasRoom t s f

-- Source 002, section 3.2.1: when a message is valid, said of the rows of a table. A row is named where the paper names a message id.
-- M5 is the host's mark, which no table holds.
-- Assumes nothing.
use Rattle.std.specs.Prelude.{ℕ, zero, suc, ◌≤◌, ◌<◌, ◌≡◌, ◌≢◌, ◌⊎◌, length, get_or}
use Rattle.store.specs.Table.{Table, author_of, prev_of, deps_of}

-- A message that exists: a row within the count. Those of a well_formed table are all valid (the law `row_valid`), each with those that it names.
pub record Message (t : Table) (r : ℕ) : Type 0 where
  pub some : 1 ≤ r
  pub held : r ≤ t.counts.rows

-- M1 (single previous dependency): "either M_prev = ⊥, or M_prev = MsgId(M'): M' exists and is valid."
abbrev pub M1 : Table → ℕ → Type 0
M1 t r = (prev_of t r ≡ 0) ⊎ Message t (prev_of t r)

-- M2 (single author): "if M_prev = MsgId(M') then M'_author = M_author."
abbrev pub M2 : Table → ℕ → Type 0
M2 t r = (p : ℕ) → 1 ≤ p → prev_of t r ≡ p → author_of t p ≡ author_of t r

-- M3 (valid external dependencies): "for all msgId ∈ M_deps, there exists a valid M' such that MsgId(M') = msgId and M'_author ≠ M_author."
abbrev pub M3 : Table → ℕ → Type 0
M3 t r = (k : ℕ) → k < length (deps_of t r) → Message t (get_or (deps_of t r) k 0) × (author_of t (get_or (deps_of t r) k 0) ≢ author_of t r)

-- M4 (single author dependencies): "for any possible author not equal to M_author, there exists at most one msgId ∈ M_deps, such that .. M'_author = author."
abbrev pub M4 : Table → ℕ → Type 0
M4 t r =
    (author : ℕ) → author ≢ author_of t r → (i j : ℕ) → i < length (deps_of t r) → j < length (deps_of t r)
    → author_of t (get_or (deps_of t r) i 0) ≡ author → author_of t (get_or (deps_of t r) j 0) ≡ author → i ≡ j

-- The row that `n` previous links lead to.
unfoldable pub back : Table → ℕ → ℕ → ℕ
back t zero r = r
back t (suc n) r = prev_of t (back t n r)

-- A successor of `r` in the log: one or more previous links lead from it to `r`.
pub record Successor (t : Table) (r s : ℕ) : Type 0 where
  pub message : Message t s
  pub steps : ℕ
  pub leads : back t (suc steps) s ≡ r

-- M6 (acyclic): "M_prev does not reference a successor of M".
abbrev pub M6 : Table → ℕ → Type 0
M6 t r = (s : ℕ) → Successor t r s → prev_of t r ≢ s

-- "We validate messages as follows": a message of a table is valid.
pub record ValidMessage (t : Table) (r : ℕ) : Type 0 where
  pub m1 : M1 t r
  pub m2 : M2 t r
  pub m3 : M3 t r
  pub m4 : M4 t r
  pub m6 : M6 t r

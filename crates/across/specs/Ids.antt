-- What frontiers stand on, by ids: "the frontier read back stands on the same ids".
-- Assumes nothing.
use Rattle.std.specs.Prelude.{ℕ, ◌≡◌, List, ◌↔◌}
use Rattle.store.specs.Table.{Table, id_at, key_at}
use Rattle.logs.specs.Held.{chain_of}
use Rattle.frontiers.specs.Entries.{Entry, entry_of}
use Rattle.frontiers.specs.Trees.{StandsAt}

-- Some message of the set `S` of rows of `t` has the id `x`.
pub record HasId (t : Table) (S : ℕ → Type 0) (x : List ℕ) : Type 0 where
  pub row : ℕ
  pub member : S row
  pub id : id_at t row ≡ x

-- The entry of the author with the key `k` stands on a message with the id `x`.
pub record StandsOnId (t : Table) (es : List Entry) (k x : List ℕ) : Type 0 where
  pub author : ℕ
  pub key : key_at t author ≡ k
  pub on : HasId t (StandsAt (chain_of t) (entry_of es author)) x

-- Entries over one table and over another stand on the same ids, author by author.
abbrev pub SameIds : Table → List Entry → Table → List Entry → Type 0
SameIds t f u g = (k x : List ℕ) → StandsOnId t f k x ↔ StandsOnId u g k x

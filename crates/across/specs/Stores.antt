-- Document 02, §3: two stores in which "an id in both names the same author key, index and previous id".
-- Assumes nothing.
use Rattle.std.specs.Prelude.{ℕ, ◌≡◌}
use Rattle.basics.specs.Bytes.{Bytes}
use Rattle.store.specs.Table.{Table, WellFormed, author_of, prev_of, index_of, id_at, key_at}
use Rattle.store.specs.Paper.{Message}
use Rattle.standing.specs.Standing.{id_of}

-- "an id in both names the same author key, index and previous id": none for a first message.
pub record AgreeOnIds (t u : Table) : Type 0 where
  pub key : (x y : ℕ) → Message t x → Message u y → id_at t x ≡ id_at u y → key_at t (author_of t x) ≡ key_at u (author_of u y)
  pub index : (x y : ℕ) → Message t x → Message u y → id_at t x ≡ id_at u y → index_of t x ≡ index_of u y
  pub previous : (x y : ℕ) → Message t x → Message u y → id_at t x ≡ id_at u y → id_of t (prev_of t x) ≡ id_of u (prev_of u y)

-- Two well_formed stores that agree on ids. The ids are bytes, as a lent part's are.
pub record TwoStores (t u : Table) : Type 0 where
  pub first : WellFormed t
  pub second : WellFormed u
  pub first_ids : Bytes t.ids
  pub second_ids : Bytes u.ids
  pub agree : AgreeOnIds t u

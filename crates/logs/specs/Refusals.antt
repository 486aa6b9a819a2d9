-- Why a call gives nothing: document 01's numbers, each with what holds where it is given. The lines stand in the document's order,
-- and each says that no earlier line held: "Calls on states: 1, 17 for the first then the second, 18 or 19. The prefix of two rows:
-- 1, then 19 (second row of another author than the first's included); 0 stands for none there and is allowed."
-- Assumes nothing.
use Rattle.std.specs.Prelude.{ℕ, ◌≤◌, ◌≡◌, ◌≢◌}
use Rattle.store.specs.Table.{Table, WellFormed}
use Rattle.chains.specs.Chain.{Store, RowOf}
use Rattle.logs.specs.declared.LogState.{LogState}
use Rattle.logs.specs.Held.{chain_of}
use Rattle.logs.specs.States.{ValidLog}

-- A valid state over a table.
abbrev pub ValidIn : Table → LogState → Type 0
ValidIn t k = ValidLog t.ids t.rows t.counts k

-- Two places of one log: none or held rows, the second of the first's author.
pub record OneLog (s : Store) (a b : ℕ) : Type 0 where
  pub first : a ≤ s.count
  pub second : b ≤ s.count
  pub own : 1 ≤ a → 1 ≤ b → s.author b ≡ s.author a

-- The prefix of two rows is refused with number `n`.
pub data PrefixRefused (t : Table) (a b n : ℕ) : Type 0 where
  not_well_formed : n ≡ 1 → (WellFormed t → ⊥) → PrefixRefused t a b n
  not_one_log : n ≡ 19 → WellFormed t → (OneLog (chain_of t) a b → ⊥) → PrefixRefused t a b n

-- An append is refused with number `n`: "message row 0, above the row count, or another author's" is no row of the state's author.
pub data AppendRefused (t : Table) (k : LogState) (x n : ℕ) : Type 0 where
  not_well_formed : n ≡ 1 → (WellFormed t → ⊥) → AppendRefused t k x n
  not_valid : n ≡ 17 → WellFormed t → (ValidIn t k → ⊥) → AppendRefused t k x n
  not_a_row : n ≡ 19 → WellFormed t → ValidIn t k → (RowOf (chain_of t) k.author x → ⊥) → AppendRefused t k x n

-- A call on two states is refused with number `n`.
pub data PairRefused (t : Table) (k l : LogState) (n : ℕ) : Type 0 where
  not_well_formed : n ≡ 1 → (WellFormed t → ⊥) → PairRefused t k l n
  first_not_valid : n ≡ 17 → WellFormed t → (ValidIn t k → ⊥) → PairRefused t k l n
  second_not_valid : n ≡ 17 → WellFormed t → ValidIn t k → (ValidIn t l → ⊥) → PairRefused t k l n
  two_authors : n ≡ 18 → WellFormed t → ValidIn t k → ValidIn t l → k.author ≢ l.author → PairRefused t k l n

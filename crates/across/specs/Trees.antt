-- Demand 3, "read over ids across such stores": sets of frontiers over two stores that stand on the same messages, by ids.
-- Assumes nothing.
use Rattle.std.specs.Prelude.{ℕ, List, ◌↔◌}
use Rattle.std.proofs.Math.Option.{IsSome}
use Rattle.store.specs.Table.{Table}
use Rattle.frontiers.specs.Numbers.{entries_of}
use Rattle.standing.specs.Standing.{standing}
use Rattle.across.specs.Ids.{StandsOnId}

-- Some frontier of the set says something of the author with the key `k`.
pub record SaidOf (t : Table) (L : List ℕ → Type 0) (k : List ℕ) : Type 0 where
  pub frontier : List ℕ
  pub one : L frontier
  pub some : IsSome (standing t (entries_of frontier) k)

-- Some frontier of the set stands on a message with the id `x` of the author with the key `k`.
pub record AllStandOnId (t : Table) (L : List ℕ → Type 0) (k x : List ℕ) : Type 0 where
  pub frontier : List ℕ
  pub one : L frontier
  pub on : StandsOnId t (entries_of frontier) k x

-- A set of frontiers over one table and a set over another have entries of the same authors, which stand on the same messages, by ids.
pub record SameMessagesById (t : Table) (L : List ℕ → Type 0) (u : Table) (M : List ℕ → Type 0) : Type 0 where
  pub said : (k : List ℕ) → SaidOf t L k ↔ SaidOf u M k
  pub on : (k x : List ℕ) → AllStandOnId t L k x ↔ AllStandOnId u M k x

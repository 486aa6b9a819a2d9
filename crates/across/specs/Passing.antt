-- Demand 3, "read over ids across such stores": frontiers that are merged in several stores and sent from one into another.
-- Assumes nothing.
use Rattle.std.specs.Prelude.{ℕ, ◌≡◌, List, ◌⊎◌, ◌↔◌, take, Ok}
use Rattle.std.proofs.Math.Option.{IsSome}
use Rattle.store.specs.Table.{Table}
use Rattle.frontiers.specs.Entries.{flat}
use Rattle.frontiers.specs.Numbers.{entries_of}
use Rattle.frontiers.specs.Calls.{FrontierOf, MergesInto}
use Rattle.standing.specs.Standing.{standing}
use Rattle.standing.specs.Sending.{Sent, IsSent}
use Rattle.standing.specs.Reading.{Known, read_entries}
use Rattle.across.specs.Stores.{TwoStores}
use Rattle.across.specs.Ids.{StandsOnId}
use Rattle.across.specs.Sending.{HoldsNamed}

-- Frontiers that are given over their stores, merged two at a time over one store, and sent into another, in any order and grouping,
-- with repeats.
pub data Passing : Type 0 where
  given : Table → List ℕ → Passing
  merging : Passing → Passing → Passing
  sending : Passing → Table → Passing

-- It was done in the stores `In`, and came over the store `t` to the frontier `f`. What is sent is read in a store that holds what it names.
pub data Passed (In : Table → Type 0) : Passing → Table → List ℕ → Type 0 where
  lent : (t : Table) (f : List ℕ) → In t → FrontierOf t f → Passed In (given t f) t f
  merged : {p q : Passing} (t : Table) (f g out out' : List ℕ) (n : ℕ) → Passed In p t f → Passed In q t g → MergesInto t f g out out' (Ok n)
      → Passed In (merging p q) t (take n out')
  sent : {p : Passing} (t u : Table) (f : List ℕ) (ws : List Sent) → Passed In p t f → In u → IsSent t (entries_of f) ws → Known u ws
      → Passed In (sending p u) u (flat (read_entries u ws))

-- The frontiers that were given, each over its store.
abbrev pub Given : Passing → Table → List ℕ → Type 0
Given (given t f) u g = (u ≡ t) × (g ≡ f)
Given (merging p q) u g = Given p u g ⊎ Given q u g
Given (sending p v) u g = Given p u g

-- Some frontier that was given says something of the author with the key `k`,
pub record GivenOf (p : Passing) (k : List ℕ) : Type 0 where
  pub table : Table
  pub frontier : List ℕ
  pub one : Given p table frontier
  pub some : IsSome (standing table (entries_of frontier) k)

-- and some stands on a message with the id `x` of that author.
pub record GivenOn (p : Passing) (k x : List ℕ) : Type 0 where
  pub table : Table
  pub frontier : List ℕ
  pub one : Given p table frontier
  pub on : StandsOnId table (entries_of frontier) k x

-- Two ways were given the same messages, by ids.
pub record SameGiven (p q : Passing) : Type 0 where
  pub said : (k : List ℕ) → GivenOf p k ↔ GivenOf q k
  pub on : (k x : List ℕ) → GivenOn p k x ↔ GivenOn q k x

-- The stores agree on ids, two by two.
abbrev pub AllAgree : (Table → Type 0) → Type 0
AllAgree In = (t u : Table) → In t → In u → TwoStores t u

-- The store `v` holds what each frontier that was given names.
abbrev pub HoldsGiven : Table → Passing → Type 0
HoldsGiven v p = (t : Table) (f : List ℕ) → Given p t f → HoldsNamed t f v

-- Each merge is of what came over one store, to which the whole comes, and the frontiers given are valid over stores of `In`.
abbrev pub Placed : (Table → Type 0) → Passing → Table → Type 0
Placed In (given t f) u = (u ≡ t) × (In t × FrontierOf t f)
Placed In (merging p q) u = Placed In p u × Placed In q u
Placed In (sending p v) u = (u ≡ v) × (In v × ((t : Table) × Placed In p t))

-- Calls of the merge and of the append after one another, over one table: what they are given, and what they end in.
-- Assumes nothing.
use Rattle.answers.specs.declared.Refusal.{Refusal}
use Rattle.std.specs.Prelude.{ℕ, ◌*◌, ◌≤◌, ◌≡◌, ◌⊎◌, ◌↔◌, List, ◌++◌, length, take, Result, Ok, Err}
use Rattle.std.proofs.Math.Option.{Option, none, some, IsSome}
use Rattle.answers.specs.Number.{number_of}
use Rattle.store.specs.Table.{Table}
use Rattle.chains.specs.Chain.{Store, State, StandsOn, StateOf}
use Rattle.logs.specs.Held.{chain_of}
use Rattle.frontiers.specs.Entries.{entry_of}
use Rattle.frontiers.specs.Numbers.{entry_width, entries_of}
use Rattle.frontiers.specs.Calls.{FrontierOf, MergesInto}
use Rattle.frontiers.specs.Appending.{row_frontier, Held, AppendsEntry}

-- A tree of calls: frontiers, merged two at a time and appended to, in any order and grouping, with repeats.
pub data FrontierCalls : Type 0 where
  given : List ℕ → FrontierCalls
  merging : FrontierCalls → FrontierCalls → FrontierCalls
  appending : FrontierCalls → ℕ → FrontierCalls

-- The calls were made over the table `t`, and the last one answered `r` and left the list `l`. A call is made on the first numbers
-- of what those before it left, as many as they answered. A frontier that is given stands in a list with some room behind it.
pub data Ran (t : Table) : FrontierCalls → Result ℕ Refusal → List ℕ → Type 0 where
  lent : (f room : List ℕ) → Ran t (given f) (Ok (length f)) (f ++ room)
  merged : {c d : FrontierCalls} (n m : ℕ) (k l out out' : List ℕ) (r : Result ℕ Refusal) → Ran t c (Ok n) k → Ran t d (Ok m) l
      → MergesInto t (take n k) (take m l) out out' r → Ran t (merging c d) r out'
  appended : {c : FrontierCalls} (n x : ℕ) (l l' : List ℕ) (r : Result ℕ Refusal) → Ran t c (Ok n) l → AppendsEntry t l n x l' r → Ran t (appending c x) r l'

-- The frontiers that are given are valid, and the appended rows are rows of the store.
abbrev pub Proper : Table → FrontierCalls → Type 0
Proper t (given f) = FrontierOf t f
Proper t (merging c d) = Proper t c × Proper t d
Proper t (appending c x) = Proper t c × Held t x

-- The frontiers that are merged: those given, and of each appended row that of the row alone.
abbrev pub Leaf : Table → FrontierCalls → List ℕ → Type 0
Leaf t (given g) f = f ≡ g
Leaf t (merging c d) f = Leaf t c f ⊎ Leaf t d f
Leaf t (appending c x) f = Leaf t c f ⊎ (f ≡ row_frontier t.rows x)

-- What an entry stands on; an absence stands on nothing.
abbrev pub StandsAt : Store → Option State → ℕ → Type 0
StandsAt s none x = ⊥
StandsAt s (some l) x = StandsOn s l x

-- The messages that the author's entries in a set of frontiers stand on.
pub record AllStandOn (t : Table) (L : List ℕ → Type 0) (a x : ℕ) : Type 0 where
  pub frontier : List ℕ
  pub one : L frontier
  pub on : StandsAt (chain_of t) (entry_of (entries_of frontier) a) x

-- Some frontier of the set has an entry of the author.
pub record Present (L : List ℕ → Type 0) (a : ℕ) : Type 0 where
  pub frontier : List ℕ
  pub one : L frontier
  pub some : IsSome (entry_of (entries_of frontier) a)

-- Two sets of frontiers have entries of the same authors, which stand on the same messages.
pub record SameMessages (t : Table) (L M : List ℕ → Type 0) : Type 0 where
  pub present : (a : ℕ) → Present L a ↔ Present M a
  pub on : (a x : ℕ) → AllStandOn t L a x ↔ AllStandOn t M a x

-- An entry is there exactly when `P` holds, and is then the state of the set `S`.
abbrev pub Stated : Store → (ℕ → Type 0) → Type 0 → Option State → Type 0
Stated s S P none = P → ⊥
Stated s S P (some l) = P × StateOf s S l

-- The frontier of a set of frontiers: an author has an entry exactly when some frontier of the set has one, and it is the state of
-- what all those entries stand on.
pub record FrontierOfAll (t : Table) (L : List ℕ → Type 0) (f : List ℕ) : Type 0 where
  pub valid : FrontierOf t f
  pub entries : (a : ℕ) → Stated (chain_of t) (AllStandOn t L a) (Present L a) (entry_of (entries_of f) a)

-- The calls end in the frontier of all that is merged, or the last one is refused for want of room.
abbrev pub Ends : Table → FrontierCalls → Result ℕ Refusal → List ℕ → Type 0
Ends t c (Ok n) l = (n ≤ length l) × FrontierOfAll t (Leaf t c) (take n l)
Ends t c (Err why) l = number_of why ≡ 21

-- Some run of the calls is done, and leaves a list with room for five numbers an author.
pub record Runs (t : Table) (c : FrontierCalls) : Type 0 where
  pub count : ℕ
  pub list : List ℕ
  pub room : t.counts.authors * entry_width ≤ length list
  pub ran : Ran t c (Ok count) list

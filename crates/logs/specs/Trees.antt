-- Calls of merge and append after one another, over one table: what they are given, and what they end in.
-- Assumes nothing.
use Rattle.answers.specs.declared.Refusal.{Refusal}
use Rattle.std.specs.Prelude.{ℕ, ◌≡◌, ◌⊎◌, Result, Ok}
use Rattle.store.specs.Table.{Table}
use Rattle.chains.specs.Chain.{RowOf, History, StandsOn, StateOf}
use Rattle.logs.specs.declared.LogState.{LogState}
use Rattle.logs.specs.Held.{chain_of}
use Rattle.logs.specs.States.{state_of}
use Rattle.logs.specs.Refusals.{ValidIn}
use Rattle.logs.specs.Calls.{Merges, Appends}

-- A tree of calls: states, merged two at a time and appended to, in any order and grouping, with repeats.
pub data Calls : Type 0 where
  given : LogState → Calls
  merging : Calls → Calls → Calls
  appending : Calls → ℕ → Calls

-- A run of the calls over the table `t`, answer by answer: a state that is given; what `merge` may answer of the states that two runs
-- ended in; what `append` may answer of the state that one ended in. No call is made on a refusal.
pub data Ran (t : Table) : Calls → Result LogState Refusal → Type 0 where
  given : {k : LogState} → Ran t (Calls.given k) (Ok k)
  merging : {c d : Calls} {k l : LogState} {r : Result LogState Refusal} → Ran t c (Ok k) → Ran t d (Ok l) → Merges t k l r → Ran t (Calls.merging c d) r
  appending : {c : Calls} {k : LogState} {x : ℕ} {r : Result LogState Refusal} → Ran t c (Ok k) → Appends t k x r → Ran t (Calls.appending c x) r

-- The states are valid states of the author `A`, and the rows are his.
abbrev pub Proper : Table → ℕ → Calls → Type 0
Proper t A (given k) = ValidIn t k × (k.author ≡ A)
Proper t A (merging c d) = Proper t A c × Proper t A d
Proper t A (appending c x) = Proper t A c × RowOf (chain_of t) A x

-- The messages that the states stand on, and those of the appended rows with all before them.
abbrev pub Messages : Table → Calls → ℕ → Type 0
Messages t (given k) y = StandsOn (chain_of t) (state_of k) y
Messages t (merging c d) y = Messages t c y ⊎ Messages t d y
Messages t (appending c x) y = Messages t c y ⊎ History (chain_of t) x y

-- The calls end in a valid state of the author: the state of the set of those messages.
pub record Ends (t : Table) (A : ℕ) (c : Calls) (r : Result LogState Refusal) : Type 0 where
  pub end : LogState
  pub done : r ≡ Ok end
  pub author : end.author ≡ A
  pub valid : ValidIn t end
  pub state : StateOf (chain_of t) (Messages t c) (state_of end)

-- The merge of a set of frontiers, in any order and grouping.
-- Assumes nothing.
use Rattle.std.specs.Prelude.{ℕ, ◌≡◌, ◌↔◌, List, take, Ok}
use Rattle.store.specs.Table.{Table}
use Rattle.frontiers.specs.Trees.{FrontierCalls, given, merging, appending, Ran, Leaf, FrontierOfAll}

-- Merges alone: nothing is appended.
abbrev pub OnlyMerges : FrontierCalls → Type 0
OnlyMerges (given f) = Unit {0}
OnlyMerges (merging c d) = OnlyMerges c × OnlyMerges d
OnlyMerges (appending c x) = ⊥

-- A tree of merges of exactly the frontiers of the set `C`, each once or more.
pub record MergesAll (t : Table) (C : List ℕ → Type 0) (c : FrontierCalls) : Type 0 where
  pub only : OnlyMerges c
  pub exactly : (f : List ℕ) → Leaf t c f ↔ C f

-- Some calls of the merge, of exactly the frontiers of the set, end in `r`.
pub record MergedSomehow (t : Table) (C : List ℕ → Type 0) (r : List ℕ) : Type 0 where
  pub calls : FrontierCalls
  pub all : MergesAll t C calls
  pub count : ℕ
  pub list : List ℕ
  pub ran : Ran t calls (Ok count) list
  pub ends : take count list ≡ r

-- `r` is the merge of the frontiers of the set `C`.
pub record IsMergeOf (t : Table) (C : List ℕ → Type 0) (r : List ℕ) : Type 0 where
  -- It is valid, an author has an entry in it exactly when some frontier of the set has one, and that is the state of what all those
  -- entries stand on;
  pub frontier : FrontierOfAll t C r
  -- calls of the merge end in it;
  pub somehow : MergedSomehow t C r
  -- and in whatever order and grouping the set is merged, with repeats, the calls end in it.
  pub anyhow : (c : FrontierCalls) (count : ℕ) (list : List ℕ) → MergesAll t C c → Ran t c (Ok count) list → take count list ≡ r

-- What the calls on log states promise, by the answer: done with what document 01 defines, or refused with its number.
-- Assumes nothing.
use Rattle.answers.specs.declared.Refusal.{Refusal}
use Rattle.std.specs.Prelude.{ℕ, ◌≤◌, ◌≡◌, Bool, Result, Ok, Err}
use Rattle.basics.specs.Decides.{Decides}
use Rattle.answers.specs.Answers.{checked_number, choice_number}
use Rattle.store.specs.Table.{Table, WellFormed}
use Rattle.chains.specs.Chain.{RowOf, IsPrefix, Leads, growing, IsForked, IsMerge, AtOrBelow}
use Rattle.logs.specs.declared.Phase.TheVariants.{Growing}
use Rattle.logs.specs.declared.LogState.{LogState}
use Rattle.logs.specs.declared.Nearest.{Nearest}
use Rattle.logs.specs.Held.{chain_of}
use Rattle.logs.specs.States.{state_of}
use Rattle.logs.specs.Answers.{prefixed_number, prefixed_nearest, merged_number, merged_state}
use Rattle.logs.specs.Refusals.{ValidIn, OneLog, PrefixRefused, AppendRefused, PairRefused}

-- "The prefix of two messages of one author is the last one at or before both, none included (source 002, equation 9)". Document 02:
-- "Let the prefix answer give those two children with it: none for a side that stands at the prefix itself."
pub record PrefixDone (t : Table) (a b : ℕ) (w : Nearest) : Type 0 where
  pub well_formed : WellFormed t
  pub log : OneLog (chain_of t) a b
  pub prefix : IsPrefix (chain_of t) a b w.row
  pub first : Leads (chain_of t) w.row a w.first
  pub second : Leads (chain_of t) w.row b w.second

-- What `prefix` promises of its answer.
abbrev pub Prefixes : Table → ℕ → ℕ → Result Nearest Refusal → Type 0
Prefixes t a b (Ok w) = PrefixDone t a b (prefixed_nearest (Ok w))
Prefixes t a b (Err r) = PrefixRefused t a b (prefixed_number (Err r))

-- "Append of a row is a merge with growing at that row."
pub record AppendDone (t : Table) (k : LogState) (x : ℕ) (m : LogState) : Type 0 where
  pub well_formed : WellFormed t
  pub state : ValidIn t k
  pub row : RowOf (chain_of t) k.author x
  pub author : m.author ≡ k.author
  pub merged : IsMerge (chain_of t) (state_of k) (growing x) (state_of m)

-- What `append` promises of its answer.
abbrev pub Appends : Table → LogState → ℕ → Result LogState Refusal → Type 0
Appends t k x (Ok m) = AppendDone t k x (merged_state (Ok m))
Appends t k x (Err r) = AppendRefused t k x (merged_number (Err r))

-- Two valid states of one author over a well_formed table.
pub record TwoStates (t : Table) (k l : LogState) : Type 0 where
  pub well_formed : WellFormed t
  pub first : ValidIn t k
  pub second : ValidIn t l
  pub one : k.author ≡ l.author

-- What the tests of a call on two states answer.
abbrev pub ChecksPair : Table → LogState → LogState → Result (Unit {0}) Refusal → Type 0
ChecksPair t k l (Ok tt) = TwoStates t k l
ChecksPair t k l (Err why) = PairRefused t k l (checked_number (Err why))

-- "Merge is the state of the union of what both stand on."
pub record MergeDone (t : Table) (k l m : LogState) : Type 0 where
  pub accepted : TwoStates t k l
  pub author : m.author ≡ k.author
  pub merged : IsMerge (chain_of t) (state_of k) (state_of l) (state_of m)

-- The index of a state's last row.
abbrev pub last_index : Table → LogState → ℕ
last_index t k = (chain_of t).index k.last

-- "A merge of two forked states has a last index no higher than either; of two growing states that stay growing, no lower than either
-- (none counts 0)": of `k` and `l`, and what they are merged to.
pub record IndexKept (t : Table) (k l m : LogState) : Type 0 where
  pub both_forked : IsForked (state_of k) → IsForked (state_of l) → (last_index t m ≤ last_index t k) × (last_index t m ≤ last_index t l)
  pub stay_growing : k.phase ≡ Growing → l.phase ≡ Growing → m.phase ≡ Growing → (last_index t k ≤ last_index t m) × (last_index t l ≤ last_index t m)
  pub none_counts : (chain_of t).index 0 ≡ 0

-- What `merge` promises of its answer.
abbrev pub Merges : Table → LogState → LogState → Result LogState Refusal → Type 0
Merges t k l (Ok m) = MergeDone t k l (merged_state (Ok m))
Merges t k l (Err r) = PairRefused t k l (merged_number (Err r))

-- "L is at or below K when": yes exactly then.
pub record OrderDone (t : Table) (k l : LogState) (b : Bool) : Type 0 where
  pub accepted : TwoStates t k l
  pub order : Decides (AtOrBelow (chain_of t) (state_of k) (state_of l)) b

-- What `at_or_below` promises of its answer.
abbrev pub ComparesStates : Table → LogState → LogState → Result Bool Refusal → Type 0
ComparesStates t k l (Ok b) = OrderDone t k l b
ComparesStates t k l (Err r) = PairRefused t k l (choice_number (Err r))

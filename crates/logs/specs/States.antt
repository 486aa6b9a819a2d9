-- A log state of the calls as document 01's state, and what it takes to be valid.
-- Assumes nothing.
use Rattle.std.specs.Prelude.{ℕ, ◌≤◌, ◌≡◌, List}
use Rattle.store.specs.declared.lent.Counts.{Counts}
use Rattle.chains.specs.Chain.{Store, RowOf, Node, State, growing, forked, ValidState, IsMerge, add, merge_of}
use Rattle.logs.specs.declared.Phase.{Phase}
use Rattle.logs.specs.declared.Phase.TheVariants.{Growing, Forked}
use Rattle.logs.specs.declared.LogState.{LogState}
use Rattle.logs.specs.Held.{chain, Sound}

-- "the phase is growing, or forked with its two evidence rows": the state with that phase at `l`.
abbrev pub standing : ℕ → Phase → State
standing l Growing = growing l
standing l (Forked low high) = forked l low high

-- "A state has an author, a last row or none, and a phase": the last row and the phase.
abbrev pub state_of : LogState → State
state_of k = standing k.last k.phase

-- "Valid (CL1 to FL7): the author exists; last is none or the author's; in a forked state" the evidence is as it must be.
pub record ValidLog (ids rows : List ℕ) (counts : Counts) (k : LogState) : Type 0 where
  pub some : 1 ≤ k.author
  pub exists : k.author ≤ counts.authors
  pub state : ValidState (chain ids rows counts.rows) k.author (state_of k)

-- `x` is a row of the author `A` on the predecessor `l`.
pub record ChildOf (s : Store) (A l x : ℕ) : Type 0 where
  pub row : RowOf s A x
  pub prev : s.prev x ≡ l

-- A valid state over a sound store, and none or a row of its author.
pub record Addable (ids rows : List ℕ) (n : ℕ) (k : LogState) (x : ℕ) : Type 0 where
  pub sound : Sound ids rows n
  pub state : ValidState (chain ids rows n) k.author (state_of k)
  pub row : Node (chain ids rows n) k.author x

-- `r` is `k` with the row `x` and all before it.
pub record Added (ids rows : List ℕ) (n : ℕ) (k : LogState) (x : ℕ) (r : LogState) : Type 0 where
  pub author : r.author ≡ k.author
  pub state : state_of r ≡ add (chain ids rows n) (state_of k) x

-- Two valid states of one author over a sound store.
pub record Pair (ids rows : List ℕ) (n : ℕ) (k l : LogState) : Type 0 where
  pub sound : Sound ids rows n
  pub one : k.author ≡ l.author
  pub first : ValidState (chain ids rows n) k.author (state_of k)
  pub second : ValidState (chain ids rows n) l.author (state_of l)

-- `r` is their merge, the state of the union of what both stand on: the computed one, and a valid state of their author.
pub record Joined (ids rows : List ℕ) (n : ℕ) (k l r : LogState) : Type 0 where
  pub author : r.author ≡ k.author
  pub state : state_of r ≡ merge_of (chain ids rows n) (state_of k) (state_of l)
  pub merged : IsMerge (chain ids rows n) (state_of k) (state_of l) (state_of r)
  pub valid : ValidState (chain ids rows n) r.author (state_of r)

-- Two valid states of one author over some sound store of these ids and rows.
pub record Comparable (ids rows : List ℕ) (L K : State) : Type 0 where
  pub count : ℕ
  pub author : ℕ
  pub sound : Sound ids rows count
  pub first : ValidState (chain ids rows count) author L
  pub second : ValidState (chain ids rows count) author K

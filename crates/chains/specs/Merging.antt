-- What demand 3 speaks of: merges in any order and grouping, sets that are decided, two messages on one predecessor, later rows.
-- Assumes nothing.
use Rattle.std.specs.Prelude.{ℕ, ◌≤◌, ◌≡◌, ◌⊎◌, ◌↔◌}
use Rattle.chains.specs.Chain.{Store, State, IsForked, ValidState, StandsOn, Shared, StateOf, Union, IsMerge, AtOrBelow}

-- A way to merge a non-empty list of states two at a time, in any order and grouping, with repeats.
pub data Tree : Type 0 where
  leaf : State → Tree
  join : Tree → Tree → Tree

-- What it ends in with the merge `m`.
unfoldable pub merged : (State → State → State) → Tree → State
merged m (leaf K) = K
merged m (join t u) = m (merged m t) (merged m u)

-- K is one of the merged states.
abbrev pub Leaf : Tree → State → Type 0
Leaf (leaf L) K = K ≡ L
Leaf (join t u) K = Leaf t K ⊎ Leaf u K

-- Each merged state is a valid state of the author.
abbrev pub ValidLeaves : Store → ℕ → Tree → Type 0
ValidLeaves s A t = (L : State) → Leaf t L → ValidState s A L

-- The messages that the merged states stand on.
pub record LeavesStandOn (s : Store) (t : Tree) (x : ℕ) : Type 0 where
  pub state : State
  pub leaf_of : Leaf t state
  pub on : StandsOn s state x

-- A function whose answers on valid states of the author are merges.
abbrev pub Merges : Store → ℕ → (State → State → State) → Type 0
Merges s A m = (L K : State) → ValidState s A L → ValidState s A K → IsMerge s L K (m L K)

-- A set of which each number is in or out.
abbrev pub Decided : (ℕ → Type 0) → Type 0
Decided S = (x : ℕ) → S x ⊎ (S x → ⊥)

-- Some two different messages of the set stand on one predecessor, or are both first.
pub record HasFork (s : Store) (S : ℕ → Type 0) : Type 0 where
  pub one : ℕ
  pub other : ℕ
  pub shared : Shared s S one other

-- DEMAND 3 of a merge function `m`, over one store and one author.
pub record DemandThree (s : Store) (A : ℕ) (m : State → State → State) : Type 0 where
  -- "any non-empty list of valid states of one author, merged in any order and grouping, with repeats, ends in the one state that
  -- document 01 defines from the set of messages they stand on, evidence included."
  pub ends : (t : Tree) → ValidLeaves s A t → StateOf s (LeavesStandOn s t) (merged m t)
  pub one : (t : Tree) → ValidLeaves s A t → (K : State) → StateOf s (LeavesStandOn s t) K → K ≡ merged m t
  pub agree : (t u : Tree) → ValidLeaves s A t → ((L : State) → Leaf t L ↔ Leaf u L) → merged m t ≡ merged m u
  -- "Each merge is the least state above its two inputs,"
  pub valid : (L K : State) → ValidState s A L → ValidState s A K → ValidState s A (m L K)
  pub above_first : (L K : State) → ValidState s A L → ValidState s A K → AtOrBelow s L (m L K)
  pub above_second : (L K : State) → ValidState s A L → ValidState s A K → AtOrBelow s K (m L K)
  pub least : (L K N : State) → ValidState s A L → ValidState s A K → ValidState s A N → AtOrBelow s L N → AtOrBelow s K N → AtOrBelow s (m L K) N
  -- "and forked exactly when what the two stand on has two messages of the author on one predecessor, or two first messages."
  pub forked_when : (L K : State) → ValidState s A L → ValidState s A K → IsForked (m L K) ↔ HasFork s (Union (StandsOn s L) (StandsOn s K))

-- `t` has the rows of `s` as they were, and perhaps later ones.
pub record Extends (s t : Store) : Type 0 where
  pub more : s.count ≤ t.count
  pub author : (x : ℕ) → x ≤ s.count → t.author x ≡ s.author x
  pub prev : (x : ℕ) → x ≤ s.count → t.prev x ≡ s.prev x
  pub index : (x : ℕ) → x ≤ s.count → t.index x ≡ s.index x
  pub key : (x : ℕ) → x ≤ s.count → t.key x ≡ s.key x

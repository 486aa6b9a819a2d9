-- Document 01, "Frontiers and packing lists": a frontier as its entries, what the merged one holds, and the order.
-- Assumes nothing.
use Rattle.std.specs.Prelude.{ℕ, zero, suc, ◌≤◌, ◌<◌, ◌≡◌, List, [], ◌∷◌, ◌++◌, eqb}
use Rattle.std.proofs.Math.Option.{Option, none, some}
use Rattle.basics.specs.Pick.{pick}
use Rattle.chains.specs.Chain.{Store, State, growing, forked, ValidState, IsMerge, AtOrBelow, merge_of}

-- An entry: an author and its log state.
pub record Entry : Type 0 where
  pub author : ℕ
  pub state : State

-- "a list of entries of five numbers (author, phase 0 growing or 1 forked, last, low, high; low and high are 0 when growing)".
abbrev pub numbers : ℕ → State → List ℕ
numbers a (growing l) = a ∷ 0 ∷ l ∷ 0 ∷ 0 ∷ []
numbers a (forked l lo hi) = a ∷ 1 ∷ l ∷ lo ∷ hi ∷ []

-- The numbers of all entries, one after the other.
unfoldable pub flat : List Entry → List ℕ
flat [] = []
flat (e ∷ es) = numbers e.author e.state ++ flat es

-- The state of an author's entry, or its absence.
unfoldable pub entry_of : List Entry → ℕ → Option State
entry_of [] a = none
entry_of (e ∷ es) a = pick (eqb e.author a) (some e.state) (entry_of es a)

-- "authors rise strictly": above `b`, and from entry to entry.
pub data RisingFrom : ℕ → List Entry → Type 0 where
  end : {b : ℕ} → RisingFrom b []
  next : {b : ℕ} {e : Entry} {es : List Entry} → b < e.author → RisingFrom e.author es → RisingFrom b (e ∷ es)

-- Authors are numbered from 1, so a frontier's rise from 0.
abbrev pub Rising : List Entry → Type 0
Rising es = RisingFrom 0 es

-- An entry over a store with `n` authors: "each state is valid", and "the author exists". An absence asks nothing.
abbrev pub ValidAt : Store → ℕ → ℕ → Option State → Type 0
ValidAt s n a none = Unit {0}
ValidAt s n a (some l) = (1 ≤ a) × ((a ≤ n) × ValidState s a l)

-- Entries of a valid frontier over a store with `n` authors.
pub record ValidEntries (s : Store) (n : ℕ) (es : List Entry) : Type 0 where
  pub rising : Rising es
  pub each : (a : ℕ) → ValidAt s n a (entry_of es a)

-- "an author in one keeps its entry; in both, the merge".
abbrev pub Joins : Store → Option State → Option State → Option State → Type 0
Joins s none none r = r ≡ none
Joins s (some l) none r = r ≡ some l
Joins s none (some k) r = r ≡ some k
Joins s (some l) (some k) none = ⊥
Joins s (some l) (some k) (some m) = IsMerge s l k m

-- "The merged frontier holds each author of either once, rising; an author in one keeps its entry; in both, the merge."
pub record IsMerged (s : Store) (f g r : List Entry) : Type 0 where
  pub rising : Rising r
  pub joins : (a : ℕ) → Joins s (entry_of f a) (entry_of g a) (entry_of r a)

-- "G has all F's authors, each at or below": one author.
abbrev pub BelowAt : Store → Option State → Option State → Type 0
BelowAt s none k = Unit {0}
BelowAt s (some l) none = ⊥
BelowAt s (some l) (some k) = AtOrBelow s l k

-- "F is at or below G when G has all F's authors, each at or below."
abbrev pub FrontierBelow : Store → List Entry → List Entry → Type 0
FrontierBelow s f g = (a : ℕ) → BelowAt s (entry_of f a) (entry_of g a)

-- COMPUTED

-- The join of two entries or absences.
abbrev pub joined : Store → Option State → Option State → Option State
joined s none k = k
joined s (some l) none = some l
joined s (some l) (some k) = some (merge_of s l k)

-- The entry of an author as a list: one, or none.
abbrev pub slot : ℕ → Option State → List Entry
slot a none = []
slot a (some l) = record { author = a; state = l } ∷ []

-- The entries that `o` gives the `k` authors after `b`, rising.
unfoldable pub collect : (ℕ → Option State) → ℕ → ℕ → List Entry
collect o zero b = []
collect o (suc k) b = slot (suc b) (o (suc b)) ++ collect o k (suc b)

-- The merged frontier, of authors up to `n`.
unfoldable pub merged_entries : Store → ℕ → List Entry → List Entry → List Entry
merged_entries s n f g = collect (λ a. joined s (entry_of f a) (entry_of g a)) n 0

-- One author's chain: what document 01 ("Log states") says, sentence by sentence, over row numbers.
-- A store is seen through five functions of a row number, so that nothing here knows of bytes. Rows count from 1; 0 is none.
-- Assumes nothing.
use Rattle.std.specs.Prelude.{ℕ, zero, suc, ◌-◌, ◌≤◌, ◌<◌, ◌+◌, ◌≡◌, ◌⊎◌, ◌≢◌, Bool, false, not, eqb, ltb, leb}
use Rattle.basics.specs.Pick.{pick, both, either}

-- THE STORE

-- The rows of a store: author, previous row, index, and the id read as a number, first byte highest.
pub record Store : Type 0 where
  pub count : ℕ
  pub author : ℕ → ℕ
  pub prev : ℕ → ℕ
  pub index : ℕ → ℕ
  pub key : ℕ → ℕ

-- `x` is a row of the author `A`.
pub record RowOf (s : Store) (A x : ℕ) : Type 0 where
  pub some : 1 ≤ x
  pub held : x ≤ s.count
  pub by : s.author x ≡ A

-- None, or a row of `A`.
abbrev pub Node : Store → ℕ → ℕ → Type 0
Node s A x = (x ≡ 0) ⊎ RowOf s A x

-- "a row has no previous row and index 1, or an earlier row of the same author whose index is one less"; "ids are distinct".
-- None has no previous row and counts 0.
pub record Valid (s : Store) : Type 0 where
  pub none_prev : s.prev 0 ≡ 0
  pub none_index : s.index 0 ≡ 0
  pub older : (A x : ℕ) → RowOf s A x → s.prev x < x
  pub own : (A x : ℕ) → RowOf s A x → Node s A (s.prev x)
  pub counted : (A x : ℕ) → RowOf s A x → s.index x ≡ suc (s.index (s.prev x))
  pub distinct : (A B x y : ℕ) → RowOf s A x → RowOf s B y → s.key x ≡ s.key y → x ≡ y

-- THE ORDER IN THE LOG

-- `n` steps along the previous links.
unfoldable pub up : Store → ℕ → ℕ → ℕ
up s zero x = x
up s (suc n) x = s.prev (up s n x)

-- "A message is at or before another in the log when previous links lead from the second to the first; none is before all."
pub record AtOrBefore (s : Store) (a b : ℕ) : Type 0 where
  pub steps : ℕ
  pub reach : up s steps b ≡ a

-- At or before, and not at.
pub record Before (s : Store) (a b : ℕ) : Type 0 where
  pub back : AtOrBefore s a b
  pub apart : a ≢ b

-- The one at or before `x` that has index `k`.
unfoldable pub at : Store → ℕ → ℕ → ℕ
at s x k = up s (s.index x - k) x

-- "the child of K's last toward L's last": of `l` toward `x`.
abbrev pub toward : Store → ℕ → ℕ → ℕ
toward s l x = at s x (suc (s.index l))

-- "The prefix of two messages of one author is the last one at or before both, none included (source 002, equation 9)".
pub record IsPrefix (s : Store) (a b p : ℕ) : Type 0 where
  pub left : AtOrBefore s p a
  pub right : AtOrBefore s p b
  pub latest : (q : ℕ) → AtOrBefore s q a → AtOrBefore s q b → AtOrBefore s q p

-- "which way each side goes" (document 02, request 6): the child of the prefix `p` that leads to the side `x`, a row on it at or before
-- that side; "none for a side that stands at the prefix itself".
pub data Leads (s : Store) (p x c : ℕ) : Type 0 where
  at_prefix : x ≡ p → c ≡ 0 → Leads s p x c
  by_child : 1 ≤ c → s.prev c ≡ p → AtOrBefore s c x → Leads s p x c

-- "climb from the deeper until both stand on one place, and that place is what the climb yields": at most `n` steps of it.
unfoldable pub climb : Store → ℕ → ℕ → ℕ → ℕ
climb s zero a b = a
climb s (suc n) a b =
    let second-deeper = ltb (s.index a) (s.index b) in
    pick (eqb a b) a (climb s n (pick second-deeper a (s.prev a)) (pick second-deeper (s.prev b) b))

-- The climb from both, with steps enough.
unfoldable pub prefix_of : Store → ℕ → ℕ → ℕ
prefix_of s a b = climb s (s.index a + s.index b) a b

-- The child of the prefix `p` that leads to the side `x`, computed.
abbrev pub child_toward : Store → ℕ → ℕ → ℕ
child_toward s p x = pick (eqb p x) 0 (toward s p x)

-- STATES

-- "a last row or none, and a phase: the phase is growing, or forked with its two evidence rows": last, low, high.
pub data State : Type 0 where
  growing : ℕ → State
  forked : ℕ → ℕ → ℕ → State

-- The last row, or none.
abbrev pub last_of : State → ℕ
last_of (growing l) = l
last_of (forked l lo hi) = l

-- The phase is forked.
abbrev pub IsForked : State → Type 0
IsForked (growing l) = ⊥
IsForked (forked l lo hi) = Unit {0}

-- "both evidence rows are the author's, differ, have last as previous row, and stand with the lower id first."
-- They differ since their ids do.
pub record Evidence (s : Store) (A l lo hi : ℕ) : Type 0 where
  pub low : RowOf s A lo
  pub high : RowOf s A hi
  pub low_prev : s.prev lo ≡ l
  pub high_prev : s.prev hi ≡ l
  pub sorted : s.key lo < s.key hi

-- "Valid (CL1 to FL7): .. last is none or the author's; in a forked state" the evidence is as above. That the author exists is
-- said where authors are counted.
pub data ValidState (s : Store) (A : ℕ) : State → Type 0 where
  growing_valid : {l : ℕ} → Node s A l → ValidState s A (growing l)
  forked_valid : {l lo hi : ℕ} → Node s A l → Evidence s A l lo hi → ValidState s A (forked l lo hi)

-- THE STATE OF A SET

-- The log history of `l`: the rows at or before it.
pub record History (s : Store) (l x : ℕ) : Type 0 where
  pub some : 1 ≤ x
  pub back : AtOrBefore s x l

-- "A state stands on: the log history of last and the evidence rows."
abbrev pub StandsOn : Store → State → ℕ → Type 0
StandsOn s (growing l) x = History s l x
StandsOn s (forked l lo hi) x = History s l x ⊎ ((x ≡ lo) ⊎ (x ≡ hi))

-- "any set of one author's messages closed under previous links".
pub record Closed (s : Store) (A : ℕ) (S : ℕ → Type 0) : Type 0 where
  pub rows : (x : ℕ) → S x → RowOf s A x
  pub back : (x : ℕ) → S x → (s.prev x ≡ 0) ⊎ S (s.prev x)

-- Two different messages of the set on one predecessor; none is a predecessor too.
pub record Shared (s : Store) (S : ℕ → Type 0) (x y : ℕ) : Type 0 where
  pub first : S x
  pub second : S y
  pub differ : x ≢ y
  pub one : s.prev x ≡ s.prev y

-- "growing at the deepest message if no two share a predecessor"; "The empty set gives growing at none."
pub record GrowingAt (s : Store) (S : ℕ → Type 0) (l : ℕ) : Type 0 where
  pub last : (l ≡ 0) ⊎ S l
  pub deepest : (x : ℕ) → S x → s.index x ≤ s.index l
  pub single : (x y : ℕ) → Shared s S x y → ⊥

-- "else forked at the shallowest shared predecessor, with the two lowest ids among its children in the set."
pub record ForkedAt (s : Store) (S : ℕ → Type 0) (l lo hi : ℕ) : Type 0 where
  pub low : S lo
  pub high : S hi
  pub low_prev : s.prev lo ≡ l
  pub high_prev : s.prev hi ≡ l
  pub sorted : s.key lo < s.key hi  -- the lower one first
  pub lowest : (c : ℕ) → S c → s.prev c ≡ l → (c ≡ lo) ⊎ (s.key hi ≤ s.key c)
  pub shallowest : (x y : ℕ) → Shared s S x y → s.index l ≤ s.index (s.prev x)

-- K is the state of the set.
abbrev pub StateOf : Store → (ℕ → Type 0) → State → Type 0
StateOf s S (growing l) = GrowingAt s S l
StateOf s S (forked l lo hi) = ForkedAt s S l lo hi

-- In one of the two sets, or in both.
abbrev pub Union : (ℕ → Type 0) → (ℕ → Type 0) → ℕ → Type 0
Union S R x = S x ⊎ R x

-- "Merge is the state of the union of what both stand on."
abbrev pub IsMerge : Store → State → State → State → Type 0
IsMerge s L K M = StateOf s (Union (StandsOn s L) (StandsOn s K)) M

-- THE ORDER OF STATES

-- "Admissible: it is K's lower evidence, or its id is not below that of K's higher evidence".
abbrev pub Admissible : Store → ℕ → ℕ → ℕ → Type 0
Admissible s lo hi c = (c ≡ lo) ⊎ (s.key hi ≤ s.key c)

-- "K's last lies strictly before L's, and the child of K's last toward L's last is admissible": K is forked at `k`, L's last is `l`.
pub record Beyond (s : Store) (k lo hi l : ℕ) : Type 0 where
  pub strictly : Before s k l
  pub child : Admissible s lo hi (toward s k l)

-- "both are forked at one last and each evidence row of L is admissible": L is forked at `l`, K at `k`.
pub record OneLast (s : Store) (l a b k lo hi : ℕ) : Type 0 where
  pub same : l ≡ k
  pub low : Admissible s lo hi a
  pub high : Admissible s lo hi b

-- "L is at or below K when": "both growing: L's last is at or before K's"; "K forked: either L is growing with last at or before
-- K's; or" one of the two above; "L forked, K growing: never."
abbrev pub AtOrBelow : Store → State → State → Type 0
AtOrBelow s (growing l) (growing k) = AtOrBefore s l k
AtOrBelow s (growing l) (forked k lo hi) = AtOrBefore s l k ⊎ Beyond s k lo hi l
AtOrBelow s (forked l a b) (forked k lo hi) = Beyond s k lo hi l ⊎ OneLast s l a b k lo hi
AtOrBelow s (forked l a b) (growing k) = ⊥

-- COMPUTED

-- Forked at `p` with two children of it, the lower id first.
abbrev pub sorted_at : Store → ℕ → ℕ → ℕ → State
sorted_at s p c d = pick (ltb (s.key c) (s.key d)) (forked p c d) (forked p d c)

-- The state forked at `l` with one more child `c` of `l`: the two lowest ids of the three.
abbrev pub with_child : Store → ℕ → ℕ → ℕ → ℕ → State
with_child s l lo hi c =
    pick (ltb (s.key c) (s.key lo)) (forked l c lo)
    (pick (both (ltb (s.key lo) (s.key c)) (ltb (s.key c) (s.key hi))) (forked l lo c) (forked l lo hi))

-- A state with one more row that lies strictly after its last.
abbrev pub extend : Store → State → ℕ → State
extend s (growing l) x = growing x
extend s (forked l lo hi) x = with_child s l lo hi (toward s l x)

-- A state `K` with one more row `x` and all before it, where `p` is the prefix of K's last and `x`.
abbrev pub add_at : Store → State → ℕ → ℕ → State
add_at s K x p = pick (eqb p x) K (pick (eqb p (last_of K)) (extend s K x) (sorted_at s p (toward s p (last_of K)) (toward s p x)))

-- "Append of a row is a merge with growing at that row."
unfoldable pub add : Store → State → ℕ → State
add s K x = add_at s K x (prefix_of s (last_of K) x)

-- The merge: a growing state's last, or both evidence rows, added to the other state.
unfoldable pub merge_of : Store → State → State → State
merge_of s (growing l) K = add s K l
merge_of s (forked l lo hi) K = add s (add s K lo) hi

-- Whether `a` is at or before `b`: whether it is their prefix.
abbrev pub before? : Store → ℕ → ℕ → Bool
before? s a b = eqb (prefix_of s a b) a

-- Whether a row is admissible.
abbrev pub admissible? : Store → ℕ → ℕ → ℕ → Bool
admissible? s lo hi c = either (eqb c lo) (leb (s.key hi) (s.key c))

-- Whether a row lies beyond, by an admissible child.
abbrev pub beyond? : Store → ℕ → ℕ → ℕ → ℕ → Bool
beyond? s k lo hi l = both (before? s k l) (both (not (eqb k l)) (admissible? s lo hi (toward s k l)))

-- Whether L is at or below K.
unfoldable pub at_or_below? : Store → State → State → Bool
at_or_below? s (growing l) (growing k) = before? s l k
at_or_below? s (growing l) (forked k lo hi) = either (before? s l k) (beyond? s k lo hi l)
at_or_below? s (forked l a b) (forked k lo hi) = either (beyond? s k lo hi l) (both (eqb l k) (both (admissible? s lo hi a) (admissible? s lo hi b)))
at_or_below? s (forked l a b) (growing k) = false

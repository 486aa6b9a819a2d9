-- Source 002's own algorithms 1 to 3 over one author's chain, in the paper's cases: what document 01 corrects, and what it keeps.
-- A log of the paper has a last message and a set of forks, here a list; a log without forks is in the growing phase.
-- Assumes nothing.
use Rattle.std.specs.Prelude.{ℕ, ◌≡◌, ◌⊎◌, Bool, true, false, not, List, [], ◌∷◌, ◌++◌, eqb}
use Rattle.basics.specs.Pick.{pick, both, either}
use Rattle.chains.specs.Chain.{Store, AtOrBefore, toward, IsPrefix, prefix_of, State, growing, forked, last_of, before?}
use Rattle.chains.specs.Merging.{Tree, leaf, join}

-- The last message and the forks.
pub record PaperLog : Type 0 where
  pub last : ℕ
  pub forks : List ℕ

-- The list has nothing.
abbrev pub is_empty : List ℕ → Bool
is_empty [] = true
is_empty (x ∷ xs) = false

-- The growing phase.
abbrev pub no_forks : PaperLog → Bool
no_forks L = is_empty L.forks

-- Equation 3: neither is at or before the other.
abbrev pub concurrent? : Store → ℕ → ℕ → Bool
concurrent? s a b = not (either (before? s a b) (before? s b a))

-- Equation 8: the range from `a` to `b`, the messages at or before `b` and not at or before `a`.
pub record InRange (s : Store) (a b x : ℕ) : Type 0 where
  pub within : AtOrBefore s x b
  pub past : AtOrBefore s x a → ⊥

-- Equation 10: in the range from the prefix to one of the two, with the prefix as predecessor.
pub record InForkProof (s : Store) (a b x : ℕ) : Type 0 where
  pub prefix : ℕ
  pub is_prefix : IsPrefix s a b prefix
  pub range : InRange s prefix a x ⊎ InRange s prefix b x
  pub on_prefix : s.prev x ≡ prefix

-- Equation 10, computed: the first message of each branch after the prefix.
abbrev pub fork_proof : Store → ℕ → ℕ → List ℕ
fork_proof s a b = let p = prefix_of s a b in pick (eqb p a) [] (toward s p a ∷ []) ++ pick (eqb p b) [] (toward s p b ∷ [])

-- Those of a list whose predecessor is `p`.
unfoldable pub on_prev : Store → ℕ → List ℕ → List ℕ
on_prev s p [] = []
on_prev s p (x ∷ xs) = pick (eqb (s.prev x) p) (x ∷ on_prev s p xs) (on_prev s p xs)

-- Algorithm 1, lines 19 to 22: forked at the prefix.
abbrev pub paper_fork : Store → PaperLog → ℕ → PaperLog
paper_fork s L x = record { last = prefix_of s L.last x; forks = fork_proof s L.last x }

-- Algorithm 1: append a message.
unfoldable pub paper_append : Store → PaperLog → ℕ → PaperLog
paper_append s L x =
    pick (no_forks L)
    (pick (both (before? s L.last x) (not (eqb L.last x))) record { last = x; forks = [] } (pick (before? s x L.last) L (paper_fork s L x)))
    (pick (not (concurrent? s x L.last)) L (paper_fork s L x))

-- Algorithm 2: the order.
unfoldable pub paper_below? : Store → PaperLog → PaperLog → Bool
paper_below? s L K =
    pick (both (no_forks L) (no_forks K)) (before? s L.last K.last)
    (pick (both (no_forks L) (not (no_forks K))) true (pick (both (not (no_forks L)) (no_forks K)) false (before? s K.last L.last)))

-- Algorithm 3, lines 15 to 18: forked at the prefix, with all the proof there is on it.
abbrev pub paper_split : Store → PaperLog → PaperLog → PaperLog
paper_split s L K =
    let p = prefix_of s L.last K.last in
    record { last = p; forks = on_prev s p (fork_proof s L.last K.last ++ (L.forks ++ K.forks)) }

-- Algorithm 3: merge. Line 4 is read as "if the two lasts are not concurrent": lines 5 to 13 then give back one of the two logs, and
-- line 14 says of what is left that the lasts are concurrent or both logs are forked.
unfoldable pub paper_merge : Store → PaperLog → PaperLog → PaperLog
paper_merge s L K =
    pick (concurrent? s L.last K.last) (paper_split s L K)
    (pick (both (no_forks L) (no_forks K)) (pick (before? s L.last K.last) K L)
    (pick (both (not (no_forks L)) (no_forks K)) L (pick (both (no_forks L) (not (no_forks K))) K (paper_split s L K))))

-- A state as a log of the paper.
abbrev pub as_paper : State → PaperLog
as_paper (growing l) = record { last = l; forks = [] }
as_paper (forked l lo hi) = record { last = l; forks = lo ∷ hi ∷ [] }

-- The phase of a state: forked, yes or no.
abbrev pub forked? : State → Bool
forked? (growing l) = false
forked? (forked l lo hi) = true

-- A state has the phase and the last message of a log of the paper.
pub record SamePhaseAndLast (K : State) (P : PaperLog) : Type 0 where
  pub last : last_of K ≡ P.last
  pub phase : forked? K ≡ not (no_forks P)

-- In a list.
abbrev pub Has : List ℕ → ℕ → Type 0
Has [] c = ⊥
Has (x ∷ xs) c = (c ≡ x) ⊎ Has xs c

-- A log of the paper stands where a state stands: at one last, without forks where the state grows (CL1), else with forks, all of
-- them on last (FL1, FL7). Which forks it holds is left open.
pub data Mirrors (s : Store) : State → PaperLog → Type 0 where
  growing_mirrors : {l : ℕ} → Mirrors s (growing l) (record { last = l; forks = [] })
  forked_mirrors : {l lo hi c : ℕ} {cs : List ℕ} → ((x : ℕ) → Has (c ∷ cs) x → s.prev x ≡ l) → Mirrors s (forked l lo hi) (record { last = l; forks = c ∷ cs })

-- What the paper's merge ends in over a tree of states.
unfoldable pub paper_merged : Store → Tree → PaperLog
paper_merged s (leaf K) = as_paper K
paper_merged s (join t u) = paper_merge s (paper_merged s t) (paper_merged s u)

-- Lists of numbers that stand there once: how many of them there can be.
-- Assumes nothing.
use Prim.Native.Nat.{ℕ, zero, suc, ◌≤◌}
use mathlib.Core.List.{List, [], ◌∷◌}
use mathlib.Core.Logic.{◌≢◌}
use native.Mathlib.Omega.{arith}
use lib.ListN.{length}
use lib.Dec.{eqb}
use Rattle.basics.specs.Pick.{pick}
use Rattle.basics.proofs.Tests.{by_eqb}

-- It holds of each element.
abbrev pub All : (ℕ → Type 0) → List ℕ → Type 0
All P [] = Unit
All P (x ∷ l) = P x × All P l

-- No element stands twice.
abbrev pub Unique : List ℕ → Type 0
Unique [] = Unit
Unique (x ∷ l) = All (λ y. y ≢ x) l × Unique l

-- A list without the first `a` in it.
unfoldable without : ℕ → List ℕ → List ℕ
without a [] = []
without a (x ∷ l) = pick (eqb x a) l (x ∷ without a l)

-- What two statements give of each element.
pub all_both : {P Q R : ℕ → Type 0} → ((x : ℕ) → P x → Q x → R x) → (l : List ℕ) → All P l → All Q l → All R l
all_both f [] p q = tt
all_both f (x ∷ l) p q = (f x p.0 q.0, all_both f l p.1 q.1)

-- Each element that is left was there.
all_without : (P : ℕ → Type 0) (a : ℕ) (l : List ℕ) → All P l → All P (without a l)
unfolding without
all_without P a [] p = tt
all_without P a (x ∷ l) p =
    by_eqb (λ t. All P (pick t l (x ∷ without a l))) x a (λ _. p.1) (λ _. (p.0, all_without P a l p.1))

-- At most one element is gone.
length_without : (a : ℕ) (l : List ℕ) → length l ≤ suc (length (without a l))
unfolding without
length_without a [] = omega arith
length_without a (x ∷ l) =
    let h : length l ≤ suc (length (without a l)) = length_without a l in
    by_eqb (λ t. suc (length l) ≤ suc (length (pick t l (x ∷ without a l)))) x a (λ _. omega arith) (λ _. omega arith)

-- What is left stands once.
unique_without : (a : ℕ) (l : List ℕ) → Unique l → Unique (without a l)
unfolding without
unique_without a [] u = tt
unique_without a (x ∷ l) u =
    by_eqb (λ t. Unique (pick t l (x ∷ without a l))) x a (λ _. u.1) (λ _. (all_without (λ y. y ≢ x) a l u.0, unique_without a l u.1))

-- What stood once is gone.
gone_without : (a : ℕ) (l : List ℕ) → Unique l → All (λ y. y ≢ a) (without a l)
unfolding without
gone_without a [] u = tt
gone_without a (x ∷ l) u =
    by_eqb (λ t. All (λ y. y ≢ a) (pick t l (x ∷ without a l))) x a
    (λ e. rw e at u.0)
    (λ e. (e, gone_without a l u.1))

-- A list of different numbers from 1 to m has at most m of them.
pub at_most : (m : ℕ) (l : List ℕ) → Unique l → All (λ y. (1 ≤ y) × (y ≤ m)) l → length l ≤ m
at_most zero [] u p = omega arith
at_most zero (x ∷ l) u p = absurd (omega (arith, p.0.0, p.0.1))
at_most (suc m) l u p =
    let q : All (λ y. (1 ≤ y) × (y ≤ m)) (without (suc m) l) =
    all_both (λ x n b. (b.0, omega (arith, b.1))) (without (suc m) l) (gone_without (suc m) l u) (all_without (λ y. (1 ≤ y) × (y ≤ suc m)) (suc m) l p)
    in
    let h : length (without (suc m) l) ≤ m = at_most m (without (suc m) l) (unique_without (suc m) l u) q in
    omega (arith, length_without (suc m) l)

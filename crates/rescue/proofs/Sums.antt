-- What the numbers of an order weigh together: one more weighs its own, and none is weighed twice.
-- Assumes nothing.
use Prim.Native.Nat.{ℕ, zero, suc, ◌+◌, ◌≤◌, ◌<◌}
use mathlib.Core.Path.{◌≡◌, refl, sym, ap, ◌∙◌}
use mathlib.Core.Bool.{Bool, true, false}
use mathlib.Core.List.{List, [], ◌∷◌, ◌++◌}
use mathlib.Core.Logic.{⊎_elim, ◌≢◌}
use native.Mathlib.Omega.{arith}
use native.Mathlib.Nat.{eq-or-lt_of_le}
use borrow.Author.Tests.{eq-eqb, ne_eqb}
use lib.Dec.{eqb}
use lib.ListN.{length, length-append}
use Rattle.basics.specs.Pick.{pick, either}
use Rattle.basics.proofs.Tests.{by_pick, by_eqb, either_second}
use Rattle.cutting.specs.Cutting.{joined}
use Rattle.rescue.specs.Greedy.{among, item_of}

-- Whether a number is in an order with one more.
pub among_more : (p : ℕ) (qs : List ℕ) (q : ℕ) → among p (qs ++ (q ∷ [])) ≡ either (among p qs) (eqb p q)
unfolding among
among_more p [] q = by_eqb (λ b. either b false ≡ b) p q (λ _. refl) (λ _. refl)
among_more p (x ∷ qs) q =
    by_eqb (λ b. either b (among p (qs ++ (q ∷ []))) ≡ either (either b (among p qs)) (eqb p q)) p x (λ _. refl) (λ _. among_more p qs q)

-- The last one is in it,
pub among_last : (p : ℕ) (qs : List ℕ) → among p (qs ++ (p ∷ [])) ≡ true
among_last p qs = among_more p qs p ∙ either_second (among p qs) (eqb p p) (eq-eqb p p refl)

-- and of any other it is what it was.
pub among_other : (p : ℕ) (qs : List ℕ) (q : ℕ) → p ≢ q → among p (qs ++ (q ∷ [])) ≡ among p qs
among_other p qs q d = among_more p qs q ∙ ap (either (among p qs)) (ne_eqb p q d) ∙ either_none (among p qs)
  where
    either_none : (b : Bool) → either b false ≡ b
    either_none true = refl
    either_none false = refl

-- What those of the numbers below `n` that are in an order weigh.
unfoldable pub sum_in : (ℕ → ℕ) → List ℕ → ℕ → ℕ
sum_in weight order zero = 0
sum_in weight order (suc n) = sum_in weight order n + pick (among n order) (weight n) 0

-- What all numbers below `n` weigh.
unfoldable pub sum_of : (ℕ → ℕ) → ℕ → ℕ
sum_of weight zero = 0
sum_of weight (suc n) = sum_of weight n + weight n

-- Each weighs 1.
abbrev pub one : ℕ → ℕ
one p = 1

-- Not more than all.
pub sum_within : (weight : ℕ → ℕ) (order : List ℕ) (n : ℕ) → sum_in weight order n ≤ sum_of weight n
unfolding sum_in sum_of
sum_within weight order zero = omega arith
sum_within weight order (suc n) =
    let h = sum_within weight order n in
    by_pick (λ (x : ℕ). sum_in weight order n + x ≤ sum_of weight n + weight n) (among n order) (weight n) 0 (λ e. omega arith) (λ e. omega arith)

-- None is in no order.
pub sum_none : (weight : ℕ → ℕ) (n : ℕ) → sum_in weight [] n ≡ 0
unfolding sum_in among
sum_none weight zero = refl
sum_none weight (suc n) = rw (sum_none weight n)

-- As many as there are, where each weighs 1.
sum_one : (n : ℕ) → sum_of one n ≡ n
unfolding sum_of
sum_one zero = refl
sum_one (suc n) = let h = sum_one n in omega arith

-- Where one is not in the order, fewer than there are.
pub sum_missing : (order : List ℕ) (n p : ℕ) → p < n → among p order ≡ false → sum_in one order n < n
unfolding sum_in
sum_missing order zero p h e = absurd (omega arith)
sum_missing order (suc n) p h e =
    ⊎_elim
    (λ (z : p ≡ n).
    let l = sum_within one order n in
    let o = sum_one n in
    let m : among n order ≡ false = ap (λ (q : ℕ). among q order) (sym z) ∙ e in
    let y : pick {A = ℕ} (among n order) 1 0 ≡ 0 = ap (λ (b : Bool). pick {A = ℕ} b 1 0) m in
    omega arith)
    (λ (z : p < n).
    let l = sum_missing order n p z e in
    by_pick (λ (x : ℕ). sum_in one order n + x < suc n) (among n order) 1 0 (λ _. omega arith) (λ _. omega arith))
    (eq-or-lt_of_le (omega arith))

-- One more weighs nothing among those before it,
sum_same : (weight : ℕ → ℕ) (order : List ℕ) (p n : ℕ) → n ≤ p → sum_in weight (order ++ (p ∷ [])) n ≡ sum_in weight order n
unfolding sum_in
sum_same weight order p zero h = refl
sum_same weight order p (suc n) h =
    let e : among n (order ++ (p ∷ [])) ≡ among n order = among_other n order p (λ z. omega arith) in
    rw (sum_same weight order p n (omega arith), e)

-- and its own where it was not in the order.
pub sum_more : (weight : ℕ → ℕ) (order : List ℕ) (p n : ℕ) → p < n → among p order ≡ false
    → sum_in weight (order ++ (p ∷ [])) n ≡ sum_in weight order n + weight p
unfolding sum_in
sum_more weight order p zero h e = absurd (omega arith)
sum_more weight order p (suc n) h e =
    ⊎_elim
    (λ (z : p ≡ n).
    let m : among n order ≡ false = ap (λ (q : ℕ). among q order) (sym z) ∙ e in
    let y : among n (order ++ (p ∷ [])) ≡ true = ap (λ (q : ℕ). among n (order ++ (q ∷ []))) z ∙ among_last n order in
    let c : sum_in weight (order ++ (p ∷ [])) n ≡ sum_in weight order n = sum_same weight order p n (omega arith) in
    let a : pick {A = ℕ} (among n order) (weight n) 0 ≡ 0 = ap (λ (b : Bool). pick {A = ℕ} b (weight n) 0) m in
    let b : pick {A = ℕ} (among n (order ++ (p ∷ []))) (weight n) 0 ≡ weight n = ap (λ (b : Bool). pick {A = ℕ} b (weight n) 0) y in
    let x : weight p ≡ weight n = ap weight z in
    omega arith)
    (λ (z : p < n).
    let y : among n (order ++ (p ∷ [])) ≡ among n order = among_other n order p (λ x. omega arith) in
    let c : sum_in weight (order ++ (p ∷ [])) n ≡ sum_in weight order n + weight p = sum_more weight order p n z e in
    let b : pick {A = ℕ} (among n (order ++ (p ∷ []))) (weight n) 0 ≡ pick (among n order) (weight n) 0 =
    ap (λ (x : Bool). pick {A = ℕ} x (weight n) 0) y in
    omega arith)
    (eq-or-lt_of_le (omega arith))

-- What all weigh is what the first weighs and the others.
sum_front : (weight : ℕ → ℕ) (n : ℕ) → sum_of weight (suc n) ≡ weight 0 + sum_of (λ p. weight (suc p)) n
unfolding sum_of
sum_front weight zero = omega arith
sum_front weight (suc n) = let h = sum_front weight n in omega arith

-- Items together have as many bytes as joined.
pub sum_joined : (is : List (List ℕ)) → sum_of (λ p. length (item_of is p)) (length is) ≡ length (joined is)
unfolding sum_of joined
sum_joined [] = refl
sum_joined (i ∷ is) =
    sum_front (λ p. length (item_of (i ∷ is) p)) (length is) ∙ ap (λ (n : ℕ). length i + n) (sum_joined is) ∙ sym (length-append i (joined is))

-- Two lists of the same rows, both rising, are one.
-- Assumes nothing.
use Prim.Native.Nat.{ℕ, zero, suc, ◌+◌, ◌*◌, ◌≤◌, ◌<◌}
use mathlib.Core.Path.{◌≡◌, refl, sym, ap, subst, ◌∙◌}
use mathlib.Core.Bool.{Bool}
use mathlib.Core.List.{List, [], ◌∷◌, ◌++◌}
use mathlib.Core.Logic.{⊎_elim}
use native.Mathlib.Omega.{arith}
use native.Mathlib.Nat.{eq-or-lt_of_le}
use lib.ListN.{length, take, get_or}
use lib.Seq.{take-suc}
use Rattle.basics.proofs.Tests.{by_ltb}
use Rattle.review.specs.Review.{branch_width, tip_at, child_at}

-- A place below `m` where `f` is `x`.
pub record Among (f : ℕ → ℕ) (m x : ℕ) : Type 0 where
  pub place : ℕ
  pub inside : place < m
  pub here : x ≡ f place

-- A strict order.
pub record Strict (R : ℕ → ℕ → Type 0) : Type 0 where
  pub apart : (x : ℕ) → R x x → ⊥
  pub then : (x y z : ℕ) → R x y → R y z → R x z

-- The first `m` numbers rise.
abbrev pub Rises : (ℕ → ℕ → Type 0) → (ℕ → ℕ) → ℕ → Type 0
Rises R f m = (j : ℕ) → j < m → (i : ℕ) → i < j → R (f i) (f j)

-- Where the earlier ones agree, the next of the one is a next of the other.
next_same : (R : ℕ → ℕ → Type 0) (f g : ℕ → ℕ) (m k i : ℕ) → Strict R → Rises R f m → Rises R g k → ((j : ℕ) → j < m → Among g k (f j))
    → ((j : ℕ) → j < k → Among f m (g j)) → i < m → ((j : ℕ) → j < i → f j ≡ g j) → (i < k) × (f i ≡ g i)
next_same R f g m k i s rf rg c d h e = (inside, same)
  where
    p : Among g k (f i)
    p = c i h

    -- It is not one of the earlier ones,
    late : i ≤ p.place
    late =
        by_ltb (λ (b : Bool). i ≤ p.place) p.place i
        (λ l. absurd (s.apart (f i) (subst (λ (x : ℕ). R x (f i)) (e p.place l ∙ sym p.here) (rf i h p.place l))))
        (λ l. l)

    inside : i < k
    inside = omega (arith, late, p.inside)

    q : Among f m (g i)
    q = d i inside

    -- nor is that of the other,
    late' : i ≤ q.place
    late' =
        by_ltb (λ (b : Bool). i ≤ q.place) q.place i
        (λ l. absurd (s.apart (g i) (subst (λ (x : ℕ). R x (g i)) (sym (e q.place l) ∙ sym q.here) (rg i inside q.place l))))
        (λ l. l)

    -- so each would come before the other.
    same : f i ≡ g i
    same =
        ⊎_elim
        (λ z. p.here ∙ ap g (sym z))
        (λ (l : i < p.place).
        let a : R (g i) (f i) = subst (λ (x : ℕ). R (g i) x) (sym p.here) (rg p.place p.inside i l) in
        ⊎_elim
        (λ z. ap f z ∙ sym q.here)
        (λ (o : i < q.place).
        let b : R (f i) (g i) = subst (λ (x : ℕ). R (f i) x) (sym q.here) (rf q.place q.inside i o) in
        absurd (s.apart (f i) (s.then (f i) (g i) (f i) b a))) (eq-or-lt_of_le late')) (eq-or-lt_of_le late)

module _ (R : ℕ → ℕ → Type 0) (f g : ℕ → ℕ) (m k : ℕ) (s : Strict R) (rf : Rises R f m) (rg : Rises R g k) (c : (j : ℕ) → j < m → Among g k (f j))
    (d : (j : ℕ) → j < k → Among f m (g j)) where
  -- All that are earlier agree,
  all_same : (n : ℕ) → (i : ℕ) → i < n → i < m → (i < k) × (f i ≡ g i)
  all_same zero i h l = absurd (omega arith)
  all_same (suc n) i h l = next_same R f g m k i s rf rg c d l (λ j o. (all_same n j (omega arith) (omega arith)).1)

  -- so all agree,
  pub place_same : (i : ℕ) → i < m → (i < k) × (f i ≡ g i)
  place_same i h = all_same m i h h

  -- and there are no fewer.
  pub no_fewer : m ≤ k
  no_fewer = by_ltb (λ (b : Bool). m ≤ k) k m (λ l. absurd (let h = (place_same k l).0 in omega arith)) (λ l. l)

-- Lists whose first branches are the same begin with the same numbers.
pub same_numbers : (l l' : List ℕ) (m : ℕ) → branch_width * m ≤ length l → branch_width * m ≤ length l' → ((i : ℕ) → i < m → tip_at l i ≡ tip_at l' i)
    → ((i : ℕ) → i < m → child_at l i ≡ child_at l' i) → take (branch_width * m) l ≡ take (branch_width * m) l'
same_numbers l l' zero h k t c = refl
same_numbers l l' (suc m) h k t c =
    let e : 2 * suc m ≡ suc (suc (2 * m)) = omega arith in
    let a = same_numbers l l' m (omega arith) (omega arith) (λ i o. t i (omega arith)) (λ i o. c i (omega arith)) in
    let b : take (suc (2 * m)) l ≡ take (suc (2 * m)) l' =
    take-suc l (2 * m) 0 (omega arith) ∙ ap (λ (x : List ℕ). x ++ (get_or l (2 * m) 0 ∷ [])) a
    ∙ ap (λ (x : ℕ). take (2 * m) l' ++ (x ∷ [])) (t m (omega arith)) ∙ sym (take-suc l' (2 * m) 0 (omega arith)) in
    let o : 2 * m + 1 ≡ suc (2 * m) = omega arith in
    let u : get_or l (suc (2 * m)) 0 ≡ get_or l' (suc (2 * m)) 0 = subst (λ (x : ℕ). get_or l x 0 ≡ get_or l' x 0) o (c m (omega arith)) in
    let d : take (suc (suc (2 * m))) l ≡ take (suc (suc (2 * m))) l' =
    take-suc l (suc (2 * m)) 0 (omega arith) ∙ ap (λ (x : List ℕ). x ++ (get_or l (suc (2 * m)) 0 ∷ [])) b
    ∙ ap (λ (x : ℕ). take (suc (2 * m)) l' ++ (x ∷ [])) u ∙ sym (take-suc l' (suc (2 * m)) 0 (omega arith)) in
    subst (λ (x : ℕ). take x l ≡ take x l') (sym e) d

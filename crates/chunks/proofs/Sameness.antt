-- What the tests on byte lists say of the lists.
-- Assumes nothing.
use Prim.Native.Nat.{ℕ, zero, suc}
use mathlib.Core.Path.{◌≡◌, refl, sym, ap, ◌∙◌}
use mathlib.Core.Bool.{true, false}
use mathlib.Core.List.{List, [], ◌∷◌}
use mathlib.Core.Logic.{◌≢◌}
use lib.ListN.{length, replicate}
use lib.Dec.{eqb}
use borrow.Author.Tests.{eq-eqb, eqb-true}
use Rattle.basics.specs.Decides.{Decides}
use Rattle.basics.proofs.Tests.{both_left, both_right, both_of, not_both_ways}
use Rattle.chunks.specs.Bytes.{same_bytes, all_zero}

-- Lists that test the same are equal.
pub same_equal : (a b : List ℕ) → same_bytes a b ≡ true → a ≡ b
unfolding same_bytes
same_equal [] [] e = refl
same_equal [] (y ∷ b) e = absurd (not_both_ways false e refl)
same_equal (x ∷ a) [] e = absurd (not_both_ways false e refl)
same_equal (x ∷ a) (y ∷ b) e =
    let p : x ≡ y = eqb-true x y (both_left (eqb x y) (same_bytes a b) e) in
    let q : a ≡ b = same_equal a b (both_right (eqb x y) (same_bytes a b) e) in
    cc

-- A list tests the same as itself.
pub same_refl : (a : List ℕ) → same_bytes a a ≡ true
unfolding same_bytes
same_refl [] = refl
same_refl (x ∷ a) = both_of (eqb x x) (same_bytes a a) (eq-eqb x x refl) (same_refl a)

-- Lists that do not test the same are not equal.
pub same_differs : (a b : List ℕ) → same_bytes a b ≡ false → a ≢ b
same_differs a b e p = let q : same_bytes b b ≡ false = rw p at e in not_both_ways (same_bytes b b) (same_refl b) q

-- The test decides whether two lists are equal.
pub same_decides : (a b : List ℕ) → Decides (a ≡ b) (same_bytes a b)
same_decides a b = record { yes = same_equal a b; no = same_differs a b }

-- A list that tests all zero is so many zeros.
zeros : (s : List ℕ) → all_zero s ≡ true → s ≡ replicate (length s) 0
unfolding all_zero
zeros [] e = refl
zeros (x ∷ s) e =
    let p : x ≡ 0 = eqb-true x 0 (both_left (eqb x 0) (all_zero s) e) in
    let q : s ≡ replicate (length s) 0 = zeros s (both_right (eqb x 0) (all_zero s) e) in
    cc

-- Zeros test all zero.
zeros_all : (n : ℕ) → all_zero (replicate n 0) ≡ true
unfolding all_zero
zeros_all zero = refl
zeros_all (suc n) = zeros_all n

-- The test for zero decides whether a list is so many zeros.
pub zero_decides : (a : List ℕ) → Decides (a ≡ replicate (length a) 0) (all_zero a)
zero_decides a =
    record {
      yes = zeros a;
      no = λ e p. let q : all_zero (replicate (length a) 0) ≡ false = ap all_zero (sym p) ∙ e in not_both_ways _ (zeros_all (length a)) q;
    }

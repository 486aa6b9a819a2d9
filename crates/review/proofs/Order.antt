-- The order of ids is a strict order: first byte first, and no two different ids stand level.
-- Assumes nothing.
use Prim.Native.Nat.{ℕ, ◌<◌, ◌≤◌}
use mathlib.Core.Path.{◌≡◌, refl, sym, ◌∙◌}
use mathlib.Core.Bool.{Bool, true, false}
use mathlib.Core.List.{List, [], ◌∷◌}
use mathlib.Core.Logic.{◌≢◌}
use native.Mathlib.Omega.{arith}
use borrow.Author.Tests.{eq-eqb, ne_eqb, ltb-true, ltb-false, lt-ltb}
use lib.Dec.{eqb, ltb}
use Rattle.basics.specs.Pick.{pick}
use Rattle.basics.proofs.Tests.{by_eqb, not_both_ways}
use Rattle.chunks.specs.Bytes.{comes_before}

-- What comes before comes before all that it comes before.
pub before_then : (a b c : List ℕ) → comes_before a b ≡ true → comes_before b c ≡ true → comes_before a c ≡ true
unfolding comes_before
before_then [] [] c e f = absurd (not_both_ways true refl (sym e))
before_then [] (y ∷ b) [] e f = absurd (not_both_ways true refl (sym f))
before_then [] (y ∷ b) (z ∷ c) e f = refl
before_then (x ∷ a) [] c e f = absurd (not_both_ways true refl (sym e))
before_then (x ∷ a) (y ∷ b) [] e f = absurd (not_both_ways true refl (sym f))
before_then (x ∷ a) (y ∷ b) (z ∷ c) e f =
    by_eqb (λ (t : Bool). pick t (comes_before a b) (ltb x y) ≡ true → pick (eqb x z) (comes_before a c) (ltb x z) ≡ true) x y
    (λ i e'. by_eqb (λ (t : Bool). pick t (comes_before b c) (ltb y z) ≡ true → pick (eqb x z) (comes_before a c) (ltb x z) ≡ true) y z
    (λ j f'. rw (eq-eqb x z (i ∙ j)) (before_then a b c e' f'))
    (λ j f'. let l : y < z = ltb-true y z f' in let d : x ≢ z = λ k. omega arith in rw (ne_eqb x z d) (lt-ltb x z (omega arith))) f)
    (λ i e'. by_eqb (λ (t : Bool). pick t (comes_before b c) (ltb y z) ≡ true → pick (eqb x z) (comes_before a c) (ltb x z) ≡ true) y z
    (λ j f'. let l : x < y = ltb-true x y e' in let d : x ≢ z = λ k. omega arith in rw (ne_eqb x z d) (lt-ltb x z (omega arith)))
    (λ j f'. let l : x < y = ltb-true x y e' in let m : y < z = ltb-true y z f' in let d : x ≢ z = λ k. omega arith in
    rw (ne_eqb x z d) (lt-ltb x z (omega arith))) f) e

-- Of two that differ one comes before the other.
pub one_before : (a b : List ℕ) → a ≢ b → comes_before a b ≡ false → comes_before b a ≡ true
unfolding comes_before
one_before [] [] d e = absurd (d refl)
one_before [] (y ∷ b) d e = absurd (not_both_ways true refl e)
one_before (x ∷ a) [] d e = refl
one_before (x ∷ a) (y ∷ b) d e =
    by_eqb (λ (t : Bool). pick t (comes_before a b) (ltb x y) ≡ false → pick (eqb y x) (comes_before b a) (ltb y x) ≡ true) x y
    (λ i e'. rw (eq-eqb y x (sym i)) (one_before a b (λ k. d (rw (i, k))) e'))
    (λ i e'. let l : y ≤ x = ltb-false x y e' in let n : y ≢ x = λ k. i (sym k) in rw (ne_eqb y x n) (lt-ltb y x (omega (arith, n)))) e

-- Nothing comes before itself.
pub not_before_self : (a : List ℕ) → comes_before a a ≡ false
unfolding comes_before
not_before_self [] = refl
not_before_self (x ∷ a) = rw (eq-eqb x x refl) (not_before_self a)

-- A comparison of two parts is one of the ids that they are.
pub before_of : (r : Bool) (x y p q : List ℕ) → r ≡ comes_before x y → x ≡ p → y ≡ q → r ≡ comes_before p q
before_of r x y p q e f g = e ∙ rw (f, g)

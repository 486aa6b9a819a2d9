-- The tests on byte lists against the library's: whether two slices are equal, and whether all of one is zero. Then the laws of a loop that
-- seeks which of two comes first: what is left of them decides; a law for a turn, for a difference, and for the end.
-- Assumes nothing.
use Prim.Native.Nat.{ℕ, ◌+◌, ◌≤◌, ◌<◌}
use mathlib.Core.Path.{◌≡◌, refl, ap, ◌∙◌}
use mathlib.Core.Bool.{Bool, true, false, ◌&&◌}
use mathlib.Core.List.{List, [], ◌∷◌}
use mathlib.Core.Logic.{◌≢◌}
use native.Mathlib.Numerals.{add-one}
use lib.ListN.{length, drop, get_or, drop_of_length-le}
use lib.Seq.{drop-cons}
use lib.Dec.{eqb, ltb}
use lib.Pointwise.{pointwise}
use borrow.Author.Tests.{eq-eqb, ne_eqb}
use Rattle.std.specs.List.{list_all}
use Rattle.basics.specs.Pick.{both}
use Rattle.basics.proofs.Tests.{by_ltb}
use Rattle.chunks.specs.Bytes.{same_bytes, comes_before, all_zero}

-- Two tests joined are the library's.
joined : (p q : Bool) → (p && q) ≡ both p q
joined true q = refl
joined false q = refl

-- Slices that are equal to the library are the same bytes.
pub equal_same : (a b : List ℕ) → pointwise eqb a b ≡ same_bytes a b
unfolding same_bytes
equal_same [] [] = refl
equal_same [] (y ∷ b) = refl
equal_same (x ∷ a) [] = refl
equal_same (x ∷ a) (y ∷ b) = ap (λ t. eqb x y && t) (equal_same a b) ∙ joined (eqb x y) (same_bytes a b)

-- A list all of which is zero to the library is so.
pub all_zeros : (a : List ℕ) → list_all (λ x. eqb x 0) a ≡ all_zero a
unfolding all_zero
all_zeros [] = refl
all_zeros (x ∷ a) = ap (λ t. eqb x 0 && t) (all_zeros a) ∙ joined (eqb x 0) (all_zero a)

-- What is left at a place inside is the element there, and what is left after it.
pub left_here : (s : List ℕ) (i : ℕ) → i < length s → drop i s ≡ get_or s i 0 ∷ drop (i + 1) s
left_here s i h = rw (add-one, drop-cons s i 0)

module _ (a b : List ℕ) (i : ℕ) where
  -- A byte that is the same leaves it to the rest which list comes first.
  pub before_more : i < length a → i < length b → get_or a i 0 ≡ get_or b i 0
      → comes_before (drop i a) (drop i b) ≡ comes_before (drop (i + 1) a) (drop (i + 1) b)
  unfolding comes_before
  before_more h k e = rw (left_here a i h, left_here b i k, eq-eqb _ _ e)

  -- A byte that differs says which list comes first.
  pub before_differ : i < length a → i < length b → get_or a i 0 ≢ get_or b i 0
      → comes_before (drop i a) (drop i b) ≡ ltb (get_or a i 0) (get_or b i 0)
  unfolding comes_before
  before_differ h k e = rw (left_here a i h, left_here b i k, ne_eqb _ _ e)

  -- A list does not come before one that ends earlier.
  pub before_longer : i < length a → length b ≤ i → comes_before (drop i a) (drop i b) ≡ false
  unfolding comes_before
  before_longer h k = rw (left_here a i h, drop_of_length-le b k)

  -- A list that ends comes before one that goes on, and not before one that ends there too.
  pub before_end : length a ≤ i → comes_before (drop i a) (drop i b) ≡ ltb i (length b)
  unfolding comes_before
  before_end h =
      rw (drop_of_length-le a h)
      (by_ltb (λ t. comes_before [] (drop i b) ≡ t) i (length b) (λ k. rw (left_here b i k)) (λ k. rw (drop_of_length-le b k)))

-- A test joined with no is no.
pub both_false : (p : Bool) → both p false ≡ false
both_false true = refl
both_false false = refl

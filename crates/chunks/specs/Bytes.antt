-- Byte lists: when two are the same, which comes first, when one is all zero, and the number that one stands for.
-- Assumes nothing.
use Rattle.std.specs.Prelude.{ℕ, ◌+◌, ◌*◌, ◌^◌, Bool, true, false, List, [], ◌∷◌, length, eqb, ltb}
use Rattle.basics.specs.Pick.{pick, both}

-- The two lists are the same.
unfoldable pub same_bytes : List ℕ → List ℕ → Bool
same_bytes [] [] = true
same_bytes [] (y ∷ ys) = false
same_bytes (x ∷ xs) [] = false
same_bytes (x ∷ xs) (y ∷ ys) = both (eqb x y) (same_bytes xs ys)

-- "Ids compare as 32 unsigned bytes, first byte first": the first list comes before the second.
unfoldable pub comes_before : List ℕ → List ℕ → Bool
comes_before [] [] = false
comes_before [] (y ∷ ys) = true
comes_before (x ∷ xs) [] = false
comes_before (x ∷ xs) (y ∷ ys) = pick (eqb x y) (comes_before xs ys) (ltb x y)

-- Every byte is zero.
unfoldable pub all_zero : List ℕ → Bool
all_zero [] = true
all_zero (x ∷ xs) = both (eqb x 0) (all_zero xs)

-- The number that the bytes stand for, the first byte highest.
unfoldable pub id_num : List ℕ → ℕ
id_num [] = 0
id_num (x ∷ xs) = x * 256 ^ length xs + id_num xs

-- How an intake falls into items. Document 01, "The program": "each item, cut at its length, is judged where it begins in the middle of the
-- intake", and "A length above 6,253 or an input that ends inside an item gives its line and ends the intake": there all that is left is the
-- last item. Document 02, §4: "the cutting ends where the program's would".
-- Assumes nothing.
use Rattle.std.specs.Prelude.{ℕ, zero, suc, ◌+◌, ◌≤◌, ◌≡◌, Bool, true, false, List, [], ◌∷◌, ◌++◌, length, take, drop, leb}
use Rattle.basics.specs.Pick.{pick, both}
use Rattle.item.specs.Offsets.{length_limit}
use Rattle.item.specs.Layout.{length_of}

-- Is a whole item there: its length, which is not above the limit, and as many bytes as that says?
abbrev pub starts_whole : List ℕ → Bool
starts_whole s = both (leb 4 (length s)) (both (leb (length_of s) length_limit) (leb (4 + length_of s) (length s)))

-- How many bytes the item has: a whole one as many as its length says, any other all that are left.
abbrev pub size_of : List ℕ → ℕ
size_of s = pick (starts_whole s) (4 + length_of s) (length s)

-- The exact cut, which lies within the bytes that are left.
pub record CutOff (s : List ℕ) (n : ℕ) (whole : Bool) : Type 0 where
  pub size : n ≡ size_of s
  pub judged : whole ≡ starts_whole s
  pub inside : n ≤ length s

-- The bytes fall into these items.
pub data FallsInto : List ℕ → List (List ℕ) → Type 0 where
  -- Where nothing is left there is no further item.
  ended : FallsInto [] []
  -- A whole item, and those of the bytes behind it.
  whole : (s : List ℕ) (is : List (List ℕ)) → starts_whole s ≡ true → FallsInto (drop (size_of s) s) is → FallsInto s (take (size_of s) s ∷ is)
  -- Some bytes that do not begin with a whole item are the last one, which is broken.
  broken : (s : List ℕ) → 1 ≤ length s → starts_whole s ≡ false → FallsInto s (s ∷ [])

-- The items of some bytes, so many at most.
unfoldable pub items_within : ℕ → List ℕ → List (List ℕ)
items_within zero s = []
items_within (suc n) [] = []
items_within (suc n) (b ∷ s) = take (size_of (b ∷ s)) (b ∷ s) ∷ items_within n (drop (size_of (b ∷ s)) (b ∷ s))

-- The items of some bytes: each has a byte or more, so there are no more than bytes.
abbrev pub items_of : List ℕ → List (List ℕ)
items_of s = items_within (length s) s

-- Items joined, one after the other.
unfoldable pub joined : List (List ℕ) → List ℕ
joined [] = []
joined (i ∷ is) = i ++ joined is

-- A whole item, with nothing behind it.
pub record IsWhole (i : List ℕ) : Type 0 where
  pub starts : starts_whole i ≡ true
  pub ends : size_of i ≡ length i

-- Whole items, one after the other.
pub data AllWhole : List (List ℕ) → Type 0 where
  none : AllWhole []
  more : (i : List ℕ) (is : List (List ℕ)) → IsWhole i → AllWhole is → AllWhole (i ∷ is)

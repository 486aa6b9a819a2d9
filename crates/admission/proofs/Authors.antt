-- Whether the rows of a list are of an author, and of one author each, place by place.
-- Assumes nothing.
use Prim.Native.Nat.{ℕ, zero, suc, ◌<◌}
use mathlib.Core.Path.{◌≡◌, refl, sym}
use mathlib.Core.Bool.{Bool, true, false, not}
use mathlib.Core.List.{List, [], ◌∷◌}
use mathlib.Core.Logic.{◌≢◌}
use native.Mathlib.Omega.{arith}
use lib.ListN.{length, get_or}
use lib.Dec.{eqb}
use borrow.Author.Tests.{eqb-true, eqb-false, ne_eqb}
use Rattle.basics.specs.Pick.{both, either}
use Rattle.basics.proofs.Tests.{not_both_ways}
use Rattle.store.specs.Table.{row_at, has_author, one_per_author}
use Rattle.basics.proofs.Tests.{neither_first, neither_second}

-- No row of a list is of an author: at no place is one.
pub none_of : (rows : List ℕ) (a : ℕ) (ds : List ℕ) → has_author rows a ds ≡ false → (k : ℕ) → k < length ds → (row_at rows (get_or ds k 0)).author ≢ a
unfolding has_author
none_of rows a [] e k h = absurd (omega arith)
none_of rows a (d ∷ ds) e zero h = eqb-false _ _ (neither_first (eqb (row_at rows d).author a) _ e)
none_of rows a (d ∷ ds) e (suc k) h = none_of rows a ds (neither_second (eqb (row_at rows d).author a) _ e) k (omega arith)

-- At no place is one: none is.
pub of_none : (rows : List ℕ) (a : ℕ) (ds : List ℕ) → ((k : ℕ) → k < length ds → (row_at rows (get_or ds k 0)).author ≢ a) → has_author rows a ds ≡ false
unfolding has_author
of_none rows a [] h = refl
of_none rows a (d ∷ ds) h = rw (ne_eqb _ _ (h 0 (omega arith)), of_none rows a ds (λ k l. h (suc k) (omega arith)))

-- Two places have two authors: one an author.
pub of_one : (rows ds : List ℕ) → ((i j : ℕ) → i < j → j < length ds → (row_at rows (get_or ds j 0)).author ≢ (row_at rows (get_or ds i 0)).author) →
    one_per_author rows ds ≡ true
unfolding one_per_author
of_one rows [] h = refl
of_one rows (d ∷ ds) h =
    rw (of_none rows (row_at rows d).author ds (λ k l. h 0 (suc k) (omega arith) (omega arith)))
    (of_one rows ds (λ i j l m. h (suc i) (suc j) (omega arith) (omega arith)))

-- One of a list's rows is of an author: at some place.
pub record Place (rows : List ℕ) (a : ℕ) (ds : List ℕ) : Type 0 where
  pub at : ℕ
  pub inside : at < length ds
  pub by : (row_at rows (get_or ds at 0)).author ≡ a

pub some_of : (rows : List ℕ) (a : ℕ) (ds : List ℕ) → has_author rows a ds ≡ true → Place rows a ds
unfolding has_author
some_of rows a [] e = absurd (not_both_ways false e refl)
some_of rows a (d ∷ ds) e = by_first (λ h. some_of rows a ds h) (eqb (row_at rows d).author a) refl e
  where
    by_first : (has_author rows a ds ≡ true → Place rows a ds) → (b : Bool) → eqb (row_at rows d).author a ≡ b → either b (has_author rows a ds) ≡ true
        → Place rows a (d ∷ ds)
    by_first rest true g h = record { at = 0; inside = omega arith; by = eqb-true _ _ g }
    by_first rest false g h = let x = rest h in record { at = suc x.at; inside = omega (arith, x.inside); by = x.by }

-- Not one an author: two places have one author.
pub record Pair (rows ds : List ℕ) : Type 0 where
  pub low : ℕ
  pub high : ℕ
  pub apart : low < high
  pub inside : high < length ds
  pub same : (row_at rows (get_or ds low 0)).author ≡ (row_at rows (get_or ds high 0)).author

pub some_pair : (rows ds : List ℕ) → one_per_author rows ds ≡ false → Pair rows ds
unfolding one_per_author
some_pair rows [] e = absurd (not_both_ways true refl e)
some_pair rows (d ∷ ds) e = by_rest (λ h. some_pair rows ds h) (has_author rows (row_at rows d).author ds) refl e
  where
    by_rest : (one_per_author rows ds ≡ false → Pair rows ds) → (b : Bool) → has_author rows (row_at rows d).author ds ≡ b → both (not b)
        (one_per_author rows ds) ≡ false → Pair rows (d ∷ ds)
    by_rest rest true g h =
        let x = some_of rows (row_at rows d).author ds g in
        record { low = 0; high = suc x.at; apart = omega arith; inside = omega (arith, x.inside); same = sym x.by }
    by_rest rest false g h =
        let x = rest h in
        record { low = suc x.low; high = suc x.high; apart = omega (arith, x.apart); inside = omega (arith, x.inside); same = x.same }

-- Laws of the four numbers of a row, of the sum of the numbers of dependencies, and of the largest author number.
-- Assumes nothing.
use Prim.Native.Nat.{ℕ, zero, suc, ◌+◌, ◌-◌, ◌*◌, ◌/◌, ◌≤◌, ◌<◌, max}
use mathlib.Core.Path.{◌≡◌, refl, sym, ◌∙◌}
use mathlib.Core.Bool.{true, false}
use mathlib.Core.List.{List}
use mathlib.Core.Logic.{⊎_elim}
use native.Mathlib.Omega.{arith}
use native.Mathlib.Numerals.{add-one}
use native.Mathlib.Nat.{eq-zero-or-pos, le_refl, le_trans, le-add_right, le-max_left}
use native.Mathlib.Decide.{le_ind}
use lib.ListN.{length, take, get_or}
use lib.Dec.{eqb, ltb}
use borrow.Author.Tests.{ne_eqb, le-ltb, lt-ltb}
use Rattle.basics.proofs.Prefixes.{prefix_get_d}
use Rattle.store.specs.Table.{no_row, row_at, dep_sum, authors_in}

-- Row 0 is none.
pub row_none : (rows : List ℕ) → row_at rows 0 ≡ no_row
unfolding row_at
row_none rows = refl

-- The four numbers of a row that the part holds.
pub row_held : (rows : List ℕ) (r : ℕ) → 1 ≤ r → r * 4 ≤ length rows
    → row_at rows r ≡ record {
      author = get_or rows ((r - 1) * 4) 0;
      prev = get_or rows ((r - 1) * 4 + 1) 0;
      index = get_or rows ((r - 1) * 4 + 2) 0;
      deps = get_or rows ((r - 1) * 4 + 3) 0;
    }
unfolding row_at
row_held rows r h k =
    let e : eqb r 0 ≡ false = ne_eqb r 0 (λ z. omega arith) in
    let f : ltb (length rows / 4) r ≡ false = le-ltb (length rows / 4) r (omega arith) in
    rw (e, f)

-- A row that the part does not hold is none.
pub row_past : (rows : List ℕ) (r : ℕ) → length rows < r * 4 → row_at rows r ≡ no_row
unfolding row_at
row_past rows r h =
    let e : eqb r 0 ≡ false = ne_eqb r 0 (λ z. omega arith) in
    let f : ltb (length rows / 4) r ≡ true = lt-ltb (length rows / 4) r (omega arith) in
    rw (e, f)

-- Two parts have the same first `n` rows.
abbrev pub SameRows : List ℕ → List ℕ → ℕ → Type 0
SameRows rows others n = (r : ℕ) → r ≤ n → row_at rows r ≡ row_at others r

-- Parts that agree up to the end of row `n` have the same first `n` rows.
pub rows_of_prefix : (n : ℕ) (rows others : List ℕ) → n * 4 ≤ length rows → n * 4 ≤ length others → take (n * 4) rows ≡ take (n * 4) others
    → SameRows rows others n
rows_of_prefix n rows others h k e r l =
    ⊎_elim
    (λ z. rw z (row_none rows ∙ sym (row_none others)))
    (λ p.
    let f : r * 4 ≤ length rows = omega arith in
    let g : r * 4 ≤ length others = omega arith in
    let a : get_or rows ((r - 1) * 4) 0 ≡ get_or others ((r - 1) * 4) 0 = prefix_get_d (n * 4) ((r - 1) * 4) rows others 0 (omega arith) e in
    let b : get_or rows ((r - 1) * 4 + 1) 0 ≡ get_or others ((r - 1) * 4 + 1) 0 = prefix_get_d (n * 4) ((r - 1) * 4 + 1) rows others 0 (omega arith) e in
    let c : get_or rows ((r - 1) * 4 + 2) 0 ≡ get_or others ((r - 1) * 4 + 2) 0 = prefix_get_d (n * 4) ((r - 1) * 4 + 2) rows others 0 (omega arith) e in
    let d : get_or rows ((r - 1) * 4 + 3) 0 ≡ get_or others ((r - 1) * 4 + 3) 0 = prefix_get_d (n * 4) ((r - 1) * 4 + 3) rows others 0 (omega arith) e in
    rw (row_held rows r p f, row_held others r p g, a, b, c, d))
    (eq-zero-or-pos r)

-- No rows add up to nothing.
pub sum_none : (rows : List ℕ) → 0 ≡ dep_sum rows 0
unfolding dep_sum
sum_none rows = refl

-- The sum of the first `n + 1` rows.
pub sum_more : (rows : List ℕ) (n : ℕ) → dep_sum rows (n + 1) ≡ dep_sum rows n + (row_at rows (n + 1)).deps
unfolding dep_sum
sum_more rows n = rw add-one

-- More rows have no smaller sum.
pub sum_grows : (rows : List ℕ) (m n : ℕ) → m ≤ n → dep_sum rows m ≤ dep_sum rows n
unfolding dep_sum
sum_grows rows m n h =
    le_ind (λ k. dep_sum rows m ≤ dep_sum rows k) (le_refl (dep_sum rows m)) (λ k _ p. le_trans p (le-add_right (dep_sum rows k) (row_at rows (suc k)).deps)) n h

-- The same rows have the same sum.
pub sum_agree : (rows others : List ℕ) (n : ℕ) → SameRows rows others n → dep_sum rows n ≡ dep_sum others n
unfolding dep_sum
sum_agree rows others zero s = refl
sum_agree rows others (suc n) s =
    let e : row_at rows (suc n) ≡ row_at others (suc n) = s (suc n) (omega arith) in
    let f : dep_sum rows n ≡ dep_sum others n = sum_agree rows others n (λ r h. s r (omega arith)) in
    rw (e, f)

-- No rows have no authors.
pub authors_none : (rows : List ℕ) → 0 ≡ authors_in rows 0
unfolding authors_in
authors_none rows = refl

-- The largest author number of the first `n + 1` rows.
pub authors_more : (rows : List ℕ) (n : ℕ) → authors_in rows (n + 1) ≡ max (authors_in rows n) (row_at rows (n + 1)).author
unfolding authors_in
authors_more rows n = rw add-one

-- More rows have no smaller largest author number.
pub authors_grow : (rows : List ℕ) (m n : ℕ) → m ≤ n → authors_in rows m ≤ authors_in rows n
unfolding authors_in
authors_grow rows m n h =
    le_ind (λ k. authors_in rows m ≤ authors_in rows k) (le_refl (authors_in rows m))
    (λ k _ p. le_trans p (le-max_left (authors_in rows k) (row_at rows (suc k)).author))
    n h

-- The author of a row is at most the largest.
pub author_within : (rows : List ℕ) (n r : ℕ) → 1 ≤ r → r ≤ n → (row_at rows r).author ≤ authors_in rows n
author_within rows n r h k =
    let e : r - 1 + 1 ≡ r = omega arith in
    let f : authors_in rows (r - 1 + 1) ≡ max (authors_in rows (r - 1)) (row_at rows (r - 1 + 1)).author = authors_more rows (r - 1) in
    let g : authors_in rows r ≡ max (authors_in rows (r - 1)) (row_at rows r).author = rw e at f in
    omega (arith, authors_grow rows r n k)

-- The same rows have the same largest author number.
pub authors_agree : (rows others : List ℕ) (n : ℕ) → SameRows rows others n → authors_in rows n ≡ authors_in others n
unfolding authors_in
authors_agree rows others zero s = refl
authors_agree rows others (suc n) s =
    let e : row_at rows (suc n) ≡ row_at others (suc n) = s (suc n) (omega arith) in
    let f : authors_in rows n ≡ authors_in others n = authors_agree rows others n (λ r h. s r (omega arith)) in
    rw (e, f)

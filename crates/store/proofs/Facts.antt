-- What a well_formed table gives of a row: its author, previous row and index, its dependencies, its id.
-- Assumes nothing.
use Prim.Native.Nat.{ℕ, ◌+◌, ◌-◌, ◌≤◌, ◌<◌}
use mathlib.Core.Path.{◌≡◌, sym, ◌∙◌}
use mathlib.Core.Bool.{true}
use mathlib.Core.List.{List}
use mathlib.Core.Logic.{◌≢◌, ◌⊎◌}
use native.Mathlib.Omega.{arith}
use native.Mathlib.Nat.{le_antisymm}
use lib.ListN.{length, drop, get_or, length-drop}
use lib.Seq.{length-take-le, get_or-take, get_or-drop}
use lib.Dec.{ltb}
use Rattle.basics.proofs.Tests.{both_of, by_ltb}
use Rattle.basics.specs.Bytes.{Bytes}
use Rattle.chunks.specs.Bytes.{comes_before, id_num}
use Rattle.chunks.proofs.Numbers.{number_order, number_says}
use Rattle.chunks.proofs.Pieces.{length_piece, length_pieces, bytes_piece}
use Rattle.store.specs.Limits.{author_limit, row_dep_limit}
use Rattle.store.specs.Table.{Table, WellFormed, row_at, dep_sum, row_fits}
use Rattle.store.specs.Table.{author_of, prev_of, index_of, dep_count_of, dep_start, deps_of, id_at, key_at}
use Rattle.store.proofs.Rows.{sum_more, sum_grows, author_within}
use Rattle.store.proofs.Links.{Numbered, Appears, numbered_says, older, own, counted, index_below, author_appears}
use Rattle.store.proofs.Depends.{Reaches, depends_reaches, depends_one, one_at, fewer_than_authors}

-- The dependencies of a row begin where those before it end, and end where those after it begin.
pub sum_here : (rows : List ℕ) (r : ℕ) → 1 ≤ r → dep_sum rows r ≡ dep_sum rows (r - 1) + (row_at rows r).deps
sum_here rows r h =
    let e : r - 1 + 1 ≡ r = omega arith in
    rw e at (sum_more rows (r - 1))

module _ (t : Table) (w : WellFormed t) where
  -- All authors are within the count.
  pub author_held : (r : ℕ) → r ≤ t.counts.rows → 1 ≤ r → (1 ≤ author_of t r) × (author_of t r ≤ t.counts.authors)
  author_held r h k =
      let p : Numbered t.rows r = numbered_says t.rows r (w.authors_numbered r h k) in
      (p.some, omega (arith, author_within t.rows t.counts.rows r k h, w.authors_appear))

  -- "and each has a row"
  pub author_has_row : (a : ℕ) → 1 ≤ a → a ≤ t.counts.authors → Appears t.rows t.counts.rows a
  author_has_row a h k = author_appears t.rows t.counts.rows w.authors_numbered a h (omega (arith, w.authors_appear))

  -- Ids of two rows are different.
  pub same_id_lem : (x y : ℕ) → 1 ≤ x → x ≤ t.counts.rows → 1 ≤ y → y ≤ t.counts.rows → id_at t x ≡ id_at t y → x ≡ y
  same_id_lem x y a b c d e =
      le_antisymm
      (by_ltb (λ _. x ≤ y) y x (λ h. absurd (w.ids_distinct x b y h c (sym e))) (λ h. h))
      (by_ltb (λ _. y ≤ x) x y (λ h. absurd (w.ids_distinct y d x h a e)) (λ h. h))

  -- Keys of two authors are different.
  pub same_key_lem : (x y : ℕ) → 1 ≤ x → x ≤ t.counts.authors → 1 ≤ y → y ≤ t.counts.authors → key_at t x ≡ key_at t y → x ≡ y
  same_key_lem x y a b c d e =
      le_antisymm
      (by_ltb (λ _. x ≤ y) y x (λ h. absurd (w.keys_distinct x b y h c (sym e))) (λ h. h))
      (by_ltb (λ _. y ≤ x) x y (λ h. absurd (w.keys_distinct y d x h a e)) (λ h. h))

  -- An id has 32 bytes.
  pub length_id : (r : ℕ) → r ≤ t.counts.rows → 1 ≤ r → length (id_at t r) ≡ 32
  length_id r h k = length_piece t.ids r k (omega (arith, w.ids_held))

  -- The id that comes first has the lower number.
  pub id_order : Bytes t.ids → (x y : ℕ) → 1 ≤ x → x ≤ t.counts.rows → 1 ≤ y → y ≤ t.counts.rows
      → comes_before (id_at t x) (id_at t y) ≡ ltb (id_num (id_at t x)) (id_num (id_at t y))
  id_order p x y a b c d =
      number_order (id_at t x) (id_at t y)
      (length_pieces t.ids t.ids x y a (omega (arith, w.ids_held)) c (omega (arith, w.ids_held)))
      (bytes_piece t.ids x p)
      (bytes_piece t.ids y p)

  -- The number of an id says the row.
  pub id_number : Bytes t.ids → (x y : ℕ) → 1 ≤ x → x ≤ t.counts.rows → 1 ≤ y → y ≤ t.counts.rows
      → id_num (id_at t x) ≡ id_num (id_at t y) → x ≡ y
  id_number p x y a b c d e =
      same_id_lem x y a b c d
      (number_says (id_at t x) (id_at t y)
      (length_pieces t.ids t.ids x y a (omega (arith, w.ids_held)) c (omega (arith, w.ids_held)))
      (bytes_piece t.ids x p)
      (bytes_piece t.ids y p)
      e)

  -- The index of a row is at most its number, so at most the limit.
  pub index_within : (r : ℕ) → r ≤ t.counts.rows → index_of t r ≤ r
  index_within r h = index_below t.rows t.counts.rows w.rows_chained r h

  module _ (r : ℕ) (h : r ≤ t.counts.rows) (k : 1 ≤ r) where
    -- All rules of a row.
    pub row_fits_lem : row_fits t.rows r (deps_of t r) ≡ true
    row_fits_lem =
        both_of _ _ (w.authors_numbered r h k) (both_of _ _ (w.rows_chained r h k) (w.rows_depend r h k))

    -- The previous row is earlier.
    pub prev_older : prev_of t r < r
    prev_older = older t.rows r k (w.rows_chained r h k)

    -- The previous row is none, or of the same author.
    pub prev_own : (prev_of t r ≡ 0) ⊎ (author_of t (prev_of t r) ≡ author_of t r)
    prev_own = own t.rows r (w.rows_chained r h k)

    -- The index is one more than that of the previous row; none counts 0.
    pub index_counted : index_of t r ≡ index_of t (prev_of t r) + 1
    index_counted = counted t.rows r (w.rows_chained r h k)

    -- The dependencies of a row lie within the count.
    pub deps_within : dep_start t r + dep_count_of t r ≤ t.counts.deps
    deps_within = omega (arith, sum_here t.rows r k, sum_grows t.rows r t.counts.rows h, w.deps_sum)

    -- A row has as many dependencies as it says.
    pub length_deps : length (deps_of t r) ≡ dep_count_of t r
    length_deps = length-take-le (dep_count_of t r) (drop (dep_start t r) t.deps) (rw length-drop (omega (arith, deps_within, w.deps_held)))

    -- Its dependencies lie one after the other.
    pub dep_at : (i : ℕ) → i < dep_count_of t r → get_or (deps_of t r) i 0 ≡ get_or t.deps (dep_start t r + i) 0
    dep_at i l = get_or-take (dep_count_of t r) (drop (dep_start t r) t.deps) i 0 l ∙ get_or-drop (dep_start t r) t.deps i 0

    -- Each dependency is an earlier row of another author.
    pub dep_reaches : (i : ℕ) → i < dep_count_of t r → Reaches t.rows r (get_or t.deps (dep_start t r + i) 0)
    dep_reaches i l =
        let p : Reaches t.rows r (get_or (deps_of t r) i 0) =
        depends_reaches t.rows r (deps_of t r) (w.rows_depend r h k) i (rw length_deps l)
        in
        rw (dep_at i l) at p

    -- Two dependencies have two authors.
    pub dep_one : (i j : ℕ) → i < j → j < dep_count_of t r
        → author_of t (get_or t.deps (dep_start t r + j) 0) ≢ author_of t (get_or t.deps (dep_start t r + i) 0)
    dep_one i j m l =
        let p : author_of t (get_or (deps_of t r) j 0) ≢ author_of t (get_or (deps_of t r) i 0) =
        one_at t.rows (deps_of t r) (depends_one t.rows r (deps_of t r) (w.rows_depend r h k)) i j m (rw length_deps l)
        in
        rw (dep_at i (omega arith), dep_at j l) at p

    -- "63 dependencies a message": no row of a well_formed table has more.
    pub deps_few : dep_count_of t r ≤ row_dep_limit
    deps_few =
        let q : length (deps_of t r) + 1 ≤ author_limit =
        fewer_than_authors t.rows r (deps_of t r) (w.rows_depend r h k) author_limit
        (author_held r h k).0
        (omega (arith, (author_held r h k).1, w.authors_limit))
        (λ d a b. ((author_held d (omega arith) a).0, omega (arith, (author_held d (omega arith) a).1, w.authors_limit)))
        in
        omega (arith, length_deps)

-- What the rules of author, previous row and index say of a row, in plain terms and both ways.
-- Assumes nothing.
use Prim.Native.Nat.{ℕ, zero, suc, ◌+◌, ◌-◌, ◌≤◌, ◌<◌}
use mathlib.Core.Path.{◌≡◌, sym, ap, ◌∙◌}
use mathlib.Core.Bool.{Bool, true, false}
use mathlib.Core.List.{List}
use mathlib.Core.Logic.{◌⊎◌, inl, inr, ⊎_elim}
use native.Mathlib.Omega.{arith}
use native.Mathlib.Nat.{eq-or-lt_of_le}
use lib.Dec.{eqb, ltb, leb}
use borrow.Author.Tests.{eq-eqb, eqb-true, lt-ltb, le-ltb, ltb-true, le-leb, leb-true}
use Rattle.basics.specs.Pick.{both, either}
use Rattle.basics.proofs.Tests.{both_left, both_right, both_of, by_ltb, by_leb}
use Rattle.chunks.proofs.Rest.{both_false}
use Rattle.store.specs.Table.{row_at, authors_in, numbered, first, follows, chained}
use Rattle.basics.proofs.Tests.{either_cases, either_first, either_second}
use Rattle.store.proofs.Rows.{SameRows, row_none, authors_agree}

-- A row whose author has appeared before it, or is the next one.
pub record Numbered (rows : List ℕ) (r : ℕ) : Type 0 where
  pub some : 1 ≤ (row_at rows r).author
  pub next : (row_at rows r).author ≤ authors_in rows (r - 1) + 1

-- A row with no previous row.
pub record Begins (rows : List ℕ) (r : ℕ) : Type 0 where
  pub none : (row_at rows r).prev ≡ 0
  pub one : (row_at rows r).index ≡ 1

-- A row with a previous row.
pub record Follows (rows : List ℕ) (r : ℕ) : Type 0 where
  pub some : 1 ≤ (row_at rows r).prev
  pub older : (row_at rows r).prev < r
  pub own : (row_at rows (row_at rows r).prev).author ≡ (row_at rows r).author
  pub counted : (row_at rows r).index ≡ (row_at rows (row_at rows r).prev).index + 1

module _ (rows : List ℕ) (r : ℕ) where
  -- The rule of the author, in plain terms,
  pub numbered_says : numbered rows r ≡ true → Numbered rows r
  unfolding numbered
  numbered_says e =
      record {
        some = leb-true 1 (row_at rows r).author (both_left _ (leb (row_at rows r).author (authors_in rows (r - 1) + 1)) e);
        next = leb-true (row_at rows r).author (authors_in rows (r - 1) + 1) (both_right (leb 1 (row_at rows r).author) _ e);
      }

  -- and back.
  pub numbered_of : Numbered rows r → numbered rows r ≡ true
  unfolding numbered
  numbered_of p = both_of _ _ (le-leb 1 (row_at rows r).author p.some) (le-leb (row_at rows r).author (authors_in rows (r - 1) + 1) p.next)

  -- The rule of previous row and index, in plain terms,
  pub chained_says : chained rows r ≡ true → Begins rows r ⊎ Follows rows r
  unfolding chained
  chained_says e =
      let a : Bool = leb 1 (row_at rows r).prev in
      let b : Bool = ltb (row_at rows r).prev r in
      let c : Bool = eqb (row_at rows (row_at rows r).prev).author (row_at rows r).author in
      let d : Bool = eqb ((row_at rows (row_at rows r).prev).index + 1) (row_at rows r).index in
      ⊎_elim
      (λ p. inl (record {
        none = eqb-true (row_at rows r).prev 0 (both_left _ (eqb (row_at rows r).index 1) p);
        one = eqb-true (row_at rows r).index 1 (both_right (eqb (row_at rows r).prev 0) _ p);
      }))
      (λ p. inr (record {
        some = leb-true 1 (row_at rows r).prev (both_left a b (both_left (both a b) (both c d) p));
        older = ltb-true (row_at rows r).prev r (both_right a b (both_left (both a b) (both c d) p));
        own = eqb-true _ _ (both_left c d (both_right (both a b) (both c d) p));
        counted = sym (eqb-true _ _ (both_right c d (both_right (both a b) (both c d) p)));
      }))
      (either_cases (first (row_at rows r)) (follows rows r (row_at rows r)) e)

  -- and back.
  pub chained_begins : Begins rows r → chained rows r ≡ true
  unfolding chained
  chained_begins p =
      either_first (first (row_at rows r)) (follows rows r (row_at rows r)) (both_of _ _ (eq-eqb _ _ p.none) (eq-eqb _ _ p.one))

  pub chained_follows : Follows rows r → chained rows r ≡ true
  unfolding chained
  chained_follows p =
      either_second (first (row_at rows r)) (follows rows r (row_at rows r))
      (both_of _ _
      (both_of _ _ (le-leb _ _ p.some) (lt-ltb _ _ p.older))
      (both_of _ _ (eq-eqb _ _ p.own) (eq-eqb _ _ (sym p.counted))))

  -- The previous row is earlier.
  pub older : 1 ≤ r → chained rows r ≡ true → (row_at rows r).prev < r
  older h e = ⊎_elim (λ p. omega (arith, p.none)) (λ p. p.older) (chained_says e)

  -- The index is one more than that of the previous row; none counts 0.
  pub counted : chained rows r ≡ true → (row_at rows r).index ≡ (row_at rows (row_at rows r).prev).index + 1
  counted e =
      ⊎_elim
      (λ p. let z : (row_at rows (row_at rows r).prev).index ≡ 0 = rw p.none (ap (λ x. x.index) (row_none rows)) in omega (arith, p.one))
      (λ p. p.counted)
      (chained_says e)

  -- The previous row is none, or one of the same author.
  pub own : chained rows r ≡ true → ((row_at rows r).prev ≡ 0) ⊎ ((row_at rows (row_at rows r).prev).author ≡ (row_at rows r).author)
  own e = ⊎_elim (λ p. inl p.none) (λ p. inr p.own) (chained_says e)

-- The index of a row is at most its number.
pub index_below : (rows : List ℕ) (n : ℕ) → ((r : ℕ) → r ≤ n → 1 ≤ r → chained rows r ≡ true) → (r : ℕ) → r ≤ n → (row_at rows r).index ≤ r
index_below rows zero c r h =
    let z : r ≡ 0 = omega arith in
    rw z (let e : (row_at rows 0).index ≡ 0 = ap (λ x. x.index) (row_none rows) in omega arith)
index_below rows (suc n) c r h =
    ⊎_elim
    (λ e.
    let k : chained rows r ≡ true = c r h (omega arith) in
    let p : (row_at rows r).prev < r = older rows r (omega arith) k in
    let q = index_below rows n (λ x l. c x (omega arith)) (row_at rows r).prev (omega arith) in
    omega (arith, counted rows r k))
    (λ l. index_below rows n (λ x m. c x (omega arith)) r (omega arith))
    (eq-or-lt_of_le h)

-- A row of author `a` among the first `n`.
pub record Appears (rows : List ℕ) (n a : ℕ) : Type 0 where
  pub row : ℕ
  pub some : 1 ≤ row
  pub within : row ≤ n
  pub by : (row_at rows row).author ≡ a

-- Each author number up to the largest has a row: authors are numbered by first appearance.
pub author_appears : (rows : List ℕ) (n : ℕ) → ((r : ℕ) → r ≤ n → 1 ≤ r → numbered rows r ≡ true)
    → (a : ℕ) → 1 ≤ a → a ≤ authors_in rows n → Appears rows n a
unfolding authors_in
author_appears rows zero c a h k = absurd (omega arith)
author_appears rows (suc n) c a h k =
    let p : Numbered rows (suc n) = numbered_says rows (suc n) (c (suc n) (omega arith) (omega arith)) in
    let e : suc n - 1 ≡ n = omega arith in
    let q : (row_at rows (suc n)).author ≤ authors_in rows n + 1 = rw e at p.next in
    by_leb (λ _. Appears rows (suc n) a) a (authors_in rows n)
    (λ l.
    let w : Appears rows n a = author_appears rows n (λ r m. c r (omega arith)) a h l in
    record { row = w.row; some = w.some; within = omega (arith, w.within); by = w.by })
    (λ l. record { row = suc n; some = omega arith; within = omega arith; by = omega arith })

-- The same rows keep the rule of the author together.
pub numbered_agree : (rows others : List ℕ) (r : ℕ) → 1 ≤ r → SameRows rows others r → numbered rows r ≡ numbered others r
unfolding numbered
numbered_agree rows others r h s =
    let e : row_at rows r ≡ row_at others r = s r (omega arith) in
    let f : authors_in rows (r - 1) ≡ authors_in others (r - 1) = authors_agree rows others (r - 1) (λ k l. s k (omega arith)) in
    rw (e, f)

-- A previous row that is not earlier breaks the rule.
late : (rows : List ℕ) (r : ℕ) → r ≤ (row_at rows r).prev → follows rows r (row_at rows r) ≡ false
late rows r h =
    let e : ltb (row_at rows r).prev r ≡ false = le-ltb _ _ h in
    rw (e, both_false (leb 1 (row_at rows r).prev))

-- The same rows keep the rule of previous row and index together.
pub chained_agree : (rows others : List ℕ) (r : ℕ) → SameRows rows others r → chained rows r ≡ chained others r
unfolding chained
chained_agree rows others r s =
    let e : row_at rows r ≡ row_at others r = s r (omega arith) in
    by_ltb (λ _. chained rows r ≡ chained others r) (row_at rows r).prev r
    (λ h. let f : row_at rows (row_at others r).prev ≡ row_at others (row_at others r).prev = s (row_at others r).prev
    (omega (arith, ap (λ x. x.prev) e)) in rw (e, f))
    (λ h.
    let p : chained rows r ≡ either (first (row_at rows r)) false = ap (λ x. either (first (row_at rows r)) x) (late rows r h) in
    let q : chained others r ≡ either (first (row_at others r)) false =
    ap (λ x. either (first (row_at others r)) x) (late others r (omega (arith, ap (λ x. x.prev) e)))
    in
    p ∙ ap (λ x. either (first x) false) e ∙ sym q)

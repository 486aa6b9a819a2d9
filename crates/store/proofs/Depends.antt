-- What the rule of dependencies says of them, in plain terms and both ways, and how many there can be.
-- Assumes nothing.
use Prim.Native.Nat.{ℕ, zero, suc, ◌+◌, ◌≤◌, ◌<◌}
use mathlib.Core.Path.{◌≡◌, refl, ap, ◌∙◌}
use mathlib.Core.Bool.{Bool, true, false, not}
use mathlib.Core.List.{List, [], ◌∷◌, map}
use mathlib.Core.Logic.{◌≢◌}
use native.Mathlib.Omega.{arith}
use lib.ListN.{length, get_or, length-map}
use lib.Dec.{eqb, ltb, leb}
use borrow.Author.Tests.{ne_eqb, eqb-false, lt-ltb, ltb-true, le-leb, leb-true, not-true}
use Rattle.basics.specs.Pick.{both}
use Rattle.basics.proofs.Tests.{both_left, both_right, both_of, by_ltb, by_test}
use Rattle.chunks.proofs.Rest.{both_false}
use Rattle.store.specs.declared.Row.{Row}
use Rattle.store.specs.Table.{row_at, every, reaches, has_author, one_per_author, depends}
use Rattle.basics.proofs.Tests.{neither_first, neither_second}
use Rattle.basics.proofs.Unique.{All, Unique, at_most}
use Rattle.store.proofs.Rows.{SameRows}

-- `d` is an earlier row of another author than row `r`.
pub record Reaches (rows : List ℕ) (r d : ℕ) : Type 0 where
  pub some : 1 ≤ d
  pub earlier : d < r
  pub other : (row_at rows d).author ≢ (row_at rows r).author

-- The author of a row.
abbrev pub author_in : List ℕ → ℕ → ℕ
author_in rows d = (row_at rows d).author

module _ (rows : List ℕ) (r : ℕ) where
  -- The rule of one dependency, in plain terms,
  pub reaches_says : (d : ℕ) → reaches rows r d ≡ true → Reaches rows r d
  reaches_says d e =
      let a : Bool = leb 1 d in
      let b : Bool = ltb d r in
      let c : Bool = not (eqb (author_in rows d) (author_in rows r)) in
      record {
        some = leb-true 1 d (both_left a b (both_left (both a b) c e));
        earlier = ltb-true d r (both_right a b (both_left (both a b) c e));
        other = eqb-false (author_in rows d) (author_in rows r) (not-true (eqb (author_in rows d) (author_in rows r)) (both_right (both a b) c e));
      }

  -- and back.
  pub reaches_of : (d : ℕ) → Reaches rows r d → reaches rows r d ≡ true
  reaches_of d p =
      both_of _ _ (both_of _ _ (le-leb 1 d p.some) (lt-ltb d r p.earlier)) (ap not (ne_eqb (author_in rows d) (author_in rows r) p.other))

-- A test that all pass, passes at each place.
pub every_at : (f : ℕ → Bool) (ds : List ℕ) → every f ds ≡ true → (k : ℕ) → k < length ds → f (get_or ds k 0) ≡ true
unfolding every
every_at f [] e k h = absurd (omega arith)
every_at f (d ∷ ds) e zero h = both_left (f d) (every f ds) e
every_at f (d ∷ ds) e (suc k) h = every_at f ds (both_right (f d) (every f ds) e) k (omega arith)

-- A test that passes at each place, all pass.
pub every_of : (f : ℕ → Bool) (ds : List ℕ) → ((k : ℕ) → k < length ds → f (get_or ds k 0) ≡ true) → every f ds ≡ true
unfolding every
every_of f [] p = refl
every_of f (d ∷ ds) p = both_of (f d) (every f ds) (p zero (omega arith)) (every_of f ds (λ k h. p (suc k) (omega arith)))

-- No author `a` in the list: none of the authors is it.
absent : (rows : List ℕ) (a : ℕ) (ds : List ℕ) → has_author rows a ds ≡ false → All (λ y. y ≢ a) (map (author_in rows) ds)
unfolding has_author
absent rows a [] e = tt
absent rows a (d ∷ ds) e = (
  eqb-false (author_in rows d) a (neither_first (eqb (author_in rows d) a) (has_author rows a ds) e),
  absent rows a ds (neither_second (eqb (author_in rows d) a) (has_author rows a ds) e),
)

-- No author `a` in the list: at no place.
absent_at : (rows : List ℕ) (a : ℕ) (ds : List ℕ) → has_author rows a ds ≡ false → (k : ℕ) → k < length ds → author_in rows (get_or ds k 0) ≢ a
unfolding has_author
absent_at rows a [] e k h = absurd (omega arith)
absent_at rows a (d ∷ ds) e zero h = eqb-false (author_in rows d) a (neither_first (eqb (author_in rows d) a) (has_author rows a ds) e)
absent_at rows a (d ∷ ds) e (suc k) h = absent_at rows a ds (neither_second (eqb (author_in rows d) a) (has_author rows a ds) e) k (omega arith)

-- One per author: two places have two authors.
pub one_at : (rows ds : List ℕ) → one_per_author rows ds ≡ true → (i j : ℕ) → i < j → j < length ds
    → author_in rows (get_or ds j 0) ≢ author_in rows (get_or ds i 0)
unfolding one_per_author
one_at rows [] e i j h l = absurd (omega arith)
one_at rows (d ∷ ds) e i zero h l = absurd (omega arith)
one_at rows (d ∷ ds) e zero (suc j) h l =
    absent_at rows (author_in rows d) ds (not-true _ (both_left (not (has_author rows (author_in rows d) ds)) (one_per_author rows ds) e)) j (omega arith)
one_at rows (d ∷ ds) e (suc i) (suc j) h l =
    one_at rows ds (both_right (not (has_author rows (author_in rows d) ds)) (one_per_author rows ds) e) i j (omega arith) (omega arith)

-- One per author: no author stands twice.
pub one_unique : (rows ds : List ℕ) → one_per_author rows ds ≡ true → Unique (map (author_in rows) ds)
unfolding one_per_author
one_unique rows [] e = tt
one_unique rows (d ∷ ds) e = (
  absent rows (author_in rows d) ds (not-true _ (both_left (not (has_author rows (author_in rows d) ds)) (one_per_author rows ds) e)),
  one_unique rows ds (both_right (not (has_author rows (author_in rows d) ds)) (one_per_author rows ds) e),
)

-- What each dependency's author is known to be, each of the authors is.
all_authors : (rows : List ℕ) (P : ℕ → Type 0) (ds : List ℕ) → ((k : ℕ) → k < length ds → P (author_in rows (get_or ds k 0)))
    → All P (map (author_in rows) ds)
all_authors rows P [] p = tt
all_authors rows P (d ∷ ds) p = (p zero (omega arith), all_authors rows P ds (λ k h. p (suc k) (omega arith)))

module _ (rows : List ℕ) (r : ℕ) (ds : List ℕ) (e : depends rows r ds ≡ true) where
  -- Each dependency is an earlier row of another author.
  pub depends_reaches : (k : ℕ) → k < length ds → Reaches rows r (get_or ds k 0)
  unfolding depends
  depends_reaches k h =
      reaches_says rows r (get_or ds k 0) (every_at (reaches rows r) ds (both_left (every (reaches rows r) ds) (one_per_author rows ds) e) k h)

  -- There is at most one per author.
  pub depends_one : one_per_author rows ds ≡ true
  unfolding depends
  depends_one = both_right (every (reaches rows r) ds) (one_per_author rows ds) e

  -- Dependencies of other authors, at most one per author, are fewer than the authors.
  pub fewer_than_authors : (m : ℕ) → 1 ≤ author_in rows r → author_in rows r ≤ m
      → ((d : ℕ) → 1 ≤ d → d < r → (1 ≤ author_in rows d) × (author_in rows d ≤ m)) → length ds + 1 ≤ m
  fewer_than_authors m h k p =
      let others : All (λ y. y ≢ author_in rows r) (map (author_in rows) ds) =
      all_authors rows (λ y. y ≢ author_in rows r) ds (λ i l. (depends_reaches i l).other)
      in
      let within : All (λ y. (1 ≤ y) × (y ≤ m)) (map (author_in rows) ds) =
      all_authors rows (λ y. (1 ≤ y) × (y ≤ m)) ds (λ i l. p (get_or ds i 0) (depends_reaches i l).some (depends_reaches i l).earlier)
      in
      let q : length (author_in rows r ∷ map (author_in rows) ds) ≤ m =
      at_most m (author_in rows r ∷ map (author_in rows) ds) (others, one_unique rows ds depends_one) ((h, k), within)
      in
      omega (arith, length-map ds (author_in rows))

-- The rule of dependencies from its parts.
pub depends_of : (rows : List ℕ) (r : ℕ) (ds : List ℕ) → ((k : ℕ) → k < length ds → Reaches rows r (get_or ds k 0)) → one_per_author rows ds ≡ true
    → depends rows r ds ≡ true
unfolding depends
depends_of rows r ds p e = both_of _ _ (every_of (reaches rows r) ds (λ k h. reaches_of rows r (get_or ds k 0) (p k h))) e

module _ (rows others : List ℕ) (r : ℕ) (s : SameRows rows others r) where
  -- The same rows keep the rule of one dependency together.
  reaches_agree : (d : ℕ) → reaches rows r d ≡ reaches others r d
  reaches_agree d =
      by_ltb (λ t. both (both (leb 1 d) t) (not (eqb (author_in rows d) (author_in rows r))) ≡ both (both (leb 1 d) t)
      (not (eqb (author_in others d) (author_in others r)))) d r
      (λ h.
      let e : author_in rows d ≡ author_in others d = ap (λ (x : Row). x.author) (s d (omega arith)) in
      let f : author_in rows r ≡ author_in others r = ap (λ (x : Row). x.author) (s r (omega arith)) in
      ap (λ (t : Bool). both (both (leb 1 d) true) (not t)) (ap (λ (a : ℕ). eqb a (author_in rows r)) e ∙ ap (λ (a : ℕ). eqb (author_in others d) a) f))
      (λ h. rw (both_false (leb 1 d)))

  every_agree : (ds : List ℕ) → every (reaches rows r) ds ≡ every (reaches others r) ds
  unfolding every
  every_agree [] = refl
  every_agree (d ∷ ds) = rw (reaches_agree d, every_agree ds)

  has_agree : (a : ℕ) (ds : List ℕ) → every (reaches rows r) ds ≡ true → has_author rows a ds ≡ has_author others a ds
  unfolding every has_author
  has_agree a [] e = refl
  has_agree a (d ∷ ds) e =
      let p : Reaches rows r d = reaches_says rows r d (both_left (reaches rows r d) (every (reaches rows r) ds) e) in
      let q : row_at rows d ≡ row_at others d = s d (omega (arith, p.earlier)) in
      rw (q, has_agree a ds (both_right (reaches rows r d) (every (reaches rows r) ds) e))

  one_agree : (ds : List ℕ) → every (reaches rows r) ds ≡ true → one_per_author rows ds ≡ one_per_author others ds
  unfolding every one_per_author
  one_agree [] e = refl
  one_agree (d ∷ ds) e =
      let p : Reaches rows r d = reaches_says rows r d (both_left (reaches rows r d) (every (reaches rows r) ds) e) in
      let q : row_at rows d ≡ row_at others d = s d (omega (arith, p.earlier)) in
      let f : every (reaches rows r) ds ≡ true = both_right (reaches rows r d) (every (reaches rows r) ds) e in
      rw (q, has_agree (author_in others d) ds f, one_agree ds f)

  -- The same rows keep the rule of dependencies together.
  pub depends_agree : (ds : List ℕ) → depends rows r ds ≡ depends others r ds
  unfolding depends
  depends_agree ds =
      by_test (λ t. every (reaches rows r) ds ≡ t → both t (one_per_author rows ds) ≡ both t (one_per_author others ds)) (every (reaches rows r) ds)
      (λ e _. one_agree ds e) (λ e _. refl) refl
      ∙ ap (λ t. both t (one_per_author others ds)) (every_agree ds)

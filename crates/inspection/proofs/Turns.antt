-- What the loops and the searches that decide the clauses say: of all rows passed, of all places, of all of a list.
-- Assumes nothing.
use Prim.Native.Nat.{ℕ, ◌+◌, ◌-◌, ◌≤◌, ◌<◌}
use mathlib.Core.Path.{◌≡◌, refl, sym, ap, subst, ◌∙◌}
use mathlib.Core.Bool.{Bool, true, false, ◌&&◌}
use Rattle.std.specs.Bool.{MatchBool}
use Rattle.std.specs.List.{list_all, range_with_len, AllWithin, HoldsAt}
use Rattle.std.proofs.lemmas.List.FromFn.{length-range_with_len, get_or-range_with_len}
use Rattle.basics.proofs.Tests.{not_both_ways}
use Rattle.basics.specs.Decides.{Decides}
use mathlib.Core.List.{List, [], ◌∷◌}
use mathlib.Core.Logic.{◌≢◌, ⊎_elim}
use native.Mathlib.Omega.{arith}
use native.Mathlib.Nat.{eq-or-lt_of_le}
use lib.ListN.{length, take, drop, get_or}
use lib.Dec.{eqb, ltb, leb}
use borrow.Author.Tests.{eq-eqb, ne_eqb, lt-ltb, le-ltb, le-leb}
use Rattle.basics.specs.Pick.{both, either}
use Rattle.chunks.proofs.Rest.{both_false}
use Rattle.store.specs.declared.Row.{Row}
use Rattle.store.specs.Table.{row_at, dep_sum, deps_in, authors_in, numbered, follows, chained, every, reaches, one_per_author, depends}
use Rattle.store.proofs.Rows.{sum_more, sum_grows}
use Rattle.store.proofs.Links.{numbered_of}

-- Both tests, in the words of the library.
both_and : (p q : Bool) → both p q ≡ (p && q)
both_and true q = refl
both_and false q = refl

-- All of a list pass a test, as a search of the list tests it.
pub every_all : (f : ℕ → Bool) (ds : List ℕ) → every f ds ≡ list_all f ds
unfolding every
every_all f [] = refl
every_all f (d ∷ ds) = rw (every_all f ds) (both_and (f d) (list_all f ds))

-- The number at each place of those below `n`.
place_below : (n k : ℕ) → k < n → get_or (range_with_len 0 n) k 0 ≡ k
place_below n k l = omega (arith, get_or-range_with_len 0 n k 0 l)

-- What `all` says over the numbers below `n`.
pub all_below : (n : ℕ) (P No : ℕ → Type 0) → ((k : ℕ) → P k → No k → ⊥) → (r : Bool)
    → MatchBool r (AllWithin P (range_with_len 0 n) 0 (length (range_with_len 0 n)))
    ((k : ℕ) × (k < length (range_with_len 0 n)) × HoldsAt No (range_with_len 0 n) k)
    → Decides ((k : ℕ) → k < n → P k) r
all_below n P No x true h =
    record {
      yes = λ _ k l. subst P (place_below n k l) (h k 0 (omega arith) (rw (length-range_with_len 0 n) l));
      no = λ t w. not_both_ways true refl t;
    }
all_below n P No x false h =
    let l : h.0 < n = rw (length-range_with_len 0 n) at h.1 in
    record {
      yes = λ t. absurd (not_both_ways true refl (sym t));
      no = λ _ w. x h.0 (w h.0 l) (subst No (place_below n h.0 l) (h.2 0));
    }

-- Of rows, which are numbered from 1.
pub rows_below : (P : ℕ → Type 0) (n : ℕ) (b : Bool) → Decides ((k : ℕ) → k < n → P (k + 1)) b → Decides ((r : ℕ) → r ≤ n → 1 ≤ r → P r) b
rows_below P n b d =
    record {
      yes = λ t r h k. let e : r - 1 + 1 ≡ r = omega arith in rw e at (d.yes t (r - 1) (omega arith));
      no = λ t w. d.no t (λ k l. w (k + 1) (omega arith) (omega arith));
    }

-- A test or no is the test.
either_false : (p : Bool) → either p false ≡ p
either_false true = refl
either_false false = refl

module _ (rows : List ℕ) (r : ℕ) (row : Row) (e : row ≡ row_at rows r) where
  -- With no previous row the index decides.
  pub chained_first : row.prev ≡ 0 → chained rows r ≡ eqb row.index 1
  unfolding chained
  chained_first z = rw (← e, z) (either_false (eqb row.index 1))

  module _ (n : row.prev ≢ 0) where
    -- With a previous row all hangs on it.
    follows_all : chained rows r ≡ follows rows r row
    unfolding chained
    follows_all = let f : eqb row.prev 0 ≡ false = ne_eqb row.prev 0 n in rw (← e, f)

    -- One that is not earlier breaks the rule.
    pub chained_late : r ≤ row.prev → chained rows r ≡ false
    chained_late h =
        let f : ltb row.prev r ≡ false = le-ltb row.prev r h in
        follows_all ∙ rw (f, both_false (leb 1 row.prev))

    module _ (prev : Row) (g : prev ≡ row_at rows row.prev) (h : row.prev < r) where
      -- Of an earlier one, author and index decide.
      follows_rest : chained rows r ≡ both (eqb prev.author row.author) (eqb (prev.index + 1) row.index)
      follows_rest =
          let f : ltb row.prev r ≡ true = lt-ltb row.prev r h in
          let k : leb 1 row.prev ≡ true = le-leb 1 row.prev (omega arith) in
          follows_all ∙ rw (f, k, g)

      -- Another author breaks the rule.
      pub chained_other : prev.author ≢ row.author → chained rows r ≡ false
      chained_other d = follows_rest ∙ rw (ne_eqb prev.author row.author d)

      -- With the same author the index decides.
      pub chained_own : prev.author ≡ row.author → chained rows r ≡ eqb (prev.index + 1) row.index
      chained_own d = follows_rest ∙ rw (eq-eqb prev.author row.author d)

-- What holds of all rows passed, and of the next, holds of all up to it.
pub up_to_more : (P : ℕ → Type 0) (n : ℕ) → ((r : ℕ) → r ≤ n → 1 ≤ r → P r) → P (n + 1) → (r : ℕ) → r ≤ n + 1 → 1 ≤ r → P r
up_to_more P n p q r h k = ⊎_elim (λ e. rw e q) (λ l. p r (omega arith) k) (eq-or-lt_of_le h)

-- A sum that goes over the total stays over it.
pub sum_over : (rows : List ℕ) (n i total : ℕ) (row : Row) → row ≡ row_at rows (i + 1) → i < n
    → dep_sum rows i ≤ total → total - dep_sum rows i < row.deps → eqb (dep_sum rows n) total ≡ false
sum_over rows n i total row e h k l =
    let s : dep_sum rows (i + 1) ≡ dep_sum rows i + row.deps = rw e (sum_more rows i) in
    let g : dep_sum rows (i + 1) ≤ dep_sum rows n = sum_grows rows (i + 1) n (omega arith) in
    ne_eqb (dep_sum rows n) total (λ z. omega arith)

-- A row whose author has appeared, or is the next, keeps the rule.
pub numbered_here : (rows : List ℕ) (i : ℕ) (row : Row) → row ≡ row_at rows (i + 1) → row.author ≢ 0 → row.author ≤ authors_in rows i + 1
    → numbered rows (i + 1) ≡ true
numbered_here rows i row e n h =
    let f : i + 1 - 1 ≡ i = omega arith in
    let a : row.author ≡ (row_at rows (i + 1)).author = ap (λ (x : Row). x.author) e in
    numbered_of rows (i + 1) (record { some = omega arith; next = rw f (omega arith) })

module _ (rows : List ℕ) (r : ℕ) (ds : List ℕ) where
  -- One that is no earlier row of another author breaks the rule.
  pub depends_fails : every (reaches rows r) ds ≡ false → depends rows r ds ≡ false
  unfolding depends
  depends_fails e = rw e

  -- Where all are, one per author decides.
  pub depends_rest : every (reaches rows r) ds ≡ true → depends rows r ds ≡ one_per_author rows ds
  unfolding depends
  depends_rest e = rw e

module _ (rows : List ℕ) (i start : ℕ) (row : Row) (e : start ≡ dep_sum rows i) (f : row ≡ row_at rows (i + 1)) where
  -- The dependencies of the next row lie within what those of all rows take.
  pub part_within : (n m : ℕ) → i < n → dep_sum rows n ≤ m → start + row.deps ≤ m
  part_within n m h k =
      let d : row.deps ≡ (row_at rows (i + 1)).deps = ap (λ (x : Row). x.deps) f in
      omega (arith, sum_more rows i, sum_grows rows (i + 1) n (omega arith))

  -- The part that the code takes is the dependencies of the next row.
  pub part_deps : (deps : List ℕ) → take (start + row.deps - start) (drop start deps) ≡ deps_in rows deps (i + 1)
  part_deps deps =
      let d : row.deps ≡ (row_at rows (i + 1)).deps = ap (λ (x : Row). x.deps) f in
      let z : i + 1 - 1 ≡ i = omega arith in
      let y : start + row.deps - start ≡ row.deps = omega arith in
      rw (y, z, ← e) (ap (λ (k : ℕ). take k (drop start deps)) d)

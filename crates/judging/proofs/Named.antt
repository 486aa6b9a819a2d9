-- The rows that a message's dependencies name.
-- Assumes nothing.
use Prim.Native.Nat.{ℕ, zero, suc, ◌+◌, ◌≤◌, ◌<◌}
use mathlib.Core.Path.{◌≡◌, refl, sym, ap, subst, ◌∙◌}
use mathlib.Core.Bool.{true, false}
use mathlib.Core.List.{List, []}
use mathlib.Core.Logic.{◌≢◌, ⊎_elim}
use native.Mathlib.Nat.{eq-or-lt_of_le}
use native.Mathlib.Omega.{arith}
use native.Mathlib.Numerals.{add-one}
use lib.ListN.{length, take, get_or, set, replicate, length-append, get_or-append}
use lib.Seq.{get_or_at, take-suc-set, get_or-set_other}
use borrow.Author.Tests.{eqb-false, ne_eqb}
use Rattle.item.specs.Offsets.{count_limit}
use Rattle.chunks.specs.Lookup.{place_of}
use Rattle.chunks.proofs.Finding.{place_some}
use Rattle.item.specs.Layout.{dependency_of}
use Rattle.item.specs.declared.Fields.{Fields}
use Rattle.basics.proofs.Tests.{neither_first, neither_second, not_both_ways}
use Rattle.judging.specs.Message.{lacks, named}
use Rattle.judging.specs.Named.{Names, rows_answered}
use Rattle.std.specs.Prelude.{Result, Ok, Err, is_ok}

-- Each place of a blank array, and each past it, has 0.
pub zeros_at : (n i : ℕ) → get_or (replicate {A = ℕ} n 0) i 0 ≡ 0
zeros_at zero i = refl
zeros_at (suc n) zero = refl
zeros_at (suc n) (suc i) = zeros_at n i

module _ (ids : List ℕ) (m : ℕ) (s : List ℕ) (f : Fields) where
  -- As many rows as dependencies.
  pub named_length : (n : ℕ) → length (named ids m s f n) ≡ n
  unfolding named
  named_length zero = refl
  named_length (suc n) = simp length-append (omega (arith, named_length n))

  -- Each place has the row of its dependency.
  pub named_at : (n k : ℕ) → k < n → get_or (named ids m s f n) k 0 ≡ place_of ids m (dependency_of f k s)
  unfolding named
  named_at zero k h = absurd (omega arith)
  named_at (suc n) k h =
      ⊎_elim
      (λ (q : k ≡ n). rw q (get_or_at (named ids m s f n) _ [] 0 n (named_length n)))
      (λ (q : k < n). get_or-append (named ids m s f n) _ 0 k (rw (named_length n) q) ∙ named_at n k q)
      (eq-or-lt_of_le (omega arith))

  -- Where none lacks, each dependency is found.
  pub each_found : (n k : ℕ) → lacks ids m s f n ≡ false → k < n → place_of ids m (dependency_of f k s) ≢ 0
  unfolding lacks
  each_found zero k e h = absurd (omega arith)
  each_found (suc n) k e h =
      ⊎_elim
      (λ (q : k ≡ n). rw q (eqb-false _ _ (neither_second (lacks ids m s f n) _ e)))
      (λ (q : k < n). each_found n k (neither_first _ _ e) q)
      (eq-or-lt_of_le (omega arith))

  -- Where none lacks, the rows are rows of the store.
  pub named_held : (n k : ℕ) → lacks ids m s f n ≡ false → k < n → (1 ≤ get_or (named ids m s f n) k 0) × (get_or (named ids m s f n) k 0 ≤ m)
  named_held n k e h =
      let p = place_some ids (dependency_of f k s) m (each_found n k e h) in
      rw (named_at n k h) (p.some, p.within)

  -- One dependency more that is found.
  pub lacks_more : (k : ℕ) → lacks ids m s f k ≡ false → place_of ids m (dependency_of f k s) ≢ 0 → lacks ids m s f (k + 1) ≡ false
  unfolding lacks
  lacks_more k e h = rw (add-one, e, ne_eqb _ _ h)

  -- One dependency that lacks is one that lacks among more.
  lacks_on : (k n : ℕ) → k ≤ n → lacks ids m s f k ≡ true → lacks ids m s f n ≡ true
  unfolding lacks
  lacks_on k zero h e = let z : k ≡ 0 = omega arith in rw z at e
  lacks_on k (suc n) h e =
      ⊎_elim
      (λ (q : k ≡ suc n). rw q at e)
      (λ (q : k < suc n). rw (lacks_on k n (omega arith) e))
      (eq-or-lt_of_le h)

  -- A dependency that is missing ends the search.
  lacks_end : (k n : ℕ) → k < n → lacks ids m s f k ≡ false → place_of ids m (dependency_of f k s) ≡ 0 → lacks ids m s f n ≡ true
  unfolding lacks
  lacks_end k n h e z = lacks_on (suc k) n h (rw (e, z))

  -- One row more is written.
  pub named_more : (k : ℕ) (rows : List ℕ) (r : ℕ) → k < length rows → take k rows ≡ named ids m s f k → r ≡ place_of ids m (dependency_of f k s)
      → take (k + 1) (set rows k r) ≡ named ids m s f (k + 1)
  unfolding named
  named_more k rows r h e g = rw (add-one, take-suc-set rows k r h, e, g)

  -- The rest of the array stays 0 where one row more is written.
  pub rest_more : (k : ℕ) (rows : List ℕ) (r : ℕ) → ((i : ℕ) → k ≤ i → get_or rows i 0 ≡ 0) → (i : ℕ) → k + 1 ≤ i → get_or (set rows k r) i 0 ≡ 0
  rest_more k rows r z i h = get_or-set_other rows k i r 0 (λ q. omega arith) ∙ z i (omega arith)

  -- An answer that is one is not the other.
  apart : (rows other : List ℕ) → ◌≡◌ {A = Result (List ℕ) (List ℕ)} (Ok rows) (Err other) → ⊥
  apart rows other e = not_both_ways (is_ok {T = List ℕ} {E = List ℕ} (Ok rows)) refl (ap (is_ok {T = List ℕ} {E = List ℕ}) e)

  -- The answer where a dependency is missing.
  pub names_not : (rows : List ℕ) (k : ℕ) → length rows ≡ count_limit → k < f.count → lacks ids m s f k ≡ false → place_of ids m (dependency_of f k s) ≡ 0
      → take k rows ≡ named ids m s f k → ((i : ℕ) → k ≤ i → get_or rows i 0 ≡ 0) → Names ids m s f (Err rows)
  names_not rows k l h e o g z =
      record {
        sized = l;
        held = λ other q. absurd (apart other rows (sym q));
        missing = λ other q. lacks_end k f.count h e o;
        found = k;
        found_each = e;
        found_all = λ other q. absurd (apart other rows (sym q));
        found_end = λ other q. (h, o);
        rows_are = g;
        rest_zero = z;
      }

  -- The answer where none is.
  pub names_all : (rows : List ℕ) → length rows ≡ count_limit → lacks ids m s f f.count ≡ false → take f.count rows ≡ named ids m s f f.count
      → ((i : ℕ) → f.count ≤ i → get_or rows i 0 ≡ 0) → Names ids m s f (Ok rows)
  names_all rows l e g z =
      record {
        sized = l;
        held = λ other q. e;
        missing = λ other q. absurd (apart rows other q);
        found = f.count;
        found_each = e;
        found_all = λ other q. refl;
        found_end = λ other q. absurd (apart rows other q);
        rows_are = g;
        rest_zero = z;
      }

  module _ (r : Result (List ℕ) (List ℕ)) (h : Names ids m s f r) (rows : List ℕ) (e : r ≡ Ok rows) where
    -- Where all are found, the array has its places,
    pub names_sized : length rows ≡ count_limit
    names_sized = subst (λ (x : Result (List ℕ) (List ℕ)). length (rows_answered x) ≡ count_limit) e h.sized

    -- and its first numbers are their rows.
    pub names_rows : take f.count rows ≡ named ids m s f f.count
    names_rows =
        let g = rw (h.found_all rows e) at h.rows_are in
        subst (λ (x : Result (List ℕ) (List ℕ)). take f.count (rows_answered x) ≡ named ids m s f f.count) e g

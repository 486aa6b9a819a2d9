-- The lowest id so far, and one row more.
-- Assumes nothing.
use Prim.Native.Nat.{ℕ, ◌+◌, ◌≤◌}
use mathlib.Core.Path.{◌≡◌, refl, sym, ap, subst, ◌∙◌}
use mathlib.Core.Bool.{Bool, true, false}
use mathlib.Core.List.{List}
use mathlib.Core.Logic.{◌⊎◌, inl, inr, ⊎_elim, ◌≢◌}
use native.Mathlib.Omega.{arith}
use native.Mathlib.Nat.{eq-or-lt_of_le}
use lib.ListN.{length, get_or}
use Rattle.basics.proofs.Tests.{by_eqb}
use Rattle.chunks.specs.Bytes.{comes_before}
use Rattle.chunks.specs.Piece.{piece_at}
use Rattle.review.specs.Children.{BestSoFar, MayCompare}
use Rattle.review.proofs.Order.{before_then, one_before}

-- Nothing so far.
pub best_none : (ids kids : List ℕ) → BestSoFar ids kids 0 0 × (0 ≤ 0)
best_none ids kids = (record { none = λ e q h k. absurd (omega arith); found = λ d. absurd (d refl) }, omega arith)

-- The next row or an earlier one.
next_or : (q k : ℕ) → q ≤ k + 1 → (q ≡ k + 1) ⊎ (q ≤ k)
next_or q k h = ⊎_elim inl (λ g. inr (omega arith)) (eq-or-lt_of_le h)

module _ (ids kids : List ℕ) (k best : ℕ) (b : BestSoFar ids kids k best) (low : best ≤ k) where
  -- The next row has no child.
  pub best_skip : get_or kids (k + 1) 0 ≡ 0 → BestSoFar ids kids (k + 1) best × (best ≤ k + 1)
  best_skip z = (
    record {
      none = λ e q h i. ⊎_elim (λ j. ap (λ (x : ℕ). get_or kids x 0) j ∙ z) (λ j. b.none e q j i) (next_or q k h);
      found = λ d.
          let l = b.found d in
          let g = l.held in
          record {
            some = l.some;
            held = omega arith;
            kid = l.kid;
            lowest = λ q h i f n. ⊎_elim (λ j. absurd (f (ap (λ (x : ℕ). get_or kids x 0) j ∙ z))) (λ j. l.lowest q j i f n) (next_or q k h);
          };
    },
    omega arith,
  )

  -- It is the first with one.
  pub best_first : get_or kids (k + 1) 0 ≢ 0 → best ≡ 0 → BestSoFar ids kids (k + 1) (k + 1) × (k + 1 ≤ k + 1)
  best_first z e = (
    record {
      none = λ f. absurd (omega arith);
      found = λ d.
          record {
            some = omega arith;
            held = omega arith;
            kid = z;
            lowest = λ q h i f n. ⊎_elim (λ j. absurd (n j)) (λ j. absurd (f (b.none e q j i))) (next_or q k h);
          };
    },
    omega arith,
  )

  -- Its id is lower.
  pub best_lower : get_or kids (k + 1) 0 ≢ 0 → best ≢ 0 → comes_before (piece_at ids (k + 1)) (piece_at ids best) ≡ true
      → BestSoFar ids kids (k + 1) (k + 1) × (k + 1 ≤ k + 1)
  best_lower z e t = (
    record {
      none = λ f. absurd (omega arith);
      found = λ d.
          record {
            some = omega arith;
            held = omega arith;
            kid = z;
            lowest = λ q h i f n.
                ⊎_elim (λ j. absurd (n j))
                (λ j. lower q j i f) (next_or q k h);
          };
    },
    omega arith,
  )
    where
      lower : (q : ℕ) → q ≤ k → 1 ≤ q → get_or kids q 0 ≢ 0 → comes_before (piece_at ids (k + 1)) (piece_at ids q) ≡ true
      lower q h i f =
          by_eqb (λ (x : Bool). comes_before (piece_at ids (k + 1)) (piece_at ids q) ≡ true) q best
          (λ j. subst (λ (y : ℕ). comes_before (piece_at ids (k + 1)) (piece_at ids y) ≡ true) (sym j) t)
          (λ j. before_then (piece_at ids (k + 1)) (piece_at ids best) (piece_at ids q) t ((b.found e).lowest q h i f j))

  -- Its id is not lower.
  pub best_stays : MayCompare ids kids (k + 1) → get_or kids (k + 1) 0 ≢ 0 → best ≢ 0 → comes_before (piece_at ids (k + 1)) (piece_at ids best) ≡ false
      → BestSoFar ids kids (k + 1) best × (best ≤ k + 1)
  best_stays m z e t =
      let l = b.found e in
      let g = l.held in
      let s = l.some in
      let apart : piece_at ids (k + 1) ≢ piece_at ids best = λ i. m.distinct (k + 1) (omega arith) best (omega arith) s (sym i) in
      let higher = one_before (piece_at ids (k + 1)) (piece_at ids best) apart t in (
        record {
          none = λ f. absurd (e f);
          found = λ d.
              record {
                some = s;
                held = omega arith;
                kid = l.kid;
                lowest = λ q h i f n.
                    ⊎_elim (λ j. subst (λ (y : ℕ). comes_before (piece_at ids best) (piece_at ids y) ≡ true) (sym j) higher)
                    (λ j. l.lowest q j i f n) (next_or q k h);
              };
        },
        omega arith,
      )

-- What may be compared up to a row may be up to an earlier one.
pub compare_less : (ids kids : List ℕ) (n m : ℕ) → m ≤ n → MayCompare ids kids n → MayCompare ids kids m
compare_less ids kids n m h c =
    let t = c.table in
    let l = c.held in
    record { table = omega arith; held = omega arith; distinct = λ j i. c.distinct j (omega arith) }

-- A table of the same length serves as well.
pub compare_same : (ids kids kids' : List ℕ) (n : ℕ) → length kids' ≡ length kids → MayCompare ids kids n → MayCompare ids kids' n
compare_same ids kids kids' n e c = record { table = omega (arith, e, c.table); held = c.held; distinct = c.distinct }

-- What `all` says of the numbers below a bound.
-- Assumes nothing.
use Rattle.std.proofs.Common.{◌≡◌, ℕ, ◌+◌, ◌<◌, Bool, true, false, length, slice_index_or, MatchBool, arith, sym, subst, ◌∙◌}
use Rattle.std.specs.List.{HoldsAt, AllWithin, range_with_len}
use Rattle.std.proofs.lemmas.List.FromFn.{length-range_with_len, get_or-range_with_len}
use Rattle.basics.specs.Decides.{Decides}
use Rattle.basics.proofs.Decisions.{decided_yes, decided_no}

module _ (P : ℕ → Type 0) (n : ℕ) where
  -- The number at each place below the bound is the place.
  at_place : (i : ℕ) → i < n → slice_index_or (range_with_len 0 n) i 0 ≡ i
  at_place i b = let e : 0 + i ≡ i = omega arith in get_or-range_with_len 0 n i 0 b ∙ e

  -- Each number passes, or some number does not: so `all` decides.
  pub decides_each : (r : Bool) → MatchBool r (AllWithin P (range_with_len 0 n) 0 (length (range_with_len 0 n))) ((k : ℕ) × (k < length (range_with_len 0 n)) × HoldsAt (λ i. P i → ⊥) (range_with_len 0 n) k)
      → Decides ((i : ℕ) → i < n → P i) r
  decides_each true h = decided_yes (λ i b. subst P (at_place i b) (h i 0 (omega arith) (omega (arith, length-range_with_len 0 n))))
  decides_each false h = decided_no (λ v. let m : h.0 < n = omega (arith, h.1, length-range_with_len 0 n) in h.2 0 (subst P (sym (at_place h.0 m)) (v h.0 m)))

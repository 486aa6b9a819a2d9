-- What `all` says of the numbers below a bound.
-- Assumes nothing.
use Rattle.std.proofs.Common.{◌≡◌, ℕ, ◌+◌, ◌<◌, List, Option, Bool, true, false, length, slice_index_or, MatchBool, arith, sym, subst, ◌∙◌}
use Rattle.std.specs.List.{HoldsAt, AllWithin, range_with_len}
use Rattle.std.proofs.lemmas.List.FromFn.{length-range_with_len, get_or-range_with_len}
use Rattle.std.proofs.iter.Yields.{nat_range_steps}
use Rattle.std.proofs.lemmas.Iterator.{cases_from_all, YieldsList-from_range}
use Rattle.std.specs.Fn.{Called}
use Rattle.std.specs.Iterator.{YieldsThen}
use Rattle.std.specs.List.{FoldsTo}
use Rattle.std.specs.Option.{MatchOption}
use Rattle.std.specs.declared.ops.Range.{Range}
use denote.Param.Members.{Mut}
use Rattle.basics.specs.Decides.{Decides}
use Rattle.basics.proofs.Decisions.{decided_yes, decided_no}

module _ (P : ℕ → Type 0) (n : ℕ) where
  -- The number at each place below the bound is the place.
  at_place : (i : ℕ) → i < n → slice_index_or (range_with_len 0 n) i 0 ≡ i
  at_place i b = let e : 0 + i ≡ i = omega arith in get_or-range_with_len 0 n i 0 b ∙ e

  -- Each number passes, or some number does not: so `all` decides.
  decides_each : (r : Bool) → MatchBool r (AllWithin P (range_with_len 0 n) 0 (length (range_with_len 0 n))) ((k : ℕ) × (k < length (range_with_len 0 n)) × HoldsAt (λ i. P i → ⊥) (range_with_len 0 n) k)
      → Decides ((i : ℕ) → i < n → P i) r
  decides_each true h = decided_yes (λ i b. subst P (at_place i b) (h i 0 (omega arith) (omega (arith, length-range_with_len 0 n))))
  decides_each false h = decided_no (λ v. let m : h.0 < n = omega (arith, h.1, length-range_with_len 0 n) in h.2 0 (subst P (sym (at_place h.0 m)) (v h.0 m)))

  -- A test that decides P, asked by `all` of each number below the bound.
  pub all_below : {F : Type 0} {g : Mut F (ℕ × Unit {0}) Bool} {s : Range ℕ} (u : Range ℕ) (f : F) (r : Bool)
      → (xs : List ℕ) × (o : Option ℕ) × (j : F) × YieldsThen nat_range_steps s xs o u × FoldsTo (λ p x q. Called g p (x, tt) true q) f xs j
      × MatchOption o (r ≡ true) (λ x. (r ≡ false) × ((h : F) × Called g j (x, tt) false h))
      → s ≡ record { start = 0; end = n }
      → ((x : ℕ) (q : F) → Called g f (x, tt) true q → (q ≡ f) × P x)
      → ((x : ℕ) (q : F) → Called g f (x, tt) false q → P x → ⊥)
      → Decides ((i : ℕ) → i < n → P i) r
  all_below u f r d e passes fails = decides_each r (cases_from_all u f r P (λ i. P i → ⊥) d (YieldsList-from_range 0 n n e (omega arith)) passes fails)

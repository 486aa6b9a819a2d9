-- What an answer of a lookup says of the number that it found.
-- Assumes nothing.
use Rattle.std.specs.Prelude.{Option, Some, None}
use Rattle.std.specs.Option.{unwrap_or}
use Prim.Native.Nat.{ℕ, ◌≤◌}
use mathlib.Core.Path.{◌≡◌, sym, ap, ◌∙◌}
use mathlib.Core.List.{List}
use mathlib.Core.Logic.{◌≢◌}
use native.Mathlib.Omega.{arith}
use Rattle.basics.specs.Pick.{pick}
use Rattle.basics.proofs.Tests.{by_eqb}
use Rattle.chunks.specs.Lookup.{place_of, found_of}
use Rattle.chunks.proofs.Finding.{place_some, at_first}

-- Nothing found: the number is 0.
pub missing_none : (q : ℕ) → None ≡ found_of q → q ≡ 0
missing_none q =
    by_eqb (λ b. None ≡ pick b None (Some q) → q ≡ 0) q 0
    (λ z e. z)
    (λ z e. let o : ◌≡◌ {A = ℕ} 0 1 = cc in absurd (omega arith))

-- A number found is the number.
pub found_number : (q a : ℕ) → Some a ≡ found_of q → q ≡ a
found_number q a =
    by_eqb (λ b. Some a ≡ pick b None (Some q) → q ≡ a) q 0
    (λ z e. let o : ◌≡◌ {A = ℕ} 0 1 = cc in absurd (omega arith))
    (λ z e. cc)

-- A number found is not 0.
pub found_some : (q a : ℕ) → Some a ≡ found_of q → a ≢ 0
found_some q a =
    by_eqb (λ b. Some a ≡ pick b None (Some q) → a ≢ 0) q 0
    (λ z e. let o : ◌≡◌ {A = ℕ} 0 1 = cc in absurd (omega arith))
    (λ z e. let f : q ≡ a = cc in rw f at z)

module _ (s k x : List ℕ) (n : ℕ) (r : Option ℕ) where
  -- The number that looking for `k` gives, from the answer for `x`, which is `k`.
  pub look_missing : r ≡ None → r ≡ found_of (place_of s n x) → x ≡ k → place_of s n k ≡ 0
  look_missing e g h = missing_none (place_of s n k) (sym e ∙ g ∙ ap (λ (y : List ℕ). found_of (place_of s n y)) h)

  pub look_found : (a : ℕ) → r ≡ Some a → r ≡ found_of (place_of s n x) → x ≡ k → place_of s n k ≡ a
  look_found a e g h = found_number (place_of s n k) a (sym e ∙ g ∙ ap (λ (y : List ℕ). found_of (place_of s n y)) h)

  pub look_some : (a : ℕ) → r ≡ Some a → r ≡ found_of (place_of s n x) → a ≢ 0
  look_some a e g = found_some (place_of s n x) a (sym e ∙ g)

  pub look_within : (a : ℕ) → r ≡ Some a → r ≡ found_of (place_of s n x) → a ≤ n
  look_within a e g = (at_first s x n a (sym g ∙ e)).within

-- The number found, or 0, is within those that were looked among.
pub found_within : (s x : List ℕ) (n : ℕ) (r : Option ℕ) (a : ℕ) → r ≡ found_of (place_of s n x) → a ≡ unwrap_or r 0 → a ≤ n
found_within s x n r a e g =
    by_eqb (λ b. a ≡ unwrap_or (pick b None (Some (place_of s n x))) 0 → a ≤ n) (place_of s n x) 0
    (λ z h. omega (arith, h))
    (λ z h. rw h ((place_some s x n z).within))
    (rw e at g)

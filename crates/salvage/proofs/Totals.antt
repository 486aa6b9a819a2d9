-- The laws of numbers added up.
-- Assumes nothing.
use Prim.Native.Nat.{ℕ, zero, suc, ◌+◌, ◌≤◌, ◌<◌}
use mathlib.Core.Path.{◌≡◌, refl}
use mathlib.Core.Logic.{⊎_elim}
use native.Mathlib.Omega.{arith}
use native.Mathlib.Nat.{eq-or-lt_of_le}
use native.Mathlib.Numerals.{add-one}
use Rattle.salvage.specs.Marks.{total}

-- None, and one more.
pub total_none : (f : ℕ → ℕ) → total f 0 ≡ 0
unfolding total
total_none f = refl

pub total_more : (f : ℕ → ℕ) (n : ℕ) → total f (n + 1) ≡ total f n + f n
unfolding total
total_more f n = rw add-one refl

-- Numbers that are none of them higher add up to no more,
pub total_least : (f g : ℕ → ℕ) (n : ℕ) → ((p : ℕ) → p < n → f p ≤ g p) → total f n ≤ total g n
unfolding total
total_least f g zero h = omega arith
total_least f g (suc n) h =
    let a = total_least f g n (λ p k. h p (omega arith)) in
    let b = h n (omega arith) in
    omega arith

-- and where one of them is lower by so much, to so much less or lower.
pub total_with : (f g : ℕ → ℕ) (n k w : ℕ) → k < n → ((p : ℕ) → p < n → f p ≤ g p) → f k + w ≤ g k → total f n + w ≤ total g n
unfolding total
total_with f g zero k w l h e = absurd (omega arith)
total_with f g (suc n) k w l h e =
    ⊎_elim
    (λ (z : k ≡ n).
    let a = total_least f g n (λ p q. h p (omega arith)) in
    let b : f n + w ≤ g n = rw z at e in
    omega arith)
    (λ (z : k < n).
    let a = total_with f g n k w z (λ p q. h p (omega arith)) e in
    let b = h n (omega arith) in
    omega arith)
    (eq-or-lt_of_le (let y : k ≤ n = omega arith in y))

-- To show something of a test, show it for each outcome from what the outcome says.
-- Assumes nothing.
use Prim.Native.Nat.{ℕ, ◌≤◌, ◌<◌}
use mathlib.Core.Path.{◌≡◌, refl, sym, ◌∙◌}
use mathlib.Core.Logic.{◌≢◌, ◌⊎◌, inl, inr}
use mathlib.Core.Bool.{Bool, true, false}
use native.Mathlib.Omega.{arith}
use lib.Dec.{eqb, ltb, leb}
use borrow.Author.Tests.{eqb-true, eqb-false, ltb-true, ltb-false, leb-true, leb-false}
use Rattle.basics.specs.Pick.{pick, both, either}

-- Of any Bool: what holds of it where it is true and where it is false.
pub by_test : (P : Bool → Type 0) (b : Bool) → (b ≡ true → P true) → (b ≡ false → P false) → P b
by_test P true f g = f refl
by_test P false f g = g refl

-- Are two numbers the same?
pub by_eqb : (P : Bool → Type 0) (a b : ℕ) → (a ≡ b → P true) → (a ≢ b → P false) → P (eqb a b)
by_eqb P a b f g = by_test P (eqb a b) (λ e. f (eqb-true a b e)) (λ e. g (eqb-false a b e))

-- Is the first number below the second?
pub by_ltb : (P : Bool → Type 0) (a b : ℕ) → (a < b → P true) → (b ≤ a → P false) → P (ltb a b)
by_ltb P a b f g = by_test P (ltb a b) (λ e. f (ltb-true a b e)) (λ e. g (ltb-false a b e))

-- Is the first number at most the second?
pub by_leb : (P : Bool → Type 0) (a b : ℕ) → (a ≤ b → P true) → (b < a → P false) → P (leb a b)
by_leb P a b f g = by_test P (leb a b) (λ e. f (leb-true a b e)) (λ e. g (leb-false a b e))

-- A choice by a test, shown by each of its two values.
pub by_pick : {A : Type 0} (P : A → Type 0) (b : Bool) (x y : A) → (b ≡ true → P x) → (b ≡ false → P y) → P (pick b x y)
by_pick P true x y f g = f refl
by_pick P false x y f g = g refl

-- A Bool is one of the two.
pub true_or_false : (b : Bool) → (b ≡ true) ⊎ (b ≡ false)
true_or_false true = inl refl
true_or_false false = inr refl

-- No Bool is both.
pub not_both_ways : (b : Bool) → b ≡ true → b ≡ false → ⊥
not_both_ways b p q = let z : true ≡ false = sym p ∙ q in let n : ◌≡◌ {A = ℕ} 0 1 = cc in omega arith

-- Both tests hold: each does.
pub both_left : (p q : Bool) → both p q ≡ true → p ≡ true
both_left true q e = refl
both_left false q e = e

pub both_right : (p q : Bool) → both p q ≡ true → q ≡ true
both_right true q e = e
both_right false q e = absurd (not_both_ways false e refl)

-- Each test holds: both do.
pub both_of : (p q : Bool) → p ≡ true → q ≡ true → both p q ≡ true
both_of p q e f = rw (e, f)

-- One of two tests holds where one or the other does.
pub either_cases : (p q : Bool) → either p q ≡ true → (p ≡ true) ⊎ (q ≡ true)
either_cases true q e = inl refl
either_cases false q e = inr e

-- The first of two tests, and the second.
pub either_first : (p q : Bool) → p ≡ true → either p q ≡ true
either_first p q e = rw e

pub either_second : (p q : Bool) → q ≡ true → either p q ≡ true
either_second true q e = refl
either_second false q e = e

-- Neither of two tests.
pub neither_first : (p q : Bool) → either p q ≡ false → p ≡ false
neither_first true q e = e
neither_first false q e = refl

pub neither_second : (p q : Bool) → either p q ≡ false → q ≡ false
neither_second true q e = absurd (not_both_ways true refl e)
neither_second false q e = e

-- Numbers compared, as sums, and tests that decide. For basics.
-- Assumes nothing.
use Prim.Native.Nat.{ℕ, suc, ◌≤◌, ◌<◌}
use mathlib.Core.Path.{◌≡◌, refl, sym, subst}
use mathlib.Core.Bool.{Bool, true, false, not}
use mathlib.Core.Logic.{◌⊎◌, inl, inr, ⊎_elim, ◌≢◌}
use native.Mathlib.Decide.{dec_le, ℕ_discrete}
use native.Mathlib.Omega.{arith}
use borrow.Author.Tests.{leb-true, leb-false, eqb-true, eqb-false}
use lib.Dec.{T, eqb, ltb, leb}
use Rattle.basics.specs.Decides.{Decides}
use Rattle.basics.specs.Pick.{pick, either}
use Rattle.basics.proofs.Tests.{by_eqb, by_ltb}

-- One number is at most the other, or the other is below it.
pub le? : (m n : ℕ) → (m ≤ n) ⊎ (n < m)
le? m n = elim (dec_le m n) [ yes p ↦ inl p | no q ↦ inr (omega arith) ]

-- Two numbers are one, or they are not.
pub eq? : (m n : ℕ) → (m ≡ n) ⊎ (m ≢ n)
eq? m n = elim (ℕ_discrete m n) [ yes p ↦ inl p | no q ↦ inr q ]

-- True is not false.
pub never : {X : Type 0} → ◌≡◌ {A = Bool} true false → X
never e = absurd (subst T e tt)

-- One test of two decides one statement of two.
pub decides_either : {P Q : Type 0} (p q : Bool) → Decides P p → Decides Q q → Decides (P ⊎ Q) (either p q)
decides_either true q d e = record { yes = λ h. inl (d.yes refl); no = λ h t. never h }
decides_either false q d e = record { yes = λ h. inr (e.yes h); no = λ h t. ⊎_elim (d.no refl) (e.no h) t }

-- The opposite test decides the opposite.
pub decides_not : {P : Type 0} (p : Bool) → Decides P p → Decides (P → ⊥) (not p)
decides_not true d = record { yes = λ h. never (sym h); no = λ h t. t (d.yes refl) }
decides_not false d = record { yes = λ h. d.no refl; no = λ h t. never h }

-- The test of equality decides.
pub decides_eqb : (a b : ℕ) → Decides (a ≡ b) (eqb a b)
decides_eqb a b = record { yes = eqb-true a b; no = eqb-false a b }

-- The test of order decides.
pub decides_leb : (a b : ℕ) → Decides (a ≤ b) (leb a b)
decides_leb a b = record { yes = leb-true a b; no = λ h t. let l = leb-false a b h in omega arith }

-- The test of strict order decides.
pub decides_ltb : (a b : ℕ) → Decides (a < b) (ltb a b)
decides_ltb a b = decides_leb (suc a) b

-- A choice by a test has what both sides have, each from what the outcome says.
pub pick_eqb : {B : Type 0} (P : B → Type 0) (a b : ℕ) {u w : B} → (a ≡ b → P u) → (a ≢ b → P w) → P (pick (eqb a b) u w)
pick_eqb P a b {u} {w} f g = by_eqb (λ t. P (pick t u w)) a b f g

-- The same for a strict order.
pub pick_ltb : {B : Type 0} (P : B → Type 0) (a b : ℕ) {u w : B} → (a < b → P u) → (b ≤ a → P w) → P (pick (ltb a b) u w)
pick_ltb P a b {u} {w} f g = by_ltb (λ t. P (pick t u w)) a b f g

-- The same for a test that decides.
pub pick_decides : {Q B : Type 0} (P : B → Type 0) (r : Bool) → Decides Q r → {u w : B} → (Q → P u) → ((Q → ⊥) → P w) → P (pick r u w)
pick_decides P true d f g = f (d.yes refl)
pick_decides P false d f g = g (d.no refl)

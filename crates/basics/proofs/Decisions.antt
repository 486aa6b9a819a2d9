-- Deciding a statement of parts by deciding its parts.
-- Assumes nothing.
use mathlib.Core.Path.{◌≡◌, refl}
use mathlib.Core.Bool.{Bool, true, false}
use Rattle.basics.specs.Decides.{Decides}
use Rattle.basics.specs.Pick.{both}
use Rattle.basics.proofs.Tests.{not_both_ways}

-- Yes where it holds.
pub decided_yes : {P : Type 0} → P → Decides P true
decided_yes p = record { yes = λ e. p; no = λ e q. not_both_ways true refl e }

-- No where it does not.
pub decided_no : {P : Type 0} → (P → ⊥) → Decides P false
decided_no n = record { yes = λ e. absurd (not_both_ways false e refl); no = λ e p. n p }

-- A test decides that it is true.
pub decides_test : (b : Bool) → Decides (b ≡ true) b
decides_test b = record { yes = λ e. e; no = λ e t. not_both_ways b t e }

-- What decides a statement decides one that holds exactly when it does.
pub decides_same : {P Q : Type 0} {r : Bool} → (P → Q) → (Q → P) → Decides P r → Decides Q r
decides_same f g d = record { yes = λ e. f (d.yes e); no = λ e q. d.no e (g q) }

-- Two decisions joined decide that both statements hold.
pub decides_both : {P Q : Type 0} (p q : Bool) → Decides P p → Decides Q q → Decides (P × Q) (both p q)
decides_both true q d e = record { yes = λ t. (d.yes refl, e.yes t); no = λ t w. e.no t w.1 }
decides_both false q d e = record { yes = λ t. absurd (not_both_ways false t refl); no = λ t w. d.no refl w.0 }

-- Yes is the answer exactly where the statement holds.
pub decides_yes : {P : Type 0} {r : Bool} → Decides P r → P → r ≡ true
decides_yes {r = true} d p = refl
decides_yes {r = false} d p = absurd (d.no refl p)

-- Two decisions of one statement are one.
pub one_decision : {P : Type 0} (b c : Bool) → Decides P b → Decides P c → b ≡ c
one_decision true true d e = refl
one_decision true false d e = absurd (e.no refl (d.yes refl))
one_decision false true d e = absurd (d.no refl (e.yes refl))
one_decision false false d e = refl

-- No is the answer exactly where it does not.
pub decides_no : {P : Type 0} {r : Bool} → Decides P r → (P → ⊥) → r ≡ false
decides_no {r = true} d n = absurd (n (d.yes refl))
decides_no {r = false} d n = refl

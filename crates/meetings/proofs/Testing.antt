-- Whether a start has been carried to a studio, computed.
-- Assumes nothing.
use Prim.Native.Nat.{ℕ, zero, suc, ◌≤◌}
use mathlib.Core.Path.{◌≡◌, refl}
use mathlib.Core.Bool.{Bool, true, false}
use mathlib.Core.Logic.{◌⊎◌, inl, inr, ⊎_elim}
use native.Mathlib.Omega.{arith}
use borrow.Author.Tests.{eqb-true, eqb-false}
use lib.Dec.{eqb}
use Rattle.basics.specs.Decides.{Decides}
use Rattle.basics.specs.Pick.{both, either}
use Rattle.basics.proofs.Decisions.{decides_both}
use Rattle.basics.proofs.Tests.{both_left, both_right, not_both_ways}
use Rattle.chains.proofs.Laws.{le?}
use Rattle.meetings.specs.Meetings.{Meetings, start, ◌then◌, Carried, AllCarried}

-- The start of studio `k` has been carried to studio `i`.
unfoldable pub carried_test : Meetings → ℕ → ℕ → Bool
carried_test start k i = eqb k i
carried_test (ms then m) k i = either (carried_test ms k i) (both (eqb i m.one) (carried_test ms k m.other))

-- Equality is decided,
decides_equal : (a b : ℕ) → Decides (a ≡ b) (eqb a b)
decides_equal a b = record { yes = eqb-true a b; no = eqb-false a b }

-- and one or the other of two decided statements.
decides_either : {P Q : Type 0} (p q : Bool) → Decides P p → Decides Q q → Decides (P ⊎ Q) (either p q)
decides_either true q d e = record { yes = λ t. inl (d.yes refl); no = λ t w. not_both_ways true refl t }
decides_either false q d e = record { yes = λ t. inr (e.yes t); no = λ t w. ⊎_elim (d.no refl) (e.no t) w }

-- The test decides it.
pub carried_decided : (ms : Meetings) (k i : ℕ) → Decides (Carried ms k i) (carried_test ms k i)
unfolding carried_test
carried_decided start k i = decides_equal k i
carried_decided (ms then m) k i =
    decides_either (carried_test ms k i) (both (eqb i m.one) (carried_test ms k m.other)) (carried_decided ms k i)
    (decides_both (eqb i m.one) (carried_test ms k m.other) (decides_equal i m.one) (carried_decided ms k m.other))

-- Every number from 1 to `n` passes.
unfoldable pub up_to : ℕ → (ℕ → Bool) → Bool
up_to zero f = true
up_to (suc n) f = both (f (suc n)) (up_to n f)

-- Each of them does.
passes : (f : ℕ → Bool) (n : ℕ) → up_to n f ≡ true → (x : ℕ) → 1 ≤ x → x ≤ n → f x ≡ true
unfolding up_to
passes f zero h x m l = absurd (omega arith)
passes f (suc n) h x m l =
    ⊎_elim (λ k. passes f n (both_right (f (suc n)) (up_to n f) h) x m k)
    (λ k. let e : x ≡ suc n = omega arith in rw e (both_left (f (suc n)) (up_to n f) h))
    (le? x n)

-- Every start has been carried to every studio.
unfoldable pub all_test : ℕ → Meetings → Bool
all_test n ms = up_to n (λ k. up_to n (carried_test ms k))

-- Where the test says so they have.
pub all_tested : (n : ℕ) (ms : Meetings) → all_test n ms ≡ true → AllCarried n ms
unfolding all_test
all_tested n ms h k i p q =
    (carried_decided ms k i).yes (passes (carried_test ms k) n (passes (λ x. up_to n (carried_test ms x)) n h k p.0 p.1) i q.0 q.1)

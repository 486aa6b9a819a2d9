-- The tests on the length and the kind, and then those on the body, are the tests on the item.
-- Assumes nothing.
use Prim.Native.Nat.{ℕ, ◌-◌, ◌≤◌}
use mathlib.Core.Path.{◌≡◌, refl}
use mathlib.Core.Bool.{Bool, true, false}
use mathlib.Core.List.{List}
use native.Mathlib.Omega.{arith}
use lib.Dec.{eqb, ltb}
use lib.ListN.{length}
use Rattle.std.specs.Prelude.{Result, Ok, Err}
use Rattle.basics.specs.Pick.{pick}
use Rattle.basics.proofs.Tests.{by_ltb}
use Rattle.answers.specs.declared.Refusal.{Refusal}
use Rattle.answers.specs.declared.Refusal.TheVariants.{Short, Size, Long, Kind}
use Rattle.item.specs.Head.{head_tests}
use Rattle.item.specs.Layout.{length_of, kind_of}

-- What follows from a refusal, if there is one, and from what comes after the tests.
abbrev pub after_head : {A : Type 0} → Result A Refusal → Result (Unit {0}) Refusal → Result A Refusal
after_head next (Err why) = Err why
after_head next (Ok tt) = next

module _ {A : Type 0} (next : Result A Refusal) where
  -- Of the six tests, one after the other.
  pub after_tests : (a b c d e k : Bool)
      → after_head next (pick a (Err Short) (pick b (Err Size) (pick c (Err Short) (pick d (Err Short) (pick e (Err Long) (pick k (Ok tt) (Err Kind)))))))
      ≡ pick a (Err Short) (pick b (Err Size) (pick c (Err Short) (pick d (Err Short) (pick e (Err Long) (pick k next (Err Kind))))))
  after_tests true b c d e k = refl
  after_tests false true c d e k = refl
  after_tests false false true d e k = refl
  after_tests false false false true e k = refl
  after_tests false false false false true k = refl
  after_tests false false false false false true = refl
  after_tests false false false false false false = refl

-- Where nothing is refused, the length and the kind are there.
pub head_inside : (limit kind : ℕ) (s : List ℕ) → head_tests limit kind s ≡ (Ok tt) → 6 ≤ length s
unfolding head_tests
head_inside limit kind s =
    by_ltb (λ t. pick t (Err Short) (behind s) ≡ (Ok tt) → 6 ≤ length s) (length s) 4 (λ h e. absurd cc)
    (λ h. by_ltb (λ t. pick t (Err Size) (behind₂ s) ≡ (Ok tt) → 6 ≤ length s) limit (length_of s) (λ u e. absurd cc)
    (λ u. by_ltb (λ t. pick t (Err Short) (behind₃ s) ≡ (Ok tt) → 6 ≤ length s) (length_of s) 2 (λ v e. absurd cc)
    (λ v. by_ltb (λ t. pick t (Err Short) (behind₄ s) ≡ (Ok tt) → 6 ≤ length s) (length s - 4) (length_of s) (λ w e. absurd cc)
    (λ w e. omega arith))))
  where
    behind₄ : List ℕ → Result (Unit {0}) Refusal
    behind₄ s = pick (ltb (length_of s) (length s - 4)) (Err Long) (pick (eqb (kind_of s) kind) (Ok tt) (Err Kind))

    behind₃ : List ℕ → Result (Unit {0}) Refusal
    behind₃ s = pick (ltb (length s - 4) (length_of s)) (Err Short) (behind₄ s)

    behind₂ : List ℕ → Result (Unit {0}) Refusal
    behind₂ s = pick (ltb (length_of s) 2) (Err Short) (behind₃ s)

    behind : List ℕ → Result (Unit {0}) Refusal
    behind s = pick (ltb limit (length_of s)) (Err Size) (behind₂ s)

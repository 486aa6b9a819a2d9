-- The computed tests decide: at or before, admissible, beyond, and the order of states.
-- Assumes nothing.
use Prim.Native.Nat.{ℕ}
use mathlib.Core.Path.{sym}
use mathlib.Core.Bool.{not}
use lib.Dec.{eqb, leb}
use Rattle.basics.specs.Decides.{Decides}
use Rattle.basics.specs.Pick.{both}
use Rattle.chains.specs.Chain.{Store, Node, Valid, toward, AtOrBefore, prefix_of, State, ValidState, growing_valid, forked_valid, Admissible, Beyond}
use Rattle.chains.specs.Chain.{OneLast, AtOrBelow, before?, admissible?, beyond?, at_or_below?}
use Rattle.basics.proofs.Decisions.{decides_both, decides_same}
use Rattle.chains.proofs.Laws.{never, decides_either, decides_not, decides_eqb, decides_leb}
use Rattle.chains.proofs.Prefix.{prefix_is_first}

-- Whether a row is admissible.
pub admissible_decided : (s : Store) (lo hi c : ℕ) → Decides (Admissible s lo hi c) (admissible? s lo hi c)
admissible_decided s lo hi c = decides_either (eqb c lo) (leb (s.key hi) (s.key c)) (decides_eqb c lo) (decides_leb (s.key hi) (s.key c))

module _ (s : Store) (v : Valid s) (A : ℕ) where
  -- Whether one is at or before the other: whether it is their prefix.
  pub before_test : (a b : ℕ) → Node s A a → Node s A b → Decides (AtOrBefore s a b) (before? s a b)
  before_test a b na nb = decides_same (prefix_is_first s v A a b na nb).0 (prefix_is_first s v A a b na nb).1 (decides_eqb (prefix_of s a b) a)

  -- Whether a row lies beyond a forked state by an admissible child.
  pub beyond_test : (k lo hi l : ℕ) → Node s A k → Node s A l → Decides (Beyond s k lo hi l) (beyond? s k lo hi l)
  beyond_test k lo hi l nk nl =
      decides_same
      (λ t. record { strictly = record { back = t.0; apart = t.1.0 }; child = t.1.1 }) (λ b. (b.strictly.back, (b.strictly.apart, b.child)))
      (decides_both (before? s k l) (both (not (eqb k l)) (admissible? s lo hi (toward s k l))) (before_test k l nk nl)
      (decides_both (not (eqb k l)) (admissible? s lo hi (toward s k l)) (decides_not (eqb k l) (decides_eqb k l)) (admissible_decided s lo hi (toward s k l))))

  -- Whether two states are forked at one last, the evidence of one admissible in the other.
  one_last_test : (l a b k lo hi : ℕ) → Decides (OneLast s l a b k lo hi) (both (eqb l k) (both (admissible? s lo hi a) (admissible? s lo hi b)))
  one_last_test l a b k lo hi =
      decides_same (λ t. record { same = t.0; low = t.1.0; high = t.1.1 }) (λ o. (o.same, (o.low, o.high)))
      (decides_both (eqb l k) (both (admissible? s lo hi a) (admissible? s lo hi b)) (decides_eqb l k)
      (decides_both (admissible? s lo hi a) (admissible? s lo hi b) (admissible_decided s lo hi a) (admissible_decided s lo hi b)))

  -- Whether L is at or below K.
  pub below_test : {L K : State} → ValidState s A L → ValidState s A K → Decides (AtOrBelow s L K) (at_or_below? s L K)
  unfolding at_or_below?
  below_test (growing_valid {l = l} n) (growing_valid {l = k} j) = before_test l k n j
  below_test (growing_valid {l = l} n) (forked_valid {l = k} {lo = lo} {hi = hi} j d) =
      decides_either (before? s l k) (beyond? s k lo hi l) (before_test l k n j) (beyond_test k lo hi l j n)
  below_test (forked_valid n d) (growing_valid j) = record { yes = λ h. never (sym h); no = λ h p. p }
  below_test (forked_valid {l = l} {lo = a} {hi = b} n c) (forked_valid {l = k} {lo = lo} {hi = hi} j d) =
      decides_either (beyond? s k lo hi l) (both (eqb l k) (both (admissible? s lo hi a) (admissible? s lo hi b))) (beyond_test k lo hi l j n)
      (one_last_test l a b k lo hi)

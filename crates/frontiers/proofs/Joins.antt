-- One author's two entries or absences: the join is unique, valid, commutative, associative, idempotent, and the least above both.
-- Assumes nothing.
use Prim.Native.Nat.{ℕ}
use mathlib.Core.Path.{◌≡◌, refl, sym, ap, ◌∙◌}
use mathlib.Core.Option.{Option, none, some}
use Rattle.chains.specs.Chain.{Store, Valid, State, merge_of}
use Rattle.chains.proofs.Order.{below_refl, below_trans, below_antisym}
use Rattle.chains.proofs.Merge.{merge_valid, merge_unique, merge_is_union, merge_commutative, merge_idempotent, merge_associative, merge_above_left}
use Rattle.chains.proofs.Merge.{merge_least}
use Rattle.frontiers.specs.Entries.{ValidAt, Joins, BelowAt, joined}

module _ (s : Store) (v : Valid s) (n a : ℕ) where
  -- The computed join is a join.
  pub joined_joins : (x y : Option State) → ValidAt s n a x → ValidAt s n a y → Joins s x y (joined s x y)
  joined_joins none none p q = refl
  joined_joins none (some k) p q = refl
  joined_joins (some l) none p q = refl
  joined_joins (some l) (some k) p q = merge_is_union s v a l k p.1.1 q.1.1

  -- A join of valid entries is valid.
  pub joins_valid : (x y r : Option State) → ValidAt s n a x → ValidAt s n a y → Joins s x y r → ValidAt s n a r
  joins_valid none none r p q j = rw j tt
  joins_valid none (some k) r p q j = rw j q
  joins_valid (some l) none r p q j = rw j p
  joins_valid (some l) (some k) none p q j = tt
  joins_valid (some l) (some k) (some m) p q j = (p.0, (p.1.0, merge_valid s v a l k m p.1.1 q.1.1 j))

  -- Two joins of the same entries are one.
  pub joins_unique : (x y r t : Option State) → ValidAt s n a x → ValidAt s n a y → Joins s x y r → Joins s x y t → r ≡ t
  joins_unique none none r t p q i j = i ∙ sym j
  joins_unique none (some k) r t p q i j = i ∙ sym j
  joins_unique (some l) none r t p q i j = i ∙ sym j
  joins_unique (some l) (some k) none t p q i j = absurd i
  joins_unique (some l) (some k) (some m) none p q i j = absurd j
  joins_unique (some l) (some k) (some m) (some o) p q i j = ap some (merge_unique s v a l k m o p.1.1 q.1.1 i j)

  -- Commutative.
  pub joins_commutative : (x y r : Option State) → ValidAt s n a x → ValidAt s n a y → Joins s x y r → Joins s y x r
  joins_commutative none none r p q j = j
  joins_commutative none (some k) r p q j = j
  joins_commutative (some l) none r p q j = j
  joins_commutative (some l) (some k) none p q j = j
  joins_commutative (some l) (some k) (some m) p q j = merge_commutative s v a l k m p.1.1 q.1.1 j

  -- Idempotent.
  pub joins_idempotent : (x : Option State) → ValidAt s n a x → Joins s x x x
  joins_idempotent none p = refl
  joins_idempotent (some l) p = merge_idempotent s v a l p.1.1

  -- The computed join of valid entries is valid.
  joined_valid : (x y : Option State) → ValidAt s n a x → ValidAt s n a y → ValidAt s n a (joined s x y)
  joined_valid x y p q = joins_valid x y (joined s x y) p q (joined_joins x y p q)

  -- Associative, of the computed join.
  pub joined_associative : (x y z : Option State) → ValidAt s n a x → ValidAt s n a y → ValidAt s n a z
      → joined s (joined s x y) z ≡ joined s x (joined s y z)
  joined_associative none y z p q r = refl
  joined_associative (some l) none z p q r = refl
  joined_associative (some l) (some k) none p q r = refl
  joined_associative (some l) (some k) (some o) p q r =
      let vl = p.1.1 in
      let vk = q.1.1 in
      let vo = r.1.1 in
      let i = merge_is_union s v a l k vl vk in
      let j = merge_is_union s v a k o vk vo in
      ap some
      (merge_associative s v a l k o (merge_of s l k) (merge_of s (merge_of s l k) o) (merge_of s k o) (merge_of s l (merge_of s k o)) vl vk vo i
      (merge_is_union s v a (merge_of s l k) o (merge_valid s v a l k (merge_of s l k) vl vk i) vo) j
      (merge_is_union s v a l (merge_of s k o) vl (merge_valid s v a k o (merge_of s k o) vk vo j)))

  -- The order of entries or absences: reflexive, transitive, antisymmetric.
  pub below_at_refl : (x : Option State) → ValidAt s n a x → BelowAt s x x
  below_at_refl none p = tt
  below_at_refl (some l) p = below_refl s v a p.1.1

  pub below_at_trans : (x y z : Option State) → ValidAt s n a x → ValidAt s n a y → ValidAt s n a z → BelowAt s x y → BelowAt s y z → BelowAt s x z
  below_at_trans none y z p q r i j = tt
  below_at_trans (some l) none z p q r i j = absurd i
  below_at_trans (some l) (some k) none p q r i j = j
  below_at_trans (some l) (some k) (some o) p q r i j = below_trans s v a p.1.1 q.1.1 r.1.1 i j

  pub below_at_antisym : (x y : Option State) → ValidAt s n a x → ValidAt s n a y → BelowAt s x y → BelowAt s y x → x ≡ y
  below_at_antisym none none p q i j = refl
  below_at_antisym none (some k) p q i j = absurd j
  below_at_antisym (some l) none p q i j = absurd i
  below_at_antisym (some l) (some k) p q i j = ap some (below_antisym s v a p.1.1 q.1.1 i j)

  -- A join is above its left entry, and by commutativity above both.
  pub joins_above : (x y r : Option State) → ValidAt s n a x → ValidAt s n a y → Joins s x y r → BelowAt s x r
  joins_above none y r p q j = tt
  joins_above (some l) none r p q j = rw j (below_refl s v a p.1.1)
  joins_above (some l) (some k) none p q j = j
  joins_above (some l) (some k) (some m) p q j = merge_above_left s v a l k m p.1.1 q.1.1 j

  -- It is at or below every entry that is above both.
  pub joins_least : (x y r z : Option State) → ValidAt s n a x → ValidAt s n a y → ValidAt s n a z → Joins s x y r → BelowAt s x z → BelowAt s y z
      → BelowAt s r z
  joins_least none none r z p q w j h k = rw j tt
  joins_least none (some k) r z p q w j h i = rw j i
  joins_least (some l) none r z p q w j h i = rw j h
  joins_least (some l) (some k) none z p q w j h i = tt
  joins_least (some l) (some k) (some m) none p q w j h i = h
  joins_least (some l) (some k) (some m) (some o) p q w j h i = merge_least s v a l k m o p.1.1 q.1.1 w.1.1 j h i

-- Merged frontiers: they exist, are valid and unique; locality; commutative, associative, idempotent; the least above both.
-- Assumes nothing.
use Prim.Native.Nat.{ℕ, ◌<◌}
use mathlib.Core.Path.{◌≡◌, refl, sym, ap, ◌∙◌}
use mathlib.Core.List.{List}
use mathlib.Core.Option.{Option, none, some}
use native.Mathlib.Omega.{arith}
use Rattle.chains.specs.Chain.{Store, Valid, State}
use Rattle.basics.proofs.Tests.{by_eqb, by_ltb}
use Rattle.frontiers.specs.Entries.{Entry, entry_of, ValidAt, ValidEntries, Joins, IsMerged, FrontierBelow, joined, collect, merged_entries}
use Rattle.frontiers.proofs.Entries.{absent, collect_rising, collect_entry, collect_above, rising_unique}
use Rattle.frontiers.proofs.Joins.{joined_joins, joins_valid, joins_unique, joins_commutative, joins_idempotent, joined_associative, below_at_refl}
use Rattle.frontiers.proofs.Joins.{below_at_trans, below_at_antisym, joins_above, joins_least}

-- An author above all authors has no valid entry.
pub unknown : (s : Store) (n a : ℕ) (x : Option State) → n < a → ValidAt s n a x → x ≡ none
unknown s n a none h v = refl
unknown s n a (some l) h v = absurd (let k = v.1.0 in omega arith)

module _ (s : Store) (v : Valid s) (n : ℕ) where
  -- The computed merge of two valid frontiers is their merged frontier.
  pub merged_is_merged : (f g : List Entry) → ValidEntries s n f → ValidEntries s n g → IsMerged s f g (merged_entries s n f g)
  unfolding merged_entries
  merged_is_merged f g p q = record { rising = collect_rising o n 0; joins = each }
    where
      o : ℕ → Option State
      o a = joined s (entry_of f a) (entry_of g a)

      computed : (a : ℕ) → entry_of (collect o n 0) a ≡ o a
      computed a =
          by_ltb (λ t. entry_of (collect o n 0) a ≡ o a) n a
          (λ h. collect_above o n 0 a (omega arith) ∙ sym (rw (unknown s n a (entry_of f a) h (p.each a), unknown s n a (entry_of g a) h (q.each a))))
          (λ h. by_eqb (λ t. entry_of (collect o n 0) a ≡ o a) a 0
          (λ z. absent (collect_rising o n 0) a (omega arith) ∙ sym (rw (absent p.rising a (omega arith), absent q.rising a (omega arith))))
          (λ z. collect_entry o n 0 a (omega arith) (omega arith)))

      each : (a : ℕ) → Joins s (entry_of f a) (entry_of g a) (entry_of (collect o n 0) a)
      each a = rw (computed a) (joined_joins s v n a (entry_of f a) (entry_of g a) (p.each a) (q.each a))

  -- A merged frontier is valid.
  pub merged_valid : (f g r : List Entry) → ValidEntries s n f → ValidEntries s n g → IsMerged s f g r → ValidEntries s n r
  merged_valid f g r p q m =
      record { rising = m.rising; each = λ a. joins_valid s v n a (entry_of f a) (entry_of g a) (entry_of r a) (p.each a) (q.each a) (m.joins a) }

  -- "In two unrefused calls on one store, equal entries (or absences) for an author give that author equal results."
  pub merged_local : (f g r f' g' r' : List Entry) (a : ℕ) → ValidEntries s n f → ValidEntries s n g → IsMerged s f g r → IsMerged s f' g' r'
      → entry_of f a ≡ entry_of f' a → entry_of g a ≡ entry_of g' a → entry_of r a ≡ entry_of r' a
  merged_local f g r f' g' r' a p q m k e d =
      let j : Joins s (entry_of f a) (entry_of g a) (entry_of r' a) = rw (e, d) (k.joins a) in
      joins_unique s v n a (entry_of f a) (entry_of g a) (entry_of r a) (entry_of r' a) (p.each a) (q.each a) (m.joins a) j

  -- Two merged frontiers of the same two are one.
  pub merged_unique : (f g r t : List Entry) → ValidEntries s n f → ValidEntries s n g → IsMerged s f g r → IsMerged s f g t → r ≡ t
  merged_unique f g r t p q m k = rising_unique m.rising k.rising (λ a. merged_local f g r f g t a p q m k refl refl)

  -- Commutative.
  pub merged_commutative : (f g r : List Entry) → ValidEntries s n f → ValidEntries s n g → IsMerged s f g r → IsMerged s g f r
  merged_commutative f g r p q m =
      record { rising = m.rising; joins = λ a. joins_commutative s v n a (entry_of f a) (entry_of g a) (entry_of r a) (p.each a) (q.each a) (m.joins a) }

  -- Idempotent.
  pub merged_idempotent : (f : List Entry) → ValidEntries s n f → IsMerged s f f f
  merged_idempotent f p = record { rising = p.rising; joins = λ a. joins_idempotent s v n a (entry_of f a) (p.each a) }

  -- A merged frontier has for each author the computed join.
  merged_entry : (f g r : List Entry) → ValidEntries s n f → ValidEntries s n g → IsMerged s f g r → (a : ℕ) → entry_of r a ≡ joined s (entry_of f a)
      (entry_of g a)
  merged_entry f g r p q m a =
      joins_unique s v n a (entry_of f a) (entry_of g a) (entry_of r a) (joined s (entry_of f a) (entry_of g a)) (p.each a) (q.each a) (m.joins a)
      (joined_joins s v n a (entry_of f a) (entry_of g a) (p.each a) (q.each a))

  -- Associative.
  pub merged_associative : (f g h fg l gh r : List Entry) → ValidEntries s n f → ValidEntries s n g → ValidEntries s n h
      → IsMerged s f g fg → IsMerged s fg h l → IsMerged s g h gh → IsMerged s f gh r → l ≡ r
  merged_associative f g h fg l gh r p q w i j k m =
      rising_unique j.rising m.rising (λ a.
      merged_entry fg h l (merged_valid f g fg p q i) w j a
      ∙ ap (λ x. joined s x (entry_of h a)) (merged_entry f g fg p q i a)
      ∙ joined_associative s v n a (entry_of f a) (entry_of g a) (entry_of h a) (p.each a) (q.each a) (w.each a)
      ∙ sym (ap (joined s (entry_of f a)) (merged_entry g h gh q w k a))
      ∙ sym (merged_entry f gh r p (merged_valid g h gh q w k) m a))

  -- The order of frontiers is a partial order.
  pub frontier_below_refl : (f : List Entry) → ValidEntries s n f → FrontierBelow s f f
  frontier_below_refl f p a = below_at_refl s v n a (entry_of f a) (p.each a)

  pub frontier_below_trans : (f g h : List Entry) → ValidEntries s n f → ValidEntries s n g → ValidEntries s n h
      → FrontierBelow s f g → FrontierBelow s g h → FrontierBelow s f h
  frontier_below_trans f g h p q w i j a = below_at_trans s v n a (entry_of f a) (entry_of g a) (entry_of h a) (p.each a) (q.each a) (w.each a) (i a) (j a)

  pub frontier_below_antisym : (f g : List Entry) → ValidEntries s n f → ValidEntries s n g → FrontierBelow s f g → FrontierBelow s g f → f ≡ g
  frontier_below_antisym f g p q i j =
      rising_unique p.rising q.rising (λ a. below_at_antisym s v n a (entry_of f a) (entry_of g a) (p.each a) (q.each a) (i a) (j a))

  -- A merged frontier is above both, and at or below every valid frontier that is above both.
  pub merged_above_left : (f g r : List Entry) → ValidEntries s n f → ValidEntries s n g → IsMerged s f g r → FrontierBelow s f r
  merged_above_left f g r p q m a = joins_above s v n a (entry_of f a) (entry_of g a) (entry_of r a) (p.each a) (q.each a) (m.joins a)

  pub merged_above_right : (f g r : List Entry) → ValidEntries s n f → ValidEntries s n g → IsMerged s f g r → FrontierBelow s g r
  merged_above_right f g r p q m = merged_above_left g f r q p (merged_commutative f g r p q m)

  pub merged_least : (f g r h : List Entry) → ValidEntries s n f → ValidEntries s n g → ValidEntries s n h → IsMerged s f g r
      → FrontierBelow s f h → FrontierBelow s g h → FrontierBelow s r h
  merged_least f g r h p q w m i j a =
      joins_least s v n a (entry_of f a) (entry_of g a) (entry_of r a) (entry_of h a) (p.each a) (q.each a) (w.each a) (m.joins a) (i a) (j a)

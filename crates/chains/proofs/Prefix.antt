-- The prefix of two messages: the climb yields it, there is one, and the order of the two does not matter.
-- Assumes nothing.
use Prim.Native.Nat.{ℕ, zero, suc, ◌≤◌, ◌<◌, ◌+◌}
use mathlib.Core.Path.{◌≡◌, sym, ap, ◌∙◌}
use mathlib.Core.Logic.{inl, inr, ⊎_elim, ◌≢◌, ◌↔◌}
use native.Mathlib.Omega.{arith}
use Rattle.basics.specs.Pick.{pick}
use Rattle.basics.proofs.Tests.{by_ltb}
use Rattle.chains.specs.Chain.{Store, RowOf, Node, Valid, AtOrBefore, Before, IsPrefix, climb, prefix_of}
use Rattle.chains.proofs.Laws.{le?, pick_eqb}
use Rattle.chains.proofs.Climb.{before_node, before_index, before_refl, before_trans, before_antisym, one_index, in_order, lower_strict, strict_index}
use Rattle.chains.proofs.Climb.{prev_before, at_or_prev, deep_row, index_zero, prev_node, prev_index}

module _ (s : Store) (v : Valid s) (A : ℕ) where
  -- Where one is at or before the other it is the prefix.
  pub before_prefix : (a b : ℕ) → AtOrBefore s a b → IsPrefix s a b a
  before_prefix a b p = record { left = before_refl s v A a; right = p; latest = λ q l r. l }

  -- The deeper may climb.
  pub climb_right : (a b p : ℕ) → Node s A a → Node s A b → s.index a < s.index b → IsPrefix s a (s.prev b) p → IsPrefix s a b p
  climb_right a b p na nb l i =
      record {
        left = i.left;
        right = before_trans s v A p (s.prev b) b i.right (prev_before s v A b);
        latest = λ q h k. i.latest q h (⊎_elim (λ e. absurd (deep q h e)) (λ r. r) (at_or_prev s v A q b (deep_row s v A b nb (omega arith)) k));
      }
    where
      deep : (q : ℕ) → AtOrBefore s q a → q ≡ b → ⊥
      deep q h e = let m : s.index q ≡ s.index b = ap s.index e in let n = before_index s v A q a na h in omega arith

  -- Two that differ, the first no less deep: it is a row.
  differ_row : (a b : ℕ) → Node s A a → Node s A b → a ≢ b → s.index b ≤ s.index a → RowOf s A a
  differ_row a b (inr r) nb w l = r
  differ_row a b (inl e) nb w l =
      let z : s.index a ≡ 0 = rw e v.none_index in
      absurd (w (e ∙ sym (index_zero s v A b nb (omega arith))))

  -- So may the first, where it is no less deep and they differ.
  pub climb_left : (a b p : ℕ) → Node s A a → Node s A b → a ≢ b → s.index b ≤ s.index a → IsPrefix s (s.prev a) b p → IsPrefix s a b p
  climb_left a b p na nb w l i =
      record {
        left = before_trans s v A p (s.prev a) a i.left (prev_before s v A a);
        right = i.right;
        latest = λ q h k. i.latest q (⊎_elim (λ e. absurd (apart q k e)) (λ r. r) (at_or_prev s v A q a (differ_row a b na nb w l) h)) k;
      }
    where
      apart : (q : ℕ) → AtOrBefore s q b → q ≡ a → ⊥
      apart q k e =
          let k' : AtOrBefore s a b = rw e at k in
          let n = before_index s v A a b nb k' in
          w (one_index s v A a b b nb k' (before_refl s v A b) (omega arith))

  -- With steps enough for both the climb ends at the prefix.
  climb_prefix : (n a b : ℕ) → Node s A a → Node s A b → s.index a + s.index b ≤ n → IsPrefix s a b (climb s n a b)
  unfolding climb
  climb_prefix zero a b na nb l =
      let e : a ≡ b = index_zero s v A a na (omega arith) ∙ sym (index_zero s v A b nb (omega arith)) in
      before_prefix a b (rw e (before_refl s v A b))
  climb_prefix (suc n) a b na nb l =
      pick_eqb (IsPrefix s a b) a b
      (λ e. before_prefix a b (rw e (before_refl s v A b)))
      (λ w.
      by_ltb (λ t. IsPrefix s a b (climb s n (pick t a (s.prev a)) (pick t (s.prev b) b))) (s.index a) (s.index b)
      (λ h. climb_right a b _ na nb h (climb_prefix n a (s.prev b) na (prev_node s v A b nb) (let i = prev_index s v A b nb in omega arith)))
      (λ h.
      climb_left a b _ na nb w h
      (climb_prefix n (s.prev a) b (prev_node s v A a na) nb
      (let i = prev_index s v A a na in let j = v.counted A a (differ_row a b na nb w h) in omega arith))))

  -- (i) The prefix exists: what the climb yields.
  pub prefix_exists : (a b : ℕ) → Node s A a → Node s A b → IsPrefix s a b (prefix_of s a b)
  unfolding prefix_of
  prefix_exists a b na nb = climb_prefix (s.index a + s.index b) a b na nb (omega arith)

  -- (i) It is unique.
  pub prefix_unique : (a b p q : ℕ) → Node s A a → IsPrefix s a b p → IsPrefix s a b q → p ≡ q
  prefix_unique a b p q na i j = before_antisym s v A p q (before_node s v A q a na j.left) (j.latest p i.left i.right)
      (i.latest q j.left j.right)

  -- (i) It is symmetric.
  pub prefix_symmetric : (a b p : ℕ) → IsPrefix s a b p → IsPrefix s b a p
  prefix_symmetric a b p i = record { left = i.right; right = i.left; latest = λ q h k. i.latest q k h }

  -- So is what the climb yields.
  pub prefix_swap : (a b : ℕ) → Node s A a → Node s A b → prefix_of s a b ≡ prefix_of s b a
  prefix_swap a b na nb = prefix_unique a b _ _ na (prefix_exists a b na nb) (prefix_symmetric b a _ (prefix_exists b a nb na))

  -- Equation 9 of source 002 in its own words: at or before both, and nothing strictly after it is.
  pub equation_nine : (a b p : ℕ) → Node s A a → Node s A b → IsPrefix s a b p ↔
      (AtOrBefore s p a × AtOrBefore s p b × ((q : ℕ) → Before s p q → AtOrBefore s q a → AtOrBefore s q b → ⊥))
  equation_nine a b p na nb = (
    λ i. (i.left, i.right, λ q h k l. no_later i q h k l),
    λ t. record
        { left = t.0; right = t.1; latest = λ q k l. latest t.0 t.2 q k l },
  )
    where
      no_later : IsPrefix s a b p → (q : ℕ) → Before s p q → AtOrBefore s q a → AtOrBefore s q b → ⊥
      no_later i q h k l =
          let m = before_index s v A q p (before_node s v A p a na i.left) (i.latest q k l) in
          let n = strict_index s v A p q (before_node s v A q a na k) h in
          omega arith

      latest : AtOrBefore s p a → ((q : ℕ) → Before s p q → AtOrBefore s q a → AtOrBefore s q b → ⊥) → (q : ℕ) → AtOrBefore s q a → AtOrBefore s q b →
          AtOrBefore s q p
      latest pa f q k l =
          ⊎_elim (λ h. in_order s v A q p a na k pa h) (λ h. absurd (f q (lower_strict s v A p q (in_order s v A p q a na pa k (omega arith)) h) k l))
          (le? (s.index q) (s.index p))

  -- The steps of the climb, as the code takes them.
  pub prefix_same : (a b : ℕ) → Node s A a → a ≡ b → prefix_of s a b ≡ a
  prefix_same a b na e = prefix_unique a b _ _ na (prefix_exists a b na (rw e at na)) (before_prefix a b (rw e (before_refl s v A b)))

  -- The second is deeper: it climbs.
  pub prefix_right : (a b : ℕ) → Node s A a → Node s A b → s.index a < s.index b → prefix_of s a b ≡ prefix_of s a (s.prev b)
  prefix_right a b na nb l = prefix_unique a b _ _ na (prefix_exists a b na nb)
      (climb_right a b _ na nb l (prefix_exists a (s.prev b) na (prev_node s v A b nb)))

  -- Else the first climbs.
  pub prefix_left : (a b : ℕ) → Node s A a → Node s A b → a ≢ b → s.index b ≤ s.index a → prefix_of s a b ≡ prefix_of s (s.prev a) b
  prefix_left a b na nb w l = prefix_unique a b _ _ na (prefix_exists a b na nb)
      (climb_left a b _ na nb w l (prefix_exists (s.prev a) b (prev_node s v A a na) nb))

  -- The prefix is the first of the two exactly where it is at or before the second.
  pub prefix_is_first : (a b : ℕ) → Node s A a → Node s A b → (prefix_of s a b ≡ a) ↔ AtOrBefore s a b
  prefix_is_first a b na nb =
      (λ e. rw e at (prefix_exists a b na nb).right, λ p. prefix_unique a b _ _ na (prefix_exists a b na nb) (before_prefix a b p))

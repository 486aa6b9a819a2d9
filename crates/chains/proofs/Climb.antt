-- The order in the log over a valid store: steps along the previous links, and the one at each index.
-- Assumes nothing.
use Prim.Native.Nat.{ℕ, zero, suc, ◌-◌, ◌≤◌, ◌<◌, ◌+◌}
use mathlib.Core.Path.{◌≡◌, refl, sym, ap, ◌∙◌}
use mathlib.Core.Logic.{◌⊎◌, inl, inr, ⊎_elim}
use native.Mathlib.Nat.{zero-add, suc-add, sub-zero}
use native.Mathlib.Omega.{arith}
use Rattle.chains.specs.Chain.{Store, RowOf, Node, Valid, up, at, toward, AtOrBefore, Before}
use Rattle.chains.proofs.Laws.{le?}

module _ (s : Store) (v : Valid s) where
  -- Steps from none stay at none.
  pub up_none : (n : ℕ) → up s n 0 ≡ 0
  unfolding up
  up_none zero = refl
  up_none (suc n) = ap s.prev (up_none n) ∙ v.none_prev

  -- Steps after steps are added.
  pub up_up : (m n x : ℕ) → up s m (up s n x) ≡ up s (m + n) x
  unfolding up
  up_up zero n x = rw zero-add refl
  up_up (suc m) n x = rw suc-add (ap s.prev (up_up m n x))

  module _ (A : ℕ) where
    -- What stands before none or a row of the author is none or a row of the author.
    pub prev_node : (x : ℕ) → Node s A x → Node s A (s.prev x)
    prev_node x (inl e) = inl (rw e v.none_prev)
    prev_node x (inr r) = v.own A x r

    -- So it is after any number of steps.
    pub up_node : (n x : ℕ) → Node s A x → Node s A (up s n x)
    unfolding up
    up_node zero x h = h
    up_node (suc n) x h = prev_node (up s n x) (up_node n x h)

    -- A step back takes one from the index; none has index 0.
    pub prev_index : (x : ℕ) → Node s A x → s.index (s.prev x) ≡ s.index x - 1
    prev_index x (inl e) = rw (e, v.none_prev, v.none_index) refl
    prev_index x (inr r) = omega (arith, v.counted A x r)

    -- Steps take their number from the index.
    pub up_index : (n x : ℕ) → Node s A x → s.index (up s n x) ≡ s.index x - n
    unfolding up
    up_index zero x h = sym (sub-zero (s.index x))
    up_index (suc n) x h = omega (arith, prev_index (up s n x) (up_node n x h), up_index n x h)

    -- Only none has index 0, and a row's index is above it.
    pub index_zero : (x : ℕ) → Node s A x → s.index x ≡ 0 → x ≡ 0
    index_zero x (inl e) z = e
    index_zero x (inr r) z = absurd (let c = v.counted A x r in omega arith)

    -- A row has an index of 1 or more.
    pub row_index : (x : ℕ) → RowOf s A x → 1 ≤ s.index x
    row_index x r = omega (arith, v.counted A x r)

    -- What is not none is a row.
    pub node_row : (x : ℕ) → Node s A x → 1 ≤ x → RowOf s A x
    node_row x (inl e) h = absurd (omega arith)
    node_row x (inr r) h = r

    -- What has an index of 1 or more is a row.
    pub deep_row : (x : ℕ) → Node s A x → 1 ≤ s.index x → RowOf s A x
    deep_row x (inl e) h = absurd (let z : s.index x ≡ 0 = rw e v.none_index in omega arith)
    deep_row x (inr r) h = r

    -- The one at an index.
    pub at_node : (x k : ℕ) → Node s A x → Node s A (at s x k)
    unfolding at
    at_node x k h = up_node (s.index x - k) x h

    -- It has that index.
    pub at_index_lem : (x k : ℕ) → Node s A x → k ≤ s.index x → s.index (at s x k) ≡ k
    unfolding at
    at_index_lem x k h l = omega (arith, up_index (s.index x - k) x h)

    -- At its own index it is itself.
    pub at_self : (x k : ℕ) → k ≡ s.index x → at s x k ≡ x
    unfolding at up
    at_self x k e = let z : s.index x - k ≡ 0 = omega arith in rw z refl

    -- Seen from one on the way it is the same.
    pub at_at : (x k j : ℕ) → Node s A x → k ≤ s.index x → j ≤ k → at s (at s x k) j ≡ at s x j
    unfolding at
    at_at x k j h l m =
        let e = up_index (s.index x - k) x h in
        let n : s.index (up s (s.index x - k) x) - j + (s.index x - k) ≡ s.index x - j = omega arith in
        up_up (s.index (up s (s.index x - k) x) - j) (s.index x - k) x ∙ ap (λ i. up s i x) n

    -- The one at the index below is its previous row.
    pub prev_at_lem : (x k : ℕ) → suc k ≤ s.index x → s.prev (at s x (suc k)) ≡ at s x k
    unfolding at up
    prev_at_lem x k l =
        let e : suc (s.index x - suc k) ≡ s.index x - k = omega arith in
        ap (λ i. up s i x) e

    -- At or before, seen through indexes: what is at or before `b` is the one at its index.
    pub before_node : (a b : ℕ) → Node s A b → AtOrBefore s a b → Node s A a
    before_node a b h p = rw p.reach at (up_node p.steps b h)

    -- Its index is no higher.
    pub before_index : (a b : ℕ) → Node s A b → AtOrBefore s a b → s.index a ≤ s.index b
    before_index a b h p = let e : s.index a ≡ s.index b - p.steps = rw p.reach at (up_index p.steps b h) in omega arith

    -- It is the one at its index.
    pub before_at : (a b : ℕ) → Node s A b → AtOrBefore s a b → at s b (s.index a) ≡ a
    unfolding at
    before_at a b h p = ⊎_elim near far (le? p.steps (s.index b))
      where
        e : s.index a ≡ s.index b - p.steps
        e = rw p.reach at (up_index p.steps b h)

        near : p.steps ≤ s.index b → up s (s.index b - s.index a) b ≡ a
        near l = let n : s.index b - s.index a ≡ p.steps = omega (arith, e) in rw n p.reach

        far : s.index b < p.steps → up s (s.index b - s.index a) b ≡ a
        far l =
            let z : s.index a ≡ 0 = omega (arith, e) in
            let w : s.index (up s (s.index b - s.index a) b) ≡ 0 = omega (arith, up_index (s.index b - s.index a) b h) in
            index_zero _ (up_node (s.index b - s.index a) b h) w ∙ sym (index_zero a (before_node a b h p) z)

    -- And the one at an index is at or before.
    pub at_before : (b k : ℕ) → AtOrBefore s (at s b k) b
    unfolding at
    at_before b k = record { steps = s.index b - k; reach = refl }

    -- Two at or before one: the same where the index is the same, and in the order of their indexes.
    pub one_index : (a b c : ℕ) → Node s A c → AtOrBefore s a c → AtOrBefore s b c → s.index a ≡ s.index b → a ≡ b
    one_index a b c h p q e = sym (before_at a c h p) ∙ ap (at s c) e ∙ before_at b c h q

    -- The one with the lower index is at or before the other.
    pub in_order : (a b c : ℕ) → Node s A c → AtOrBefore s a c → AtOrBefore s b c → s.index a ≤ s.index b → AtOrBefore s a b
    in_order a b c h p q l =
        let e : at s b (s.index a) ≡ a =
        ap (λ z. at s z (s.index a)) (sym (before_at b c h q)) ∙ at_at c (s.index b) (s.index a) h (before_index b c h q) l ∙ before_at a c h p in
        rw e at (at_before b (s.index a))

    -- At or before is a partial order, and none is before all.
    pub before_refl : (a : ℕ) → AtOrBefore s a a
    unfolding up
    before_refl a = record { steps = 0; reach = refl }

    -- Transitive.
    pub before_trans : (a b c : ℕ) → AtOrBefore s a b → AtOrBefore s b c → AtOrBefore s a c
    before_trans a b c p q =
        record { steps = p.steps + q.steps; reach = sym (up_up p.steps q.steps c) ∙ ap (up s p.steps) q.reach ∙ p.reach }

    -- Antisymmetric.
    pub before_antisym : (a b : ℕ) → Node s A b → AtOrBefore s a b → AtOrBefore s b a → a ≡ b
    before_antisym a b h p q =
        let l = before_index a b h p in
        let m = before_index b a (before_node a b h p) q in
        one_index a b b h p (before_refl b) (omega arith)

    -- None is at or before all.
    pub none_before : (x : ℕ) → Node s A x → AtOrBefore s 0 x
    none_before x h =
        record { steps = s.index x; reach = index_zero _ (up_node (s.index x) x h) (omega (arith, up_index (s.index x) x h)) }

    -- Only none is at or before none.
    pub before_none : (x : ℕ) → AtOrBefore s x 0 → x ≡ 0
    before_none x p = sym p.reach ∙ up_none p.steps

    -- The previous row is at or before.
    pub prev_before : (x : ℕ) → AtOrBefore s (s.prev x) x
    unfolding up
    prev_before x = record { steps = 1; reach = refl }

    -- Strictly before: the index is lower, and the other way round for what is at or before.
    pub strict_index : (a b : ℕ) → Node s A b → Before s a b → s.index a < s.index b
    strict_index a b h p = ⊎_elim (λ e. absurd (p.apart (one_index a b b h p.back (before_refl b) e))) (λ l. l) split
      where
        split : (s.index a ≡ s.index b) ⊎ (s.index a < s.index b)
        split = ⊎_elim (λ l. inl (let m = before_index a b h p.back in omega arith)) inr (le? (s.index b) (s.index a))

    -- At or before with a lower index is strictly before.
    pub lower_strict : (a b : ℕ) → AtOrBefore s a b → s.index a < s.index b → Before s a b
    lower_strict a b p l = record { back = p; apart = λ e. let f : s.index a ≡ s.index b = ap s.index e in omega arith }

    -- The child of `k` toward `x`, `k` strictly before `x`: a row on `k`, at or before `x`.
    pub child_prev : (k x : ℕ) → Node s A x → Before s k x → s.prev (toward s k x) ≡ k
    child_prev k x h p = prev_at_lem x (s.index k) (strict_index k x h p) ∙ before_at k x h p.back

    -- Its index is the next one.
    pub child_index : (k x : ℕ) → Node s A x → Before s k x → s.index (toward s k x) ≡ suc (s.index k)
    child_index k x h p = at_index_lem x (suc (s.index k)) h (strict_index k x h p)

    -- It is a row.
    pub child_row : (k x : ℕ) → Node s A x → Before s k x → RowOf s A (toward s k x)
    child_row k x h p = deep_row _ (at_node x (suc (s.index k)) h) (omega (arith, child_index k x h p))

    -- The child of `k` toward a row on `k` is that row.
    pub child_self : (k c : ℕ) → RowOf s A c → s.prev c ≡ k → toward s k c ≡ c
    child_self k c r e = at_self c (suc (s.index k)) (rw (← e) (sym (v.counted A c r)))

    -- The child toward what is at or before `x` is the child toward `x`.
    pub child_back : (k y x : ℕ) → Node s A x → AtOrBefore s y x → s.index k < s.index y → toward s k y ≡ toward s k x
    child_back k y x h p l =
        ap (λ z. at s z (suc (s.index k))) (sym (before_at y x h p)) ∙ at_at x (s.index y) (suc (s.index k)) h (before_index y x h p) l

    -- A row on `k` is strictly after `k`.
    pub on_strict : (k c : ℕ) → RowOf s A c → s.prev c ≡ k → Before s k c
    on_strict k c r e = lower_strict k c (rw e at (prev_before c)) (rw (← e) (omega (arith, v.counted A c r)))

    -- What is at or before a row is that row, or at or before the one before it.
    pub at_or_prev : (y x : ℕ) → RowOf s A x → AtOrBefore s y x → (y ≡ x) ⊎ AtOrBefore s y (s.prev x)
    at_or_prev y x r p = ⊎_elim below same (le? (s.index y) (s.index (s.prev x)))
      where
        below : s.index y ≤ s.index (s.prev x) → (y ≡ x) ⊎ AtOrBefore s y (s.prev x)
        below l = inr (in_order y (s.prev x) x (inr r) p (prev_before x) l)

        same : s.index (s.prev x) < s.index y → (y ≡ x) ⊎ AtOrBefore s y (s.prev x)
        same l = inl (one_index y x x (inr r) p (before_refl x) (let m = before_index y x (inr r) p in omega (arith, v.counted A x r)))

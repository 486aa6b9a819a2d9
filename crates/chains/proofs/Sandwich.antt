-- The state of a closed set, between the set and itself: K is the state of S exactly when K is valid, stands on nothing outside
-- S, and takes in all of S. From it: a closed set has at most one state.
-- Assumes nothing.
use Prim.Native.Nat.{ℕ, zero, suc, ◌≤◌, ◌<◌}
use mathlib.Core.Path.{◌≡◌, refl, sym, ap, ◌∙◌}
use mathlib.Core.Logic.{◌⊎◌, inl, inr, ⊎_elim}
use native.Mathlib.Omega.{arith}
use Rattle.chains.specs.Chain.{Store, RowOf, Node, Valid, up, at, toward, AtOrBefore, Before, History, State, growing, forked, Evidence, ValidState}
use Rattle.chains.specs.Chain.{growing_valid, forked_valid, StandsOn, Closed, Shared, GrowingAt, ForkedAt, StateOf, Admissible}
use Rattle.chains.proofs.Laws.{le?, eq?}
use Rattle.chains.proofs.Climb.{before_index, before_refl, at_before, at_node, at_index_lem, one_index, strict_index, lower_strict, child_index}
use Rattle.chains.proofs.Climb.{child_prev, child_self, index_zero, deep_row}
use Rattle.chains.proofs.Order.{Takes, takes_below, below_antisym}

-- K stands on nothing outside the set, and takes in all of it.
pub record Sandwich (s : Store) (A : ℕ) (S : ℕ → Type 0) (K : State) : Type 0 where
  pub valid : ValidState s A K
  pub inside : (x : ℕ) → StandsOn s K x → S x
  pub above : (x : ℕ) → S x → Takes s K x

-- None, or in the set.
abbrev In : (ℕ → Type 0) → ℕ → Type 0
In S x = (x ≡ 0) ⊎ S x

module _ (s : Store) (v : Valid s) (A : ℕ) (S : ℕ → Type 0) (c : Closed s A S) where
  -- None or in the set: none or a row of the author.
  in_node : (x : ℕ) → In S x → Node s A x
  in_node x (inl e) = inl e
  in_node x (inr h) = inr (c.rows x h)

  -- Not none: in the set.
  in_row : (x : ℕ) → In S x → 1 ≤ x → S x
  in_row x (inl e) l = absurd (omega arith)
  in_row x (inr h) l = h

  -- A step back stays there.
  in_prev : (x : ℕ) → In S x → In S (s.prev x)
  in_prev x (inl e) = inl (rw e v.none_prev)
  in_prev x (inr h) = c.back x h

  -- Any number of steps back stays there.
  in_up : (n x : ℕ) → In S x → In S (up s n x)
  unfolding up
  in_up zero x h = h
  in_up (suc n) x h = in_prev (up s n x) (in_up n x h)

  -- The one at an index stays there.
  in_at : (x k : ℕ) → In S x → In S (at s x k)
  unfolding at
  in_at x k h = in_up _ x h

  -- The log history of one in the set is in the set.
  pub history_in : (l x : ℕ) → In S l → History s l x → S x
  history_in l x h p = in_row x (rw p.back.reach at (in_up p.back.steps l h)) p.some

  -- Down to the depth of the first fork the set has one row at each index.
  level : (d : ℕ) → ((x y : ℕ) → Shared s S x y → d ≤ s.index (s.prev x)) → (k x y : ℕ) → k ≤ d → In S x → In S y → s.index x ≡ k → s.index y ≡ k → x ≡ y
  level d f zero x y l p q e g = index_zero s v A x (in_node x p) e ∙ sym (index_zero s v A y (in_node y q) g)
  level d f (suc k) x y l (inl p) q e g = absurd (let z : s.index x ≡ 0 = rw p v.none_index in omega arith)
  level d f (suc k) x y l (inr p) (inl q) e g = absurd (let z : s.index y ≡ 0 = rw q v.none_index in omega arith)
  level d f (suc k) x y l (inr p) (inr q) e g =
      let i : s.index (s.prev x) ≡ k = omega (arith, v.counted A x (c.rows x p)) in
      let j : s.index (s.prev y) ≡ k = omega (arith, v.counted A y (c.rows y q)) in
      let one = level d f k (s.prev x) (s.prev y) (omega arith) (c.back x p) (c.back y q) i j in
      ⊎_elim (λ w. w) (λ w. absurd (let m = f x y record { first = p; second = q; differ = w; one = one } in omega arith)) (eq? x y)

  -- D, one way: the state of the set is valid, inside the set and above it.
  growing_sandwich : (l : ℕ) → GrowingAt s S l → Sandwich s A S (growing l)
  growing_sandwich l g =
      record { valid = growing_valid (in_node l g.last); inside = λ x p. history_in l x g.last p; above = λ x p. above x p }
    where
      above : (x : ℕ) → S x → AtOrBefore s x l
      above x p =
          let i = at_index_lem s v A l (s.index x) (in_node l g.last) (g.deepest x p) in
          let e : at s l (s.index x) ≡ x =
          level (s.index x) (λ a b h. absurd (g.single a b h)) (s.index x) _ x (omega arith) (in_at l (s.index x) g.last) (inr p) i refl in
          rw e at (at_before s v A l (s.index x))

  -- The same where the set forks.
  forked_sandwich : (l lo hi : ℕ) → ForkedAt s S l lo hi → Sandwich s A S (forked l lo hi)
  forked_sandwich l lo hi g =
      record {
        valid = forked_valid (in_node l last) evidence;
        inside = λ x p. inside x p;
        above = λ x p. ⊎_elim (near x p) (far x p)
            (le? (s.index x) (s.index l));
      }
    where
      last : In S l
      last = rw g.low_prev at (c.back lo g.low)

      evidence : Evidence s A l lo hi
      evidence =
          record { low = c.rows lo g.low; high = c.rows hi g.high; low_prev = g.low_prev; high_prev = g.high_prev; sorted = g.sorted }

      inside : (x : ℕ) → StandsOn s (forked l lo hi) x → S x
      inside x (inl p) = history_in l x last p
      inside x (inr (inl q)) = rw q g.low
      inside x (inr (inr q)) = rw q g.high

      near : (x : ℕ) → S x → s.index x ≤ s.index l → Takes s (forked l lo hi) x
      near x p j =
          let e : at s l (s.index x) ≡ x =
          level (s.index l) g.shallowest (s.index x) _ x j (in_at l (s.index x) last) (inr p) (at_index_lem s v A l (s.index x) (in_node l last) j) refl in
          inl (rw e at (at_before s v A l (s.index x)))

      far : (x : ℕ) → S x → s.index l < s.index x → Takes s (forked l lo hi) x
      far x p j =
          let n : Node s A x = inr (c.rows x p) in
          let e : at s x (s.index l) ≡ l =
          level (s.index l) g.shallowest (s.index l) _ l (omega arith) (in_at x (s.index l) (inr p)) last
          (at_index_lem s v A x (s.index l) n (omega arith)) refl in
          let q : Before s l x = lower_strict s v A l x (rw e at (at_before s v A x (s.index l))) j in
          let i = child_index s v A l x n q in
          let r : RowOf s A (toward s l x) = deep_row s v A _ (at_node s v A x _ n) (omega arith) in
          inr record { strictly = q; child = g.lowest (toward s l x) (in_row _ (in_at x (suc (s.index l)) (inr p)) r.some) (child_prev s v A l x n q) }

  -- D, one way, for either phase.
  pub state_sandwich : (K : State) → StateOf s S K → Sandwich s A S K
  state_sandwich (growing l) g = growing_sandwich l g
  state_sandwich (forked l lo hi) g = forked_sandwich l lo hi g

  -- D, the other way.
  growing_state : (l : ℕ) → Node s A l → ((x : ℕ) → History s l x → S x) → ((x : ℕ) → S x → AtOrBefore s x l) → GrowingAt s S l
  growing_state l n inside above =
      record { last = last n; deepest = λ x p. before_index s v A x l n (above x p); single = λ x y h. single x y h }
    where
      last : Node s A l → (l ≡ 0) ⊎ S l
      last (inl e) = inl e
      last (inr r) = inr (inside l record { some = r.some; back = before_refl s v A l })

      single : (x y : ℕ) → Shared s S x y → ⊥
      single x y h =
          let i = v.counted A x (c.rows x h.first) in
          let j = v.counted A y (c.rows y h.second) in
          let k : s.index (s.prev x) ≡ s.index (s.prev y) = ap s.index h.one in
          h.differ (one_index s v A x y l n (above x h.first) (above y h.second) (omega arith))

  -- The same for a forked state.
  forked_state : (l lo hi : ℕ) → Node s A l → Evidence s A l lo hi → ((x : ℕ) → StandsOn s (forked l lo hi) x → S x) →
      ((x : ℕ) → S x → Takes s (forked l lo hi) x) → ForkedAt s S l lo hi
  forked_state l lo hi n e inside above =
      record {
        low = inside lo (inr (inl refl));
        high = inside hi (inr (inr refl));
        low_prev = e.low_prev;
        high_prev = e.high_prev;
        sorted = e.sorted;
        lowest = λ x p q. lowest x p q (above x p);
        shallowest = λ x y h. shallowest x y h;
      }
    where
      lowest : (x : ℕ) → S x → s.prev x ≡ l → Takes s (forked l lo hi) x → Admissible s lo hi x
      lowest x p q (inl b) = absurd (let i = v.counted A x (c.rows x p) in let j : s.index (s.prev x) ≡ s.index l = ap s.index q in let k =
          before_index s v A x l n b in omega arith)
      lowest x p q (inr b) = rw (child_self s v A l x (c.rows x p) q) at b.child

      near : (x : ℕ) → S x → s.index x ≤ s.index l → AtOrBefore s x l
      near x p j = ⊎_elim (λ b. b) (λ b. absurd (let k = strict_index s v A l x (inr (c.rows x p)) b.strictly in omega arith)) (above x p)

      shallowest : (x y : ℕ) → Shared s S x y → s.index l ≤ s.index (s.prev x)
      shallowest x y h = ⊎_elim (λ j. j) high (le? (s.index l) (s.index (s.prev x)))
        where
          high : s.index (s.prev x) < s.index l → s.index l ≤ s.index (s.prev x)
          high j =
              let i = v.counted A x (c.rows x h.first) in
              let k = v.counted A y (c.rows y h.second) in
              let m : s.index (s.prev x) ≡ s.index (s.prev y) = ap s.index h.one in
              absurd (h.differ (one_index s v A x y l n (near x h.first (omega arith)) (near y h.second (omega arith)) (omega arith)))

  -- D, the other way, for either phase.
  pub sandwich_state : {K : State} → Sandwich s A S K → StateOf s S K
  sandwich_state {K} w = go w.valid w.inside w.above
    where
      go : {K : State} → ValidState s A K → ((x : ℕ) → StandsOn s K x → S x) → ((x : ℕ) → S x → Takes s K x) → StateOf s S K
      go (growing_valid {l = l} n) f g = growing_state l n f g
      go (forked_valid {l = l} {lo = lo} {hi = hi} n e) f g = forked_state l lo hi n e f g

  -- Of two states inside one set and above it, each is at or below the other.
  pub sandwich_unique : {K M : State} → Sandwich s A S K → Sandwich s A S M → K ≡ M
  sandwich_unique p q =
      below_antisym s v A p.valid q.valid (takes_below s v A p.valid q.valid (λ x h. q.above x (p.inside x h)))
      (takes_below s v A q.valid p.valid (λ x h. p.above x (q.inside x h)))

  -- The state of a closed set is unique.
  pub state_unique : (K M : State) → StateOf s S K → StateOf s S M → K ≡ M
  state_unique K M p q = sandwich_unique (state_sandwich K p) (state_sandwich M q)

-- Closed sets of one author's messages, over one valid store: each decided one has its state (a), and what a state stands on may
-- stand for the set that it is the state of (c).
-- Assumes nothing.
use Prim.Native.Nat.{ℕ, zero, suc, ◌≤◌, ◌<◌}
use mathlib.Core.Path.{◌≡◌, refl, subst}
use mathlib.Core.Logic.{◌⊎◌, inl, inr, ⊎_elim, ◌↔◌}
use native.Mathlib.Omega.{arith}
use Rattle.chains.specs.Chain.{Store, RowOf, Node, Valid, at, AtOrBefore, History, State, growing, forked, ValidState, growing_valid, forked_valid}
use Rattle.chains.specs.Chain.{StandsOn, Closed, StateOf, Union, add}
use Rattle.chains.specs.Merging.{Decided}
use Rattle.chains.proofs.Laws.{le?, eq?}
use Rattle.chains.proofs.Climb.{before_at, at_before, before_refl, before_none, prev_before, before_trans}
use Rattle.chains.proofs.Order.{Takes, stands_takes, takes_on, takes_below, stands_row, history_row}
use Rattle.chains.proofs.Sandwich.{Sandwich, history_in, state_sandwich, sandwich_state, state_unique}
use Rattle.chains.proofs.Add.{Adds, add_adds}

module _ (s : Store) (v : Valid s) (A : ℕ) where
  -- SETS

  -- The log history of a row or none, what a state stands on, and a union of two are closed.
  pub history_closed : (l : ℕ) → Node s A l → Closed s A (History s l)
  history_closed l n = record { rows = λ x h. history_row s v A l x n h; back = λ x h. back x h }
    where
      back : (x : ℕ) → History s l x → (s.prev x ≡ 0) ⊎ History s l (s.prev x)
      back x h =
          ⊎_elim inl (λ r. inr record { some = r.some; back = before_trans s v A (s.prev x) x l (prev_before s v A x) h.back })
          (v.own A x (history_row s v A l x n h))

  -- What a valid state stands on is closed.
  pub stands_closed : {K : State} → ValidState s A K → Closed s A (StandsOn s K)
  stands_closed (growing_valid {l = l} n) = history_closed l n
  stands_closed (forked_valid {l = l} {lo = lo} {hi = hi} n e) = record { rows = λ x h. stands_row s v A (forked_valid n e) x h; back = λ x h. back x h }
    where
      last : Node s A l → (l ≡ 0) ⊎ StandsOn s (forked l lo hi) l
      last (inl q) = inl q
      last (inr r) = inr (inl record { some = r.some; back = before_refl s v A l })

      back : (x : ℕ) → StandsOn s (forked l lo hi) x → (s.prev x ≡ 0) ⊎ StandsOn s (forked l lo hi) (s.prev x)
      back x (inl h) = ⊎_elim inl (λ g. inr (inl g)) ((history_closed l n).back x h)
      back x (inr (inl q)) = rw (q, e.low_prev) (last n)
      back x (inr (inr q)) = rw (q, e.high_prev) (last n)

  -- The union of two closed sets is closed.
  pub union_closed : {U W : ℕ → Type 0} → Closed s A U → Closed s A W → Closed s A (Union U W)
  union_closed {U} {W} c d = record { rows = λ x. rows x; back = λ x. back x }
    where
      rows : (x : ℕ) → Union U W x → RowOf s A x
      rows x (inl h) = c.rows x h
      rows x (inr h) = d.rows x h

      back : (x : ℕ) → Union U W x → (s.prev x ≡ 0) ⊎ Union U W (s.prev x)
      back x (inl h) = ⊎_elim inl (λ g. inr (inl g)) (c.back x h)
      back x (inr h) = ⊎_elim inl (λ g. inr (inr g)) (d.back x h)

  -- What two valid states stand on is closed.
  pub stand_closed : {L K : State} → ValidState s A L → ValidState s A K → Closed s A (Union (StandsOn s L) (StandsOn s K))
  stand_closed vl vk = union_closed (stands_closed vl) (stands_closed vk)

  -- Two sets with the same members.
  pub sandwich_ext : {U W : ℕ → Type 0} {K : State} → ((x : ℕ) → U x → W x) → ((x : ℕ) → W x → U x) → Sandwich s A U K → Sandwich s A W K
  sandwich_ext f g w = record { valid = w.valid; inside = λ x h. f x (w.inside x h); above = λ x h. w.above x (g x h) }

  -- A valid state is the state of what it stands on.
  pub own_sandwich : {K : State} → ValidState s A K → Sandwich s A (StandsOn s K) K
  own_sandwich w = record { valid = w; inside = λ x h. h; above = stands_takes s v A w }

  -- What the state of U stands on may stand for U.
  pub reduce : {U W : ℕ → Type 0} {K M : State} → ((x : ℕ) → U x → RowOf s A x) → Sandwich s A U K → Sandwich s A (Union (StandsOn s K) W) M →
      Sandwich s A (Union U W) M
  reduce {U} {W} {K} {M} r p q = record { valid = q.valid; inside = λ x h. inside x (q.inside x h); above = λ x. above x }
    where
      inside : (x : ℕ) → Union (StandsOn s K) W x → Union U W x
      inside x (inl h) = inl (p.inside x h)
      inside x (inr h) = inr h

      above : (x : ℕ) → Union U W x → Takes s M x
      above x (inl h) =
          takes_on s v A p.valid q.valid (takes_below s v A p.valid q.valid (λ y g. q.above y (inl g))) x (inr (r x h)) (p.above x h)
      above x (inr h) = q.above x (inr h)

  -- (c) Reduction: for closed U and W, the state of (what the state of U stands on, with W) is the state of (U with W).
  pub reduction : (U W : ℕ → Type 0) (K M : State) → Closed s A U → Closed s A W → StateOf s U K → StateOf s (Union (StandsOn s K) W) M → StateOf s
      (Union U W) M
  reduction U W K M c d p q =
      let k = state_sandwich s v A U c K p in
      sandwich_state s v A (Union U W) (union_closed c d) (reduce c.rows k
      (state_sandwich s v A (Union (StandsOn s K) W) (union_closed (stands_closed k.valid) d) M q))

  -- (a) A state: unique, there for every decided closed set, and growing at none for the empty one.

  -- The rows of the set up to `n`, added one by one.
  record UpTo (S : ℕ → Type 0) (n : ℕ) : Type 0 where
    state : State
    valid : ValidState s A state
    inside : (x : ℕ) → StandsOn s state x → S x
    above : (x : ℕ) → x ≤ n → S x → Takes s state x

  -- The next row is in the set: it is added.
  one_more : (S : ℕ → Type 0) → Closed s A S → (n : ℕ) → UpTo S n → S (suc n) → UpTo S (suc n)
  one_more S c n w h =
      record {
        state = add s w.state (suc n);
        valid = m.valid;
        inside = λ x g. ⊎_elim (w.inside x) (history_in s v A S c (suc n) x (inr h)) (m.inside x g);
        above = λ x l g. ⊎_elim (λ k. takes_on s v A w.valid m.valid m.over x (inr (c.rows x g)) (w.above x k g)) (λ k. last x l k) (le? x n);
      }
    where
      m : Adds s A w.state (suc n) (add s w.state (suc n))
      m = add_adds s v A w.valid (suc n) (inr (c.rows (suc n) h))

      last : (x : ℕ) → x ≤ suc n → n < x → Takes s (add s w.state (suc n)) x
      last x l k = let e : x ≡ suc n = omega arith in rw e m.takes

  -- The next row is not in the set.
  passed_over : (S : ℕ → Type 0) (n : ℕ) → UpTo S n → (S (suc n) → ⊥) → UpTo S (suc n)
  passed_over S n w h =
      record {
        state = w.state;
        valid = w.valid;
        inside = w.inside;
        above = λ x l g. ⊎_elim (λ k. w.above x k g) (λ k. absurd (let e : x ≡ suc n = omega arith in h (rw e at g))) (le? x n);
      }

  -- All rows, one after the other.
  up_to : (S : ℕ → Type 0) → Closed s A S → Decided S → (n : ℕ) → UpTo S n
  up_to S c d zero =
      record {
        state = growing 0;
        valid = growing_valid (inl refl);
        inside = λ x h. absurd (let e = before_none s v A x h.back in let g = h.some in omega arith);
        above = λ x l h. absurd (let g = (c.rows x h).some in omega arith);
      }
  up_to S c d (suc n) = ⊎_elim (one_more S c n (up_to S c d n)) (passed_over S n (up_to S c d n)) (d (suc n))

  -- (a) Every decided closed set has a state.
  pub state_exists : (S : ℕ → Type 0) → Closed s A S → Decided S → (K : State) × StateOf s S K
  state_exists S c d =
      let w = up_to S c d s.count in
      (w.state, sandwich_state s v A S c record { valid = w.valid; inside = w.inside; above = λ x h. w.above x (c.rows x h).held h })

  -- (a) "The empty set gives growing at none."
  pub empty_state : StateOf s (λ x. ⊥) (growing 0)
  empty_state = record { last = inl refl; deepest = λ x h. absurd h; single = λ x y h. h.first }

  -- What a valid state stands on is decided.
  pub before_decided : (a b : ℕ) → Node s A b → AtOrBefore s a b ⊎ (AtOrBefore s a b → ⊥)
  before_decided a b n = ⊎_elim (λ e. inl (rw e at (at_before s v A b (s.index a)))) (λ w. inr (λ p. w (before_at s v A a b n p)))
      (eq? (at s b (s.index a)) a)

  -- A log history is decided.
  history_decided : (l : ℕ) → Node s A l → Decided (History s l)
  history_decided l n x =
      ⊎_elim (λ some. ⊎_elim (λ p. inl record { some = some; back = p }) (λ w. inr (λ h. w h.back)) (before_decided x l n))
      (λ z. inr (λ h. let g = h.some in omega arith)) (le? 1 x)

  -- A union of decided sets is decided.
  pub union_decided : (U W : ℕ → Type 0) → Decided U → Decided W → Decided (Union U W)
  union_decided U W d e x = ⊎_elim (λ h. inl (inl h)) (λ n. ⊎_elim (λ h. inl (inr h)) (λ m. inr (⊎_elim n m)) (e x)) (d x)

  -- What a valid state stands on is decided.
  pub stands_decided : {K : State} → ValidState s A K → Decided (StandsOn s K)
  stands_decided (growing_valid {l = l} n) = history_decided l n
  stands_decided (forked_valid {l = l} {lo = lo} {hi = hi} n e) =
      union_decided (History s l) (Union (λ x. x ≡ lo) (λ x. x ≡ hi)) (history_decided l n)
      (union_decided (λ x. x ≡ lo) (λ x. x ≡ hi) (λ x. eq? x lo) (λ x. eq? x hi))

  -- (c), both ways where W is decided.
  pub reduction_iff : (U W : ℕ → Type 0) (K M : State) → Closed s A U → Closed s A W → Decided W → StateOf s U K → StateOf s (Union (StandsOn s K) W)
      M ↔ StateOf s (Union U W) M
  reduction_iff U W K M c d dec p = (reduction U W K M c d p, back)
    where
      vk : ValidState s A K
      vk = (state_sandwich s v A U c K p).valid

      there : (N : State) × StateOf s (Union (StandsOn s K) W) N
      there = state_exists (Union (StandsOn s K) W) (union_closed (stands_closed vk) d) (union_decided (StandsOn s K) W (stands_decided vk) dec)

      back : StateOf s (Union U W) M → StateOf s (Union (StandsOn s K) W) M
      back q =
          let e : there.0 ≡ M = state_unique s v A (Union U W) (union_closed c d) there.0 M (reduction U W K there.0 c d p there.1) q in
          subst (StateOf s (Union (StandsOn s K) W)) e there.1

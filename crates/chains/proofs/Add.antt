-- One more row: `add` gives the state of what K stands on together with the row's log history.
-- Assumes nothing.
use Prim.Native.Nat.{ℕ, suc, ◌≤◌, ◌<◌}
use mathlib.Core.Path.{◌≡◌, refl, ◌∙◌}
use mathlib.Core.Logic.{◌⊎◌, inl, inr, ⊎_elim, ◌≢◌}
use native.Mathlib.Omega.{arith}
use lib.Dec.{ltb}
use Rattle.basics.specs.Pick.{both}
use Rattle.chains.specs.Chain.{Store, RowOf, Node, Valid, toward, AtOrBefore, Before, History, IsPrefix, prefix_of, State, growing, forked, last_of}
use Rattle.chains.specs.Chain.{Evidence, ValidState, growing_valid, forked_valid, StandsOn, Admissible, Beyond, AtOrBelow, sorted_at, with_child, extend}
use Rattle.chains.specs.Chain.{add}
use Rattle.basics.proofs.Decisions.{decides_both}
use Rattle.chains.proofs.Laws.{le?, decides_ltb, pick_eqb, pick_ltb, pick_decides}
use Rattle.chains.proofs.Climb.{before_node, before_index, before_refl, before_trans, at_before, child_prev, child_index, child_row}
use Rattle.chains.proofs.Prefix.{prefix_exists}
use Rattle.chains.proofs.Order.{Takes, last_node, below_refl}

-- What a row's history is to K, added to it, gives M: valid, above K, takes the row in, and stands on nothing else.
pub record Adds (s : Store) (A : ℕ) (K : State) (x : ℕ) (M : State) : Type 0 where
  pub valid : ValidState s A M
  pub over : AtOrBelow s K M
  pub takes : Takes s M x
  pub inside : (y : ℕ) → StandsOn s M y → StandsOn s K y ⊎ History s x y

-- The log history of its last is what a state stands on.
pub stands_history : (s : Store) (K : State) (y : ℕ) → History s (last_of K) y → StandsOn s K y
stands_history s (growing l) y h = h
stands_history s (forked l lo hi) y h = inl h

module _ (s : Store) (v : Valid s) (A : ℕ) where
  -- A history goes on back from what is at or before.
  pub history_back : (p x y : ℕ) → AtOrBefore s p x → History s p y → History s x y
  history_back p x y b h = record { some = h.some; back = before_trans s v A y p x h.back b }

  -- What is at or before its last, a state takes in.
  pub last_takes : {K : State} → ValidState s A K → (x : ℕ) → AtOrBefore s x (last_of K) → Takes s K x
  last_takes (growing_valid h) x p = p
  last_takes (forked_valid h e) x p = inl p

  -- A state whose last is beyond a forked one is at or below it.
  pub beyond_below : {K : State} → ValidState s A K → (p lo hi : ℕ) → Beyond s p lo hi (last_of K) → AtOrBelow s K (forked p lo hi)
  beyond_below (growing_valid h) p lo hi b = inr b
  beyond_below (forked_valid h e) p lo hi b = inl b

  -- The child toward a row is in the row's history.
  pub child_history : (k x : ℕ) → Node s A x → Before s k x → History s x (toward s k x)
  child_history k x n b = record { some = (child_row s v A k x n b).some; back = at_before s v A x (suc (s.index k)) }

  -- The row is at or before last: nothing changes.
  stay : {K : State} → ValidState s A K → (x : ℕ) → AtOrBefore s x (last_of K) → Adds s A K x K
  stay w x b = record { valid = w; over = below_refl s v A w; takes = last_takes w x b; inside = λ y h. inl h }

  -- A third child of last: the two lowest of the three.
  third : (l lo hi x : ℕ) → Node s A l → Evidence s A l lo hi → Node s A x → Before s l x → Adds s A (forked l lo hi) x (with_child s l lo hi (toward s l x))
  third l lo hi x n e nx b =
      pick_ltb (Adds s A (forked l lo hi) x) (s.key c) (s.key lo) lowest
      (λ g.
      pick_decides (Adds s A (forked l lo hi) x) (both (ltb (s.key lo) (s.key c)) (ltb (s.key c) (s.key hi)))
      (decides_both (ltb (s.key lo) (s.key c)) (ltb (s.key c) (s.key hi)) (decides_ltb (s.key lo) (s.key c)) (decides_ltb (s.key c) (s.key hi)))
      middle
      (λ w. none (admissible g w)))
    where
      c : ℕ
      c = toward s l x

      r : RowOf s A c
      r = child_row s v A l x nx b

      q : s.prev c ≡ l
      q = child_prev s v A l x nx b

      lowest : s.key c < s.key lo → Adds s A (forked l lo hi) x (forked l c lo)
      lowest h =
          record {
            valid = forked_valid n record { low = r; high = e.low; low_prev = q; high_prev = e.low_prev; sorted = h };
            over = inr record { same = refl; low = inr (omega arith); high = inr (let g = e.sorted in omega arith) };
            takes = inr record { strictly = b; child = inl refl };
            inside = λ y. inside y;
          }
        where
          inside : (y : ℕ) → StandsOn s (forked l c lo) y → StandsOn s (forked l lo hi) y ⊎ History s x y
          inside y (inl g) = inl (inl g)
          inside y (inr (inl g)) = inr (rw g (child_history l x nx b))
          inside y (inr (inr g)) = inl (inr (inl g))

      middle : (s.key lo < s.key c) × (s.key c < s.key hi) → Adds s A (forked l lo hi) x (forked l lo c)
      middle g =
          record {
            valid = forked_valid n record { low = e.low; high = r; low_prev = e.low_prev; high_prev = q; sorted = g.0 };
            over = inr record { same = refl; low = inl refl; high = inr (omega arith) };
            takes = inr record { strictly = b; child = inr (omega arith) };
            inside = λ y. inside y;
          }
        where
          inside : (y : ℕ) → StandsOn s (forked l lo c) y → StandsOn s (forked l lo hi) y ⊎ History s x y
          inside y (inl g) = inl (inl g)
          inside y (inr (inl g)) = inl (inr (inl g))
          inside y (inr (inr g)) = inr (rw g (child_history l x nx b))

      admissible : s.key lo ≤ s.key c → ((s.key lo < s.key c) × (s.key c < s.key hi) → ⊥) → Admissible s lo hi c
      admissible g w =
          ⊎_elim inr
          (λ h. inl (v.distinct A A c lo r e.low (⊎_elim (λ k. omega arith) (λ k. absurd (w (k, h))) (le? (s.key c) (s.key lo)))))
          (le? (s.key hi) (s.key c))

      none : Admissible s lo hi c → Adds s A (forked l lo hi) x (forked l lo hi)
      none a =
          record {
            valid = forked_valid n e;
            over = below_refl s v A (forked_valid n e);
            takes = inr record { strictly = b; child = a };
            inside = λ y g. inl g;
          }

  -- The row is strictly after last.
  extend_adds : {K : State} → ValidState s A K → (x : ℕ) → Node s A x → Before s (last_of K) x → Adds s A K x (extend s K x)
  extend_adds (growing_valid h) x n b =
      record { valid = growing_valid n; over = b.back; takes = before_refl s v A x; inside = λ y g. inr g }
  extend_adds (forked_valid {l = l} {lo = lo} {hi = hi} h e) x n b = third l lo hi x h e n b

  -- The prefix is strictly before both: the fork is there.
  split_adds : {K : State} → ValidState s A K → (x p : ℕ) → Node s A x → IsPrefix s (last_of K) x p → p ≢ last_of K → p ≢ x → Adds s A K x
      (sorted_at s p (toward s p (last_of K)) (toward s p x))
  split_adds {K} w x p n i u t =
      pick_ltb (Adds s A K x) (s.key c) (s.key d)
      (λ h. built c d record { low = rc; high = rd; low_prev = qc; high_prev = qd; sorted = h } (inl refl) (inr (omega arith)) (λ y g. g))
      (λ h. built d c record { low = rd; high = rc; low_prev = qd; high_prev = qc; sorted = strict h } (inr (omega arith)) (inl refl) (λ y g. ⊎_elim inr inl g))
    where
      l : ℕ
      l = last_of K

      bl : Before s p l
      bl = record { back = i.left; apart = u }

      bx : Before s p x
      bx = record { back = i.right; apart = t }

      c : ℕ
      c = toward s p l

      d : ℕ
      d = toward s p x

      rc : RowOf s A c
      rc = child_row s v A p l (last_node s v A w) bl

      rd : RowOf s A d
      rd = child_row s v A p x n bx

      qc : s.prev c ≡ p
      qc = child_prev s v A p l (last_node s v A w) bl

      qd : s.prev d ≡ p
      qd = child_prev s v A p x n bx

      differ : c ≡ d → ⊥
      differ e =
          let back : AtOrBefore s c p = i.latest c (at_before s v A l (suc (s.index p))) (rw e (at_before s v A x (suc (s.index p)))) in
          let m = before_index s v A c p (before_node s v A p x n i.right) back in
          let k = child_index s v A p l (last_node s v A w) bl in
          omega arith

      strict : s.key d ≤ s.key c → s.key d < s.key c
      strict h = ⊎_elim (λ g. absurd (differ (v.distinct A A c d rc rd (omega arith)))) (λ g. g) (le? (s.key c) (s.key d))

      built : (lo hi : ℕ) → Evidence s A p lo hi → Admissible s lo hi c → Admissible s lo hi d → ((y : ℕ) → ((y ≡ lo) ⊎ (y ≡ hi)) → (y ≡ c) ⊎ (y ≡ d))
          → Adds s A K x (forked p lo hi)
      built lo hi e ac ad f =
          record {
            valid = forked_valid (before_node s v A p x n i.right) e;
            over = beyond_below w p lo hi record { strictly = bl; child = ac };
            takes = inr record { strictly = bx; child = ad };
            inside = λ y. inside y;
          }
        where
          from : (y : ℕ) → (y ≡ c) ⊎ (y ≡ d) → StandsOn s K y ⊎ History s x y
          from y (inl g) = inl (stands_history s K y (rw g (child_history p l (last_node s v A w) bl)))
          from y (inr g) = inr (rw g (child_history p x n bx))

          inside : (y : ℕ) → StandsOn s (forked p lo hi) y → StandsOn s K y ⊎ History s x y
          inside y (inl g) = inr (history_back p x y i.right g)
          inside y (inr g) = from y (f y g)

  -- The promise of `add`.
  pub add_adds : {K : State} → ValidState s A K → (x : ℕ) → Node s A x → Adds s A K x (add s K x)
  unfolding add
  add_adds {K} w x n =
      pick_eqb (Adds s A K x) p x
      (λ e. stay w x (rw e at i.left))
      (λ t.
      pick_eqb (Adds s A K x) p (last_of K)
      (λ e. extend_adds w x n record { back = rw e at i.right; apart = λ g. t (e ∙ g) })
      (λ u. split_adds w x p n i u t))
    where
      p : ℕ
      p = prefix_of s (last_of K) x

      i : IsPrefix s (last_of K) x p
      i = prefix_exists s v A (last_of K) x (last_node s v A w) n

-- All rows of an author carried into another store: what a state stands on, that it is valid, and merges are carried with it.
-- Assumes nothing.
use Prim.Native.Nat.{ℕ, zero, suc, ◌≤◌}
use mathlib.Core.Path.{◌≡◌, refl, sym, ap, ◌∙◌}
use mathlib.Core.Logic.{inl, inr, ⊎_elim, ◌↔◌}
use native.Mathlib.Omega.{arith}
use Rattle.chains.specs.Chain.{Store, RowOf, Node, Valid, up, History, State, growing, forked, ValidState, growing_valid, forked_valid}
use Rattle.chains.specs.Chain.{StandsOn, Union, IsMerge}
use Rattle.chains.specs.Elsewhere.{CarriesOn, Image, carried}
use Rattle.chains.proofs.Elsewhere.{carries_less, image_closed, state_carried}
use Rattle.chains.proofs.Sandwich.{state_sandwich, sandwich_state}
use Rattle.chains.proofs.Sets.{stand_closed, sandwich_ext}

module _ (s u : Store) (v : Valid s) (w : Valid u) (A B : ℕ) (f : ℕ → ℕ) (e : CarriesOn s u A B (RowOf s A) f) where
  -- None, or a row, is carried to none, or a row, that stands on what its predecessor is carried to.
  node_carried : (x : ℕ) → Node s A x → Node u B (f x)
  node_carried x (inl z) = inl (ap f z ∙ e.none)
  node_carried x (inr r) = inr (e.row x r)

  prev_carried : (x : ℕ) → Node s A x → u.prev (f x) ≡ f (s.prev x)
  prev_carried x (inl z) = ap (λ y. u.prev (f y)) z ∙ ap u.prev e.none ∙ w.none_prev ∙ sym (ap (λ y. f (s.prev y)) z ∙ ap f v.none_prev ∙ e.none)
  prev_carried x (inr r) = e.prev x r

  prev_node : (x : ℕ) → Node s A x → Node s A (s.prev x)
  prev_node x (inl z) = inl (ap s.prev z ∙ v.none_prev)
  prev_node x (inr r) = v.own A x r

  -- So previous links lead to what they lead to.
  up_carried : (n x : ℕ) → Node s A x → Node s A (up s n x) × (up u n (f x) ≡ f (up s n x))
  unfolding up
  up_carried zero x h = (h, refl)
  up_carried (suc n) x h =
      let i = up_carried n x h in
      (prev_node (up s n x) i.0, ap u.prev i.1 ∙ prev_carried (up s n x) i.0)

  -- Only none is carried to none.
  carried_some : (x : ℕ) → Node s A x → 1 ≤ f x → 1 ≤ x
  carried_some x (inl z) h = absurd (let n : f x ≡ 0 = ap f z ∙ e.none in omega arith)
  carried_some x (inr r) h = r.some

  row_some : (x : ℕ) → Node s A x → 1 ≤ x → 1 ≤ f x
  row_some x (inl z) h = absurd (omega arith)
  row_some x (inr r) h = (e.row x r).some

  -- A log history is carried to the log history,
  history_carried : (l c : ℕ) → Node s A l → History u (f l) c ↔ Image f (History s l) c
  history_carried l c h = (to, from)
    where
      to : History u (f l) c → Image f (History s l) c
      to g =
          let n = g.back.steps in
          let i = up_carried n l h in
          let q : f (up s n l) ≡ c = sym i.1 ∙ g.back.reach in
          let o = g.some in
          record {
            from = up s n l;
            member = record { some = carried_some (up s n l) i.0 (omega arith); back = record { steps = n; reach = refl } };
            here = q;
          }

      from : Image f (History s l) c → History u (f l) c
      from g =
          let n = g.member.back.steps in
          let i = up_carried n l h in
          let r = g.member.back.reach in
          let o = row_some (up s n l) i.0 (let k = g.member.some in omega arith) in
          let q : f (up s n l) ≡ c = ap f r ∙ g.here in
          record { some = omega arith; back = record { steps = n; reach = i.1 ∙ q } }

  -- what a valid state stands on is carried to what the carried state stands on,
  pub stands_carried : (L : State) → ValidState s A L → (c : ℕ) → StandsOn u (carried f L) c ↔ Image f (StandsOn s L) c
  stands_carried (growing l) (growing_valid n) c = history_carried l c n
  stands_carried (forked l lo hi) (forked_valid n x) c = (to, λ g. from g.from g.here g.member)
    where
      to : StandsOn u (forked (f l) (f lo) (f hi)) c → Image f (StandsOn s (forked l lo hi)) c
      to (inl g) = let i = (history_carried l c n).0 g in record { from = i.from; member = inl i.member; here = i.here }
      to (inr (inl g)) = record { from = lo; member = inr (inl refl); here = sym g }
      to (inr (inr g)) = record { from = hi; member = inr (inr refl); here = sym g }

      from : (y : ℕ) → f y ≡ c → StandsOn s (forked l lo hi) y → StandsOn u (forked (f l) (f lo) (f hi)) c
      from y q (inl g) = inl ((history_carried l c n).1 (record { from = y; member = g; here = q }))
      from y q (inr (inl g)) = inr (inl (sym q ∙ ap f g))
      from y q (inr (inr g)) = inr (inr (sym q ∙ ap f g))

  -- which is valid.
  pub valid_carried : (L : State) → ValidState s A L → ValidState u B (carried f L)
  valid_carried (growing l) (growing_valid n) = growing_valid (node_carried l n)
  valid_carried (forked l lo hi) (forked_valid n x) =
      forked_valid (node_carried l n)
      record {
        low = e.row lo x.low;
        high = e.row hi x.high;
        low_prev = e.prev lo x.low ∙ ap f x.low_prev;
        high_prev = e.prev hi x.high ∙ ap f x.high_prev;
        sorted = let a = e.key lo x.low in let b = e.key hi x.high in let o = x.sorted in omega arith;
      }

  -- A merge is carried to the merge.
  pub merge_carried : (L K M : State) → ValidState s A L → ValidState s A K → IsMerge s L K M → IsMerge u (carried f L) (carried f K) (carried f M)
  merge_carried L K M p q m =
      let S = Union (StandsOn s L) (StandsOn s K) in
      let c = stand_closed s v A p q in
      let g = carries_less s u A B (RowOf s A) S f e c c.rows in
      let d = image_closed s u v w A B S f g in
      let k = state_sandwich u w B (Image f S) d (carried f M) (state_carried s u v w A B S f g M m) in
      sandwich_state u w B (Union (StandsOn u (carried f L)) (StandsOn u (carried f K))) (stand_closed u w B (valid_carried L p) (valid_carried K q))
      (sandwich_ext u w B to from k)
    where
      to : (c : ℕ) → Image f (Union (StandsOn s L) (StandsOn s K)) c → Union (StandsOn u (carried f L)) (StandsOn u (carried f K)) c
      to c g =
          ⊎_elim (λ h. inl ((stands_carried L p c).1 (record { from = g.from; member = h; here = g.here })))
          (λ h. inr ((stands_carried K q c).1 (record { from = g.from; member = h; here = g.here }))) g.member

      from : (c : ℕ) → Union (StandsOn u (carried f L)) (StandsOn u (carried f K)) c → Image f (Union (StandsOn s L) (StandsOn s K)) c
      from c (inl h) = let i = (stands_carried L p c).0 h in record { from = i.from; member = inl i.member; here = i.here }
      from c (inr h) = let i = (stands_carried K q c).0 h in record { from = i.from; member = inr i.member; here = i.here }

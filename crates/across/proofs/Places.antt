-- Two stores that agree on ids: places with one id lead back to places with one id, so a message that both hold has its log history in both.
-- Assumes nothing.
use Prim.Native.Nat.{ℕ, zero, suc, ◌≤◌}
use mathlib.Core.Path.{◌≡◌, refl, sym, ap, ◌∙◌, subst}
use mathlib.Core.Logic.{inl, inr, ⊎_elim}
use mathlib.Core.List.{List}
use mathlib.Core.Option.{none, some}
use native.Mathlib.Omega.{arith}
use native.Mathlib.Nat.{eq-zero-or-pos}
use Rattle.store.specs.Table.{Table, WellFormed, prev_of, index_of, id_at}
use Rattle.store.specs.Paper.{Message}
use Rattle.store.proofs.Facts.{prev_older, index_counted}
use Rattle.store.proofs.Validity.{none_prev, none_index}
use Rattle.chains.specs.Chain.{up, History}
use Rattle.logs.specs.Held.{chain_of}
use Rattle.standing.specs.Standing.{id_of}
use Rattle.standing.proofs.Rows.{Place, id_none, id_some}
use Rattle.across.specs.Stores.{TwoStores}
use Rattle.across.specs.Ids.{HasId}

-- An id is not none.
pub some_id : {x : List ℕ} → some x ≡ none → ⊥
some_id e = let z : ◌≡◌ {A = ℕ} 0 1 = cc in omega arith

-- Two ids that are one.
pub same_id_lem : {x y : List ℕ} → some x ≡ some y → x ≡ y
same_id_lem e = cc

-- Before a place stands a place.
pub prev_place : (t : Table) → WellFormed t → (x : ℕ) → Place t x → Place t (prev_of t x)
prev_place t w x (inl e) = inl (ap (prev_of t) e ∙ none_prev t)
prev_place t w x (inr m) =
    ⊎_elim inl (λ p. inr (record { some = p; held = let o = prev_older t w x m.held m.some in let h = m.held in omega arith }))
    (eq-zero-or-pos (prev_of t x))

module _ (t u : Table) (s : TwoStores t u) where
  -- Places with one id are both none or both rows, with one id.
  both_some : (x y : ℕ) → Place t x → Place u y → id_of t x ≡ id_of u y → 1 ≤ x → Message u y × (id_at t x ≡ id_at u y)
  both_some x y p (inl z) e h = absurd (some_id (sym (id_some t x h) ∙ e ∙ id_none u y z))
  both_some x y p (inr m) e h = (m, same_id_lem (sym (id_some t x h) ∙ e ∙ id_some u y m.some))

  -- Their previous places have one id, too:
  pub same_prev_lem : (x y : ℕ) → Place t x → Place u y → id_of t x ≡ id_of u y → id_of t (prev_of t x) ≡ id_of u (prev_of u y)
  same_prev_lem x y (inl z) (inl v) e =
      id_none t (prev_of t x) (ap (prev_of t) z ∙ none_prev t) ∙ sym (id_none u (prev_of u y) (ap (prev_of u) v ∙ none_prev u))
  same_prev_lem x y (inl z) (inr n) e = absurd (some_id (sym (id_some u y n.some) ∙ sym e ∙ id_none t x z))
  same_prev_lem x y (inr m) p e = let q = both_some x y (inr m) p e m.some in s.agree.previous x y m q.0 q.1

  -- so have all places that previous links lead to,
  pub same_up : (n x y : ℕ) → Place t x → Place u y → id_of t x ≡ id_of u y
      → (Place t (up (chain_of t) n x) × Place u (up (chain_of u) n y)) × (id_of t (up (chain_of t) n x) ≡ id_of u (up (chain_of u) n y))
  unfolding up
  same_up zero x y p q e = ((p, q), e)
  same_up (suc n) x y p q e =
      let i = same_up n x y p q e in
      let a = up (chain_of t) n x in
      let b = up (chain_of u) n y in
      ((prev_place t s.first a i.0.0, prev_place u s.second b i.0.1), same_prev_lem a b i.0.0 i.0.1 i.1)

  -- so the log history of the one has the ids of the other's.
  pub same_history : (l m x : ℕ) → Place t l → Place u m → id_of t l ≡ id_of u m → History (chain_of t) l x → HasId u (History (chain_of u) m) (id_at t x)
  same_history l m x p q e h =
      let n = h.back.steps in
      let i = same_up n l m p q e in
      let y = up (chain_of u) n m in
      let a : Place t x = subst (Place t) h.back.reach i.0.0 in
      let f : id_of t x ≡ id_of u y = ap (id_of t) (sym h.back.reach) ∙ i.1 in
      let g = both_some x y a i.0.1 f h.some in
      record { row = y; member = record { some = g.0.some; back = record { steps = n; reach = refl } }; id = sym g.1 }

  -- Places with one id have one index where their previous places have,
  index_step : (x y : ℕ) → Place t x → Place u y → id_of t x ≡ id_of u y → (Message t x → index_of t (prev_of t x) ≡ index_of u (prev_of u y))
      → index_of t x ≡ index_of u y
  index_step x y (inl z) (inl v) e f = ap (index_of t) z ∙ none_index t ∙ sym (ap (index_of u) v ∙ none_index u)
  index_step x y (inl z) (inr m) e f = absurd (some_id (sym (id_some u y m.some) ∙ sym e ∙ id_none t x z))
  index_step x y (inr m) (inl v) e f = absurd (some_id (sym (id_some t x m.some) ∙ e ∙ id_none u y v))
  index_step x y (inr m) (inr k) e f =
      let c = index_counted t s.first x m.held m.some in
      let d = index_counted u s.second y k.held k.some in
      let i = f m in
      omega arith

  -- so they all have, `n` being no lower than the index:
  same_index_lem : (n x y : ℕ) → Place t x → Place u y → id_of t x ≡ id_of u y → index_of t x ≤ n → index_of t x ≡ index_of u y
  same_index_lem zero x y p q e h = index_step x y p q e (λ m. let c = index_counted t s.first x m.held m.some in absurd (omega arith))
  same_index_lem (suc n) x y p q e h =
      index_step x y p q e (λ m.
      let c = index_counted t s.first x m.held m.some in
      same_index_lem n (prev_of t x) (prev_of u y) (prev_place t s.first x p) (prev_place u s.second y q) (same_prev_lem x y p q e) (omega arith))

  -- that an id in both names the same index follows from the previous ids. Document 02 asks for it, and no proof needs it.
  pub index_follows : (x y : ℕ) → Message t x → Message u y → id_at t x ≡ id_at u y → index_of t x ≡ index_of u y
  index_follows x y m k e =
      same_index_lem (index_of t x) x y (inr m) (inr k) (id_some t x m.some ∙ ap some e ∙ sym (id_some u y k.some)) (omega arith)

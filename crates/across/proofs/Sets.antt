-- Closed sets of one author's messages in two stores that agree on ids: with the same ids they have states with the same ids.
-- Assumes nothing.
use Prim.Native.Nat.{ℕ}
use mathlib.Core.Path.{◌≡◌, refl, sym, ap, ◌∙◌, subst}
use mathlib.Core.Logic.{◌⊎◌, inl, inr, ◌↔◌}
use mathlib.Core.Option.{some}
use Rattle.chunks.specs.Bytes.{id_num}
use Rattle.store.specs.Table.{Table, prev_of, id_at}
use Rattle.store.specs.Paper.{Message}
use Rattle.chains.specs.Chain.{RowOf, State, growing, forked, Closed, StateOf}
use Rattle.chains.specs.Elsewhere.{CarriesOn, Image, carried}
use Rattle.chains.proofs.Elsewhere.{same_elsewhere}
use Rattle.logs.specs.Held.{chain_of}
use Rattle.logs.proofs.Tables.{chain_valid}
use Rattle.standing.specs.Standing.{growing_at, id_of, by_ids}
use Rattle.standing.specs.Reading.{last_with}
use Rattle.standing.proofs.Rows.{row_message, id_some, row_own, last_own}
use Rattle.across.specs.Stores.{TwoStores}
use Rattle.across.specs.Ids.{HasId}
use Rattle.across.proofs.Places.{prev_place}

module _ (t u : Table) (s : TwoStores t u) where
  -- The row of `u` that has the id of a row of `t`.
  abbrev pub there : ℕ → ℕ
  there x = last_with u (id_of t x)

  -- It is the row with that id.
  there_is : (x y : ℕ) → Message t x → Message u y → id_at t x ≡ id_at u y → there x ≡ y
  there_is x y m n e = ap (last_with u) (id_some t x m.some ∙ ap some e) ∙ row_own u s.second y n

  module _ (A B : ℕ) (S R : ℕ → Type 0) (c : Closed (chain_of t) A S) (d : Closed (chain_of u) B R)
      (to : (x : ℕ) → S x → HasId u R (id_at t x)) (from : (y : ℕ) → R y → HasId t S (id_at u y)) where
    -- Messages of the sets are rows.
    here_row : (x : ℕ) → S x → Message t x
    here_row x h = row_message t A x (c.rows x h)

    there_row : (y : ℕ) → R y → Message u y
    there_row y h = row_message u B y (d.rows y h)

    -- A message of the one set is carried to the one of the other that has its id.
    meets : (x : ℕ) (h : S x) → there x ≡ (to x h).row
    meets x h = there_is x (to x h).row (here_row x h) (there_row (to x h).row (to x h).member) (sym (to x h).id)

    -- It has one id there,
    id_there : (x : ℕ) → S x → id_of u (there x) ≡ id_of t x
    id_there x h =
        ap (id_of u) (meets x h) ∙ id_some u (to x h).row (there_row (to x h).row (to x h).member).some
        ∙ ap some (to x h).id ∙ sym (id_some t x (here_row x h).some)

    -- and the same predecessor.
    prev_there : (x : ℕ) → S x → prev_of u (there x) ≡ there (prev_of t x)
    prev_there x h =
        let y = (to x h).row in
        let m = there_row y (to x h).member in
        let e : id_of t (prev_of t x) ≡ id_of u (prev_of u y) = s.agree.previous x y (here_row x h) m (sym (to x h).id) in
        ap (prev_of u) (meets x h) ∙ sym (last_own u s.second (prev_of u y) (prev_place u s.second y (inr m))) ∙ ap (last_with u) (sym e)

    -- So the one set is carried to the other.
    sets_carried : CarriesOn (chain_of t) (chain_of u) A B S there
    sets_carried =
        record {
          closed = c;
          none = refl;
          row = λ x h. subst (RowOf (chain_of u) B) (sym (meets x h)) (d.rows (to x h).row (to x h).member);
          prev = prev_there;
          key = λ x h. ap id_num (ap (id_at u) (meets x h) ∙ (to x h).id);
        }

    -- The messages of the other set are those of the one, carried.
    sets_image : (y : ℕ) → R y ↔ Image there S y
    sets_image y = (forth, back)
      where
        forth : R y → Image there S y
        forth h =
            let i = from y h in
            record { from = i.row; member = i.member; here = there_is i.row y (here_row i.row i.member) (there_row y h) i.id }

        back : Image there S y → R y
        back i = subst R (sym (meets i.from i.member) ∙ i.here) (to i.from i.member).member

    -- None, or a message of the set, has one id there.
    place_there : (x : ℕ) → (x ≡ 0) ⊎ S x → id_of u (there x) ≡ id_of t x
    place_there x (inl e) = rw e
    place_there x (inr h) = id_there x h

    -- A row's id, where it has one.
    row_there : (x : ℕ) → S x → id_at u (there x) ≡ id_at t x
    row_there x h = ap (id_at u) (meets x h) ∙ (to x h).id

    -- The state of the one set, carried, stands where it stood.
    carried_same : (K : State) → StateOf (chain_of t) S K → by_ids u (carried there K) ≡ by_ids t K
    carried_same (growing l) g = ap growing_at (place_there l g.last)
    carried_same (forked l lo hi) g =
        let p : id_of u (there l) ≡ id_of t l = place_there l (subst (λ x. (x ≡ 0) ⊎ S x) g.low_prev (c.back lo g.low)) in
        rw (p, row_there lo g.low, row_there hi g.high)

    -- Closed sets with the same ids have states with the same ids.
    pub sets_same : (K M : State) → StateOf (chain_of t) S K → StateOf (chain_of u) R M → by_ids t K ≡ by_ids u M
    sets_same K M g h =
        let e : M ≡ carried there K = same_elsewhere (chain_of t) (chain_of u) (chain_valid t s.first s.first_ids)
        (chain_valid u s.second s.second_ids)
        A B S there sets_carried S R c (λ x i. i) sets_image K M g h in
        sym (ap (by_ids u) e ∙ carried_same K g)

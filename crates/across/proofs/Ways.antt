-- Demand 3, "read over ids across such stores": frontiers that are given the same messages by ids, merged and sent through whatever stores,
-- come to the same ids, evidence included. No store need hold all that was given.
-- Assumes nothing.
use Prim.Native.Nat.{ℕ, ◌^◌, ◌<◌}
use mathlib.Core.Path.{refl, sym, subst}
use mathlib.Core.List.{List, [], ◌∷◌, ◌++◌}
use mathlib.Core.Logic.{◌⊎◌, inl, inr, ⊎_elim}
use Rattle.chunks.specs.Bytes.{id_num}
use Rattle.store.specs.Table.{Table, id_at}
use Rattle.store.specs.Paper.{Message}
use Rattle.store.proofs.Facts.{length_id}
use Rattle.chunks.proofs.Numbers.{number_below}
use Rattle.chunks.proofs.Pieces.{bytes_piece}
use Rattle.frontiers.specs.Numbers.{entries_of}
use Rattle.standing.specs.Standing.{SameStanding}
use Rattle.across.specs.Passing.{Passing, given, merging, sending, Passed, AllAgree}
use Rattle.across.proofs.Numbering.{Among}
use Rattle.across.specs.Passing.{SameGiven}
use Rattle.across.proofs.Came.{ways_same}

-- The stores that a way goes through.
unfoldable stores : Passing → List Table
stores (given t f) = t ∷ []
stores (merging p q) = stores p ++ stores q
stores (sending p u) = u ∷ stores p

-- One of the first list, or of the second, is one of both.
among_left : (t : Table) (us vs : List Table) → Among t us → Among t (us ++ vs)
among_left t [] vs h = absurd h
among_left t (u ∷ us) vs (inl e) = inl e
among_left t (u ∷ us) vs (inr h) = inr (among_left t us vs h)

among_right : (t : Table) (us vs : List Table) → Among t vs → Among t (us ++ vs)
among_right t [] vs h = h
among_right t (u ∷ us) vs h = inr (among_right t us vs h)

among_both : (t : Table) (us vs : List Table) → Among t (us ++ vs) → Among t us ⊎ Among t vs
among_both t [] vs h = inr h
among_both t (u ∷ us) vs (inl e) = inl (inl e)
among_both t (u ∷ us) vs (inr h) = ⊎_elim (λ x. inl (inr x)) inr (among_both t us vs h)

module _ (In : Table → Type 0) where
  -- Those of a way that was taken are all stores of `In`,
  all_in : {p : Passing} {t : Table} {f : List ℕ} → Passed In p t f → (u : Table) → Among u (stores p) → In u
  unfolding stores
  all_in (Passed.lent t f i v) u (inl e) = subst In (sym e) i
  all_in (Passed.lent t f i v) u (inr h) = absurd h
  all_in (Passed.merged {p = p} {q = q} t f g out out' n x y m) u h = ⊎_elim (λ k. all_in x u k) (λ k. all_in y u k) (among_both u (stores p) (stores q) h)
  all_in (Passed.sent t v f ws x i e k) u (inl o) = subst In (sym o) i
  all_in (Passed.sent t v f ws x i e k) u (inr h) = all_in x u h

  -- and it was taken in those stores alone.
  within : {p : Passing} {t : Table} {f : List ℕ} → Passed In p t f → (ts : List Table) → ((u : Table) → Among u (stores p) → Among u ts)
      → Passed (λ z. Among z ts) p t f
  unfolding stores
  within (Passed.lent t f i v) ts h = Passed.lent t f (h t (inl refl)) v
  within (Passed.merged {p = p} {q = q} t f g out out' n x y m) ts h =
      Passed.merged t f g out out' n (within x ts (λ u k. h u (among_left u (stores p) (stores q) k)))
      (within y ts (λ u k. h u (among_right u (stores p) (stores q) k))) m
  within (Passed.sent t v f ws x i e k) ts h = Passed.sent t v f ws (within x ts (λ u o. h u (inr o))) (h v (inl refl)) e k

  -- Demand 3 over ids: two ways that were given the same messages, by ids, come to frontiers that say the same of every author, evidence
  -- included, whichever stores they went through.
  pub passed_same : AllAgree In → (p q : Passing) (t u : Table) (f g : List ℕ) → Passed In p t f → Passed In q u g → SameGiven p q
      → SameStanding t (entries_of f) u (entries_of g)
  passed_same agree p q t u f g x y e =
      ways_same (256 ^ 32) ts both small p q t u f g (within x ts (λ v. among_left v (stores p) (stores q)))
      (within y ts (λ v. among_right v (stores p) (stores q))) e
    where
      ts : List Table
      ts = stores p ++ stores q

      here : (v : Table) → Among v (stores p ++ stores q) → In v
      here v h = ⊎_elim (all_in x v) (all_in y v) (among_both v (stores p) (stores q) h)

      both : AllAgree (λ z. Among z (stores p ++ stores q))
      both v w h k = agree v w (here v h) (here w k)

      small : (v : Table) → Among v (stores p ++ stores q) → (z : ℕ) → Message v z → id_num (id_at v z) < 256 ^ 32
      small v h z m =
          let s = agree v v (here v h) (here v h) in
          subst (λ (n : ℕ). id_num (id_at v z) < 256 ^ n) (length_id v s.first z m.held m.some)
          (number_below (id_at v z) (bytes_piece v.ids z s.first_ids))

-- States in two stores that agree on ids: those that stand at the same ids stand on the same ids; and a state that is sent is a valid
-- state of the author with that key where the ids that it names are held.
-- Assumes nothing.
use Prim.Native.Nat.{ℕ, ◌≤◌}
use mathlib.Core.Path.{◌≡◌, refl, sym, ap, ◌∙◌, subst}
use mathlib.Core.Logic.{inl, inr}
use mathlib.Core.List.{List}
use mathlib.Core.Option.{Option, some}
use native.Mathlib.Omega.{arith}
use Rattle.chunks.specs.Bytes.{id_num}
use Rattle.chunks.specs.Lookup.{IsFirst}
use Rattle.chunks.proofs.Finding.{place_some}
use Rattle.store.specs.Table.{Table, author_of, prev_of, id_at, key_at}
use Rattle.store.specs.Paper.{Message}
use Rattle.store.proofs.Facts.{author_held, same_key_lem}
use Rattle.chains.specs.Chain.{RowOf, Node, State, growing, forked, ValidState, growing_valid, forked_valid, StandsOn}
use Rattle.logs.specs.Held.{chain_of}
use Rattle.standing.specs.Standing.{growing_at, forked_at, id_of, by_ids}
use Rattle.standing.specs.Reading.{row_with, last_with, rows_of, KnownLast, KnownIds}
use Rattle.standing.proofs.Rows.{row_message, node_place, id_none, id_some, last_own}
use Rattle.across.specs.Stores.{TwoStores}
use Rattle.across.specs.Ids.{HasId}
use Rattle.across.proofs.Places.{prev_place, same_history}

-- A growing standing is no forked one,
pub apart : {l m : Option (List ℕ)} {a b : List ℕ} → growing_at l ≡ forked_at m a b → ⊥
apart e = let z : ◌≡◌ {A = ℕ} 0 1 = cc in omega arith

-- and equal standings have equal parts.
pub grows_last : {l m : Option (List ℕ)} → growing_at l ≡ growing_at m → l ≡ m
grows_last e = cc

pub forks_last : {l m : Option (List ℕ)} {a b c d : List ℕ} → forked_at l a b ≡ forked_at m c d → l ≡ m
forks_last e = cc

pub forks_low : {l m : Option (List ℕ)} {a b c d : List ℕ} → forked_at l a b ≡ forked_at m c d → a ≡ c
forks_low e = cc

pub forks_high : {l m : Option (List ℕ)} {a b c d : List ℕ} → forked_at l a b ≡ forked_at m c d → b ≡ d
forks_high e = cc

module _ (t u : Table) (s : TwoStores t u) where
  -- A message of the one set, in the other store's set with more in it.
  more : {R T : ℕ → Type 0} {x : List ℕ} → ((y : ℕ) → R y → T y) → HasId u R x → HasId u T x
  more f h = record { row = h.row; member = f h.row h.member; id = h.id }

  -- States that stand at the same ids stand on the same ids.
  pub stand_there : (A B : ℕ) (L M : State) → ValidState (chain_of t) A L → ValidState (chain_of u) B M → by_ids t L ≡ by_ids u M
      → (x : ℕ) → StandsOn (chain_of t) L x → HasId u (StandsOn (chain_of u) M) (id_at t x)
  stand_there A B (growing l) (growing m) (growing_valid p) (growing_valid q) e x h =
      same_history t u s l m x (node_place t A l p) (node_place u B m q) (grows_last e) h
  stand_there A B (growing l) (forked m a b) p q e x h = absurd (apart e)
  stand_there A B (forked l a b) (growing m) p q e x h = absurd (apart (sym e))
  stand_there A B (forked l lo hi) (forked m a b) (forked_valid p i) (forked_valid q j) e x (inl h) =
      more (λ y g. inl g) (same_history t u s l m x (node_place t A l p) (node_place u B m q) (forks_last e) h)
  stand_there A B (forked l lo hi) (forked m a b) p q e x (inr (inl h)) = record { row = a; member = inr (inl refl); id = sym (ap (id_at t) h ∙ forks_low e) }
  stand_there A B (forked l lo hi) (forked m a b) p q e x (inr (inr h)) = record { row = b; member = inr (inr refl); id = sym (ap (id_at t) h ∙ forks_high e) }

  module _ (A B : ℕ) (k : key_at t A ≡ key_at u B) (i : 1 ≤ B) (j : B ≤ u.counts.authors) where
    -- The row with a row's id is a row of the author with the key of the row's author.
    row_comes : (x : ℕ) → RowOf (chain_of t) A x → 1 ≤ row_with u (id_at t x)
        → RowOf (chain_of u) B (row_with u (id_at t x)) × (id_at u (row_with u (id_at t x)) ≡ id_at t x)
    row_comes x r h =
        let y = row_with u (id_at t x) in
        let f : IsFirst u.ids u.counts.rows (id_at t x) y = place_some u.ids (id_at t x) u.counts.rows (λ z. omega arith) in
        let m : Message u y = record { some = f.some; held = f.within } in
        let g = author_held u s.second y f.within f.some in
        let e : key_at u (author_of u y) ≡ key_at u B = sym (s.agree.key x y (row_message t A x r) m (sym f.here)) ∙ ap (key_at t) r.by ∙ k in
        (record { some = f.some; held = f.within; by = same_key_lem u s.second (author_of u y) B g.0 g.1 i j e }, f.here)

    -- So is the last row with the id of none or a row.
    last_comes : (x : ℕ) → Node (chain_of t) A x → KnownLast u (id_of t x)
        → Node (chain_of u) B (last_with u (id_of t x)) × (id_of u (last_with u (id_of t x)) ≡ id_of t x)
    last_comes x (inl e) h = rw (id_none t x e) (inl refl, refl)
    last_comes x (inr r) h =
        let e = id_some t x r.some in
        let q : KnownLast u (some (id_at t x)) = subst (KnownLast u) e h in
        let c = row_comes x r q in
        rw e (inr c.0, id_some u (row_with u (id_at t x)) c.0.some ∙ ap some c.1)

    -- Before the row with a row's id stands the row with the id of what stands before the row.
    prev_comes : (l x : ℕ) → Node (chain_of t) A l → (r : RowOf (chain_of t) A x) → prev_of t x ≡ l → 1 ≤ row_with u (id_at t x)
        → prev_of u (row_with u (id_at t x)) ≡ last_with u (id_of t l)
    prev_comes l x n r p h =
        let y = row_with u (id_at t x) in
        let c = row_comes x r h in
        let m = row_message u B y c.0 in
        let e : id_of t (prev_of t x) ≡ id_of u (prev_of u y) = s.agree.previous x y (row_message t A x r) m (sym c.1) in
        sym (last_own u s.second (prev_of u y) (prev_place u s.second y (inr m))) ∙ ap (last_with u) (sym e ∙ ap (id_of t) p)

    -- A valid state whose ids the other store holds is there a valid state of the author with the same key, and stands at the same ids.
    pub state_comes : (L : State) → ValidState (chain_of t) A L → KnownIds u (by_ids t L)
        → ValidState (chain_of u) B (rows_of u (by_ids t L)) × (by_ids u (rows_of u (by_ids t L)) ≡ by_ids t L)
    state_comes (growing l) (growing_valid n) h = let c = last_comes l n h in (growing_valid c.0, ap growing_at c.1)
    state_comes (forked l lo hi) (forked_valid n e) h =
        let c = last_comes l n h.0 in
        let a = row_comes lo e.low h.1.0 in
        let b = row_comes hi e.high h.1.1 in (
          forked_valid c.0
              record {
                low = a.0;
                high = b.0;
                low_prev = prev_comes l lo n e.low e.low_prev h.1.0;
                high_prev = prev_comes l hi n e.high e.high_prev h.1.1;
                sorted = let f = ap id_num a.1 in let g = ap id_num b.1 in let o = e.sorted in omega arith;
              },
          rw (c.1, a.1, b.1),
        )

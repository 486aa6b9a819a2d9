-- Entries of stores in the world of all their messages: what they stand on, their joins, and that they say the same where they are one.
-- Assumes nothing.
use Prim.Native.Nat.{ℕ, ◌≤◌, ◌<◌}
use mathlib.Core.Path.{◌≡◌, refl, sym, ap, ◌∙◌}
use mathlib.Core.List.{List}
use mathlib.Core.Logic.{inl, inr, ◌↔◌}
use mathlib.Core.Option.{Option, none, some, IsSome}
use native.Mathlib.Omega.{arith}
use borrow.Author.Tests.{ne_eqb}
use Rattle.chunks.specs.Bytes.{id_num}
use Rattle.store.specs.Table.{Table, id_at}
use Rattle.store.specs.Paper.{Message}
use Rattle.chains.specs.Chain.{Store, Valid, RowOf, State, growing, forked, ValidState, growing_valid, forked_valid, Closed}
use Rattle.chains.specs.Elsewhere.{CarriesOn, Image, carried}
use Rattle.chains.proofs.Elsewhere.{carries_less, image_closed}
use Rattle.logs.specs.Held.{chain_of}
use Rattle.logs.proofs.Tables.{chain_valid}
use Rattle.frontiers.specs.Entries.{ValidAt, Joins}
use Rattle.frontiers.specs.Trees.{StandsAt}
use Rattle.frontiers.proofs.Trees.{stands_at_closed}
use Rattle.frontiers.proofs.Entries.{some_not_none, some_inj}
use Rattle.standing.specs.Standing.{growing_at, id_of, by_ids}
use Rattle.standing.proofs.Said.{said}
use Rattle.standing.proofs.Rows.{Place, row_message, node_place, id_none, id_some}
use Rattle.across.specs.Passing.{AllAgree}
use Rattle.across.proofs.States.{apart, grows_last, forks_last, forks_low, forks_high}
use Rattle.across.proofs.Merging.{nothing_said, one_said}
use Rattle.across.proofs.Numbering.{Among, code, place}
use Rattle.across.proofs.World.{code_some, world, same_code, same_place, world_valid, world_carries}
use Rattle.across.proofs.Carrying.{stands_carried, valid_carried, merge_carried}

-- Equal states have equal parts.
grows_at : {l m : ℕ} → growing l ≡ growing m → l ≡ m
grows_at e = cc

forks_at : {l m c d x y : ℕ} → forked l c x ≡ forked m d y → (l ≡ m) × ((c ≡ d) × (x ≡ y))
forks_at e = (cc, (cc, cc))

grows_not_forks : {l m c d : ℕ} → growing l ≡ forked m c d → ⊥
grows_not_forks e = let z : ◌≡◌ {A = ℕ} 0 1 = cc in omega arith

-- An entry or an absence, by its rows in the other store.
abbrev pub carried_at : (ℕ → ℕ) → Option State → Option State
carried_at f none = none
carried_at f (some l) = some (carried f l)

module _ (b : ℕ) (ts : List Table) (agree : AllAgree (λ t. Among t ts)) (small : (t : Table) → Among t ts → (x : ℕ) → Message t x → id_num (id_at t x) < b) where
  -- The world, and the way into it.
  abbrev W : Store
  W = world b ts

  WV : Valid W
  WV = world_valid b ts agree small

  abbrev into : Table → ℕ → ℕ
  into t = place b t

  module _ (t : Table) (i : Among t ts) where
    tv : Valid (chain_of t)
    tv = let s = agree t t i i in chain_valid t s.first s.first_ids

    way : (A : ℕ) → CarriesOn (chain_of t) W A 1 (RowOf (chain_of t) A) (into t)
    way A = world_carries b ts agree small t i A

    -- An entry that is valid is valid there, stands on what it stands on,
    pub valid_at : (A : ℕ) (x : Option State) → ValidAt (chain_of t) t.counts.authors A x → ValidAt W 1 1 (carried_at (into t) x)
    valid_at A none h = tt
    valid_at A (some l) h = (omega arith, (omega arith, valid_carried (chain_of t) W tv WV A 1 (into t) (way A) l h.1.1))

    pub stands_at : (A : ℕ) (x : Option State) → ValidAt (chain_of t) t.counts.authors A x → (c : ℕ)
        → StandsAt W (carried_at (into t) x) c ↔ Image (into t) (StandsAt (chain_of t) x) c
    stands_at A none h c = (λ z. absurd z, λ z. absurd z.member)
    stands_at A (some l) h c = stands_carried (chain_of t) W tv WV A 1 (into t) (way A) l h.1.1 c

    -- which is closed under previous links,
    pub closed_at : (A : ℕ) (x : Option State) → ValidAt (chain_of t) t.counts.authors A x → Closed W 1 (Image (into t) (StandsAt (chain_of t) x))
    closed_at A x h =
        let c = stands_at_closed (chain_of t) tv t.counts.authors A x h in
        image_closed (chain_of t) W tv WV A 1 (StandsAt (chain_of t) x) (into t)
        (carries_less (chain_of t) W A 1 (RowOf (chain_of t) A) (StandsAt (chain_of t) x) (into t) (way A) c c.rows)

    -- and is joined there as it is joined.
    pub joins_at : (A : ℕ) (x y r : Option State) → ValidAt (chain_of t) t.counts.authors A x → ValidAt (chain_of t) t.counts.authors A y
        → Joins (chain_of t) x y r → Joins W (carried_at (into t) x) (carried_at (into t) y) (carried_at (into t) r)
    joins_at A none none r p q j = ap (carried_at (into t)) j
    joins_at A none (some k) r p q j = ap (carried_at (into t)) j
    joins_at A (some l) none r p q j = ap (carried_at (into t)) j
    joins_at A (some l) (some k) none p q j = j
    joins_at A (some l) (some k) (some m) p q j = merge_carried (chain_of t) W tv WV A 1 (into t) (way A) l k m p.1.1 q.1.1 j

    pub is_some : (x : Option State) → IsSome (carried_at (into t) x) ↔ IsSome x
    is_some none = (λ h. h, λ h. h)
    is_some (some l) = (λ h. h, λ h. h)

  module _ (t u : Table) (i : Among t ts) (j : Among u ts) where
    -- Rows with one id go to one place.
    pub row_place : (A B x y : ℕ) → RowOf (chain_of t) A x → RowOf (chain_of u) B y → id_at t x ≡ id_at u y → into t x ≡ into u y
    row_place A B x y r q e =
        same_place b ts agree small t u i j x y (inr (row_message t A x r)) (inr (row_message u B y q))
        (id_some t x r.some ∙ ap some e ∙ sym (id_some u y q.some))

    -- So do states that stand at the same ids,
    same_carried : (A B : ℕ) (L M : State) → ValidState (chain_of t) A L → ValidState (chain_of u) B M → by_ids t L ≡ by_ids u M
        → carried (into t) L ≡ carried (into u) M
    same_carried A B (growing l) (growing m) (growing_valid p) (growing_valid q) e =
        ap growing (same_place b ts agree small t u i j l m (node_place t A l p) (node_place u B m q) (grows_last e))
    same_carried A B (growing l) (forked m c d) p q e = absurd (apart e)
    same_carried A B (forked l c d) (growing m) p q e = absurd (apart (sym e))
    same_carried A B (forked l lo hi) (forked m c d) (forked_valid p x) (forked_valid q y) e =
        rw (
          same_place b ts agree small t u i j l m (node_place t A l p) (node_place u B m q) (forks_last e),
          row_place A B lo c x.low y.low (forks_low e),
          row_place A B hi d x.high y.high (forks_high e),
        )

    pub same_at : (A B : ℕ) (x y : Option State) → ValidAt (chain_of t) t.counts.authors A x → ValidAt (chain_of u) u.counts.authors B y
        → said t x ≡ said u y → carried_at (into t) x ≡ carried_at (into u) y
    same_at A B none none p q e = refl
    same_at A B none (some m) p q e = absurd (nothing_said (sym e))
    same_at A B (some l) none p q e = absurd (nothing_said e)
    same_at A B (some l) (some m) p q e = ap some (same_carried A B l m p.1.1 q.1.1 (one_said e))

  module _ (t u : Table) (i : Among t ts) (j : Among u ts) where
    -- A row goes to its number, which is some number.
    row_number : (v : Table) → Among v ts → (x : ℕ) → Message v x → (place b v x ≡ code b v x) × (1 ≤ code b v x)
    row_number v k x m = (rw (ne_eqb x 0 (λ z. let h = m.some in omega arith)), code_some b ts agree small v k x m)

    -- Places that go to one place have one id,
    place_back : (x y : ℕ) → Place t x → Place u y → place b t x ≡ place b u y → id_of t x ≡ id_of u y
    place_back x y (inl z) (inl v) e = id_none t x z ∙ sym (id_none u y v)
    place_back x y (inl z) (inr m) e =
        absurd (let r = row_number u j y m in let p = r.0 in let q = r.1 in let o : place b t x ≡ 0 = rw z in omega arith)
    place_back x y (inr m) (inl v) e =
        absurd (let r = row_number t i x m in let p = r.0 in let q = r.1 in let o : place b u y ≡ 0 = rw v in omega arith)
    place_back x y (inr m) (inr n) e =
        let p = (row_number t i x m).0 in
        let q = (row_number u j y n).0 in
        id_some t x m.some ∙ ap some (same_code b ts agree small t u i j x y m n (sym p ∙ e ∙ q)) ∙ sym (id_some u y n.some)

    row_back : (A B x y : ℕ) → RowOf (chain_of t) A x → RowOf (chain_of u) B y → place b t x ≡ place b u y → id_at t x ≡ id_at u y
    row_back A B x y r q e =
        same_code b ts agree small t u i j x y (row_message t A x r) (row_message u B y q)
        (sym (row_number t i x (row_message t A x r)).0 ∙ e ∙ (row_number u j y (row_message u B y q)).0)

    -- and so have states, and entries.
    state_back : (A B : ℕ) (L M : State) → ValidState (chain_of t) A L → ValidState (chain_of u) B M → carried (place b t) L ≡ carried (place b u) M
        → by_ids t L ≡ by_ids u M
    state_back A B (growing l) (growing m) (growing_valid p) (growing_valid q) e =
        ap growing_at (place_back l m (node_place t A l p) (node_place u B m q) (grows_at e))
    state_back A B (growing l) (forked m c d) p q e = absurd (grows_not_forks e)
    state_back A B (forked l c d) (growing m) p q e = absurd (grows_not_forks (sym e))
    state_back A B (forked l lo hi) (forked m c d) (forked_valid p x) (forked_valid q y) e =
        let f = forks_at e in
        rw (
          place_back l m (node_place t A l p) (node_place u B m q) f.0,
          row_back A B lo c x.low y.low f.1.0,
          row_back A B hi d x.high y.high f.1.1,
        )

    pub entry_back : (A B : ℕ) (x y : Option State) → ValidAt (chain_of t) t.counts.authors A x → ValidAt (chain_of u) u.counts.authors B y
        → carried_at (place b t) x ≡ carried_at (place b u) y → said t x ≡ said u y
    entry_back A B none none p q e = refl
    entry_back A B none (some m) p q e = absurd (some_not_none (sym e))
    entry_back A B (some l) none p q e = absurd (some_not_none e)
    entry_back A B (some l) (some m) p q e = ap some (state_back A B l m p.1.1 q.1.1 (some_inj e))

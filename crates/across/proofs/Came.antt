-- Frontiers that are merged and sent through some stores, held against the world of all their messages: each author's entry is there the
-- state of all that the entries given stand on.
-- Assumes nothing.
use Rattle.std.specs.Prelude.{Ok}
use Prim.Native.Nat.{ℕ, ◌<◌}
use mathlib.Core.Path.{◌≡◌, refl, sym, ap, ◌∙◌, subst}
use mathlib.Core.List.{List}
use mathlib.Core.Logic.{◌⊎◌, inl, inr, ⊎_elim, ◌↔◌}
use mathlib.Core.Option.{Option, IsSome}
use native.Mathlib.Omega.{arith}
use lib.ListN.{take}
use Rattle.chunks.specs.Bytes.{id_num}
use Rattle.chunks.proofs.Finding.{place_some}
use Rattle.store.specs.Table.{Table, id_at}
use Rattle.store.specs.Paper.{Message}
use Rattle.chains.specs.Chain.{Store, Valid, RowOf, State, Closed, Union}
use Rattle.chains.specs.Elsewhere.{Image}
use Rattle.logs.specs.Held.{chain_of}
use Rattle.logs.proofs.Tables.{chain_valid}
use Rattle.frontiers.specs.Entries.{flat, entry_of, ValidAt}
use Rattle.frontiers.specs.Numbers.{entries_of}
use Rattle.frontiers.specs.Calls.{FrontierOf, MergesInto}
use Rattle.frontiers.specs.Trees.{StandsAt}
use Rattle.frontiers.proofs.Trees.{stands_at_closed, Stood, own_stood, joins_stood, stood_ext}
use Rattle.frontiers.proofs.Wrote.{wrote_merged, wrote_valid}
use Rattle.standing.specs.Standing.{standing, SameStanding}
use Rattle.standing.specs.Sending.{Sent, IsSent}
use Rattle.standing.specs.Reading.{author_with, Known, read_entries}
use Rattle.standing.proofs.Said.{said, says, author_own}
use Rattle.across.specs.Ids.{StandsOnId}
use Rattle.across.specs.Passing.{Passing, given, merging, sending, Passed, Given, GivenOf, AllAgree}
use Rattle.across.proofs.Merging.{stands_known}
use Rattle.across.proofs.Theorems.{entries, read_there}
use Rattle.across.proofs.Trees.{some_said, said_some}
use Rattle.across.proofs.Numbering.{Among, place}
use Rattle.frontiers.proofs.Trees.{stood_stated, stated_unique}
use Rattle.across.specs.Passing.{GivenOn, SameGiven}
use Rattle.across.proofs.Through.{row_place, carried_at, valid_at, stands_at, closed_at, joins_at, is_some, same_at}
use Rattle.across.proofs.World.{world, world_valid}
use Rattle.across.proofs.Through.{entry_back}

module _ (b : ℕ) (ts : List Table) (agree : AllAgree (λ t. Among t ts)) (small : (t : Table) → Among t ts → (x : ℕ) → Message t x → id_num (id_at t x) < b) where
  -- The world, which is valid.
  abbrev ww : Store
  ww = world b ts

  wv : Valid ww
  wv = world_valid b ts agree small

  -- The numbers of the messages of an author that the entries given stand on.
  record GivenRows (p : Passing) (k : List ℕ) (c : ℕ) : Type 0 where
    table : Table
    frontier : List ℕ
    one : Given p table frontier
    on : Image (place b table) (StandsAt (chain_of table) (entry_of (entries_of frontier) (author_with table k))) c

  -- What was given is valid, over one of the stores.
  abbrev AllGiven : Passing → Type 0
  AllGiven p = (t : Table) (f : List ℕ) → Given p t f → Among t ts × FrontierOf t f

  all_given : {p : Passing} {t : Table} {f : List ℕ} → Passed (λ u. Among u ts) p t f → AllGiven p
  all_given (Passed.lent t f i v) u g e =
      (subst (λ (z : Table). Among z ts) (sym e.0) i, subst (λ (z : Table). FrontierOf z g) (sym e.0) (subst (FrontierOf t) (sym e.1) v))
  all_given (Passed.merged t f g out out' n x y m) u h (inl e) = all_given x u h e
  all_given (Passed.merged t f g out out' n x y m) u h (inr e) = all_given y u h e
  all_given (Passed.sent t u f ws x i e k) v g o = all_given x v g o

  -- These numbers are closed under previous links.
  given_closed : (p : Passing) → AllGiven p → (k : List ℕ) → Closed ww 1 (GivenRows p k)
  given_closed p a k =
      record {
        rows = λ c h. (here h.table h.frontier h.one).rows c h.on;
        back = λ c h.
            ⊎_elim inl (λ o. inr (record { table = h.table; frontier = h.frontier; one = h.one; on = o }))
            ((here h.table h.frontier h.one).back c h.on);
      }
    where
      here : (t : Table) (f : List ℕ) → Given p t f → Closed ww 1 (Image (place b t) (StandsAt (chain_of t) (entry_of (entries_of f) (author_with t k))))
      here t f e =
          let v = a t f e in
          closed_at b ts agree small t v.0 (author_with t k) (entry_of (entries_of f) (author_with t k)) ((entries t f v.1).each (author_with t k))

  -- The entry of the author with a key, in the world.
  abbrev entry_at : Table → List ℕ → List ℕ → Option State
  entry_at t f k = carried_at (place b t) (entry_of (entries_of f) (author_with t k))

  -- Each author's entry is there the state of all that the entries given stand on.
  record Came (p : Passing) (t : Table) (f : List ℕ) : Type 0 where
    store : Among t ts
    valid : FrontierOf t f
    stood : (k : List ℕ) → Stood ww wv 1 1 (GivenRows p k) (GivenOf p k) (entry_at t f k)

  module _ (t : Table) (f : List ℕ) (i : Among t ts) (v : FrontierOf t f) (k : List ℕ) where
    -- The entry of the author with the key.
    abbrev own : Option State
    own = entry_of (entries_of f) (author_with t k)

    own_valid : ValidAt (chain_of t) t.counts.authors (author_with t k) own
    own_valid = (entries t f v).each (author_with t k)

    -- A frontier that is given alone.
    given_rows : (c : ℕ) → StandsAt ww (entry_at t f k) c ↔ GivenRows (given t f) k c
    given_rows c = (
      λ h. record { table = t; frontier = f; one = (refl, refl); on = (stands_at b ts agree small t i (author_with t k) own own_valid c).0 h },
      λ h. (stands_at b ts agree small t i (author_with t k) own own_valid c).1 (back h.table h.frontier h.one h.on),
    )
      where
        back : (u : Table) (g : List ℕ) → Given (given t f) u g → Image (place b u) (StandsAt (chain_of u) (entry_of (entries_of g) (author_with u k))) c
            → Image (place b t) (StandsAt (chain_of t) own) c
        back u g e h =
            subst (λ (z : Table). Image (place b z) (StandsAt (chain_of z) (entry_of (entries_of f) (author_with z k))) c) e.0
            (subst (λ (z : List ℕ). Image (place b u) (StandsAt (chain_of u) (entry_of (entries_of z) (author_with u k))) c) e.1 h)

    given_said : IsSome (entry_at t f k) ↔ GivenOf (given t f) k
    given_said = (
      λ h. record { table = t; frontier = f; one = (refl, refl); some = subst IsSome (sym word) (some_said t own ((is_some b ts agree small t i own).0 h)) },
      λ h. (is_some b ts agree small t i own).1 (said_some t own (subst IsSome word (back h.table h.frontier h.one h.some))),
    )
      where
        word : standing t (entries_of f) k ≡ said t own
        word = says t (agree t t i i).first (entries_of f) (entries t f v) k

        back : (u : Table) (g : List ℕ) → Given (given t f) u g → IsSome (standing u (entries_of g) k) → IsSome (standing t (entries_of f) k)
        back u g e h =
            subst (λ (z : Table). IsSome (standing z (entries_of f) k)) e.0 (subst (λ (z : List ℕ). IsSome (standing u (entries_of z) k)) e.1 h)

    given_stood : Stood ww wv 1 1 (GivenRows (given t f) k) (GivenOf (given t f) k) (entry_at t f k)
    given_stood =
        stood_ext ww wv 1 1 (entry_at t f k) given_rows given_said
        (own_stood ww wv 1 1 (entry_at t f k) (valid_at b ts agree small t i (author_with t k) own own_valid))

  -- What is given to two ways that are merged.
  both_rows : (p q : Passing) (k : List ℕ) (c : ℕ) → Union (GivenRows p k) (GivenRows q k) c ↔ GivenRows (merging p q) k c
  both_rows p q k c = (to, λ h. from h.table h.frontier h.one h.on)
    where
      to : Union (GivenRows p k) (GivenRows q k) c → GivenRows (merging p q) k c
      to (inl h) = record { table = h.table; frontier = h.frontier; one = inl h.one; on = h.on }
      to (inr h) = record { table = h.table; frontier = h.frontier; one = inr h.one; on = h.on }

      from : (t : Table) (f : List ℕ) → Given (merging p q) t f → Image (place b t) (StandsAt (chain_of t) (entry_of (entries_of f) (author_with t k))) c
          → Union (GivenRows p k) (GivenRows q k) c
      from t f (inl e) h = inl (record { table = t; frontier = f; one = e; on = h })
      from t f (inr e) h = inr (record { table = t; frontier = f; one = e; on = h })

  both_said : (p q : Passing) (k : List ℕ) → (GivenOf p k ⊎ GivenOf q k) ↔ GivenOf (merging p q) k
  both_said p q k = (to, λ h. from h.table h.frontier h.one h.some)
    where
      to : GivenOf p k ⊎ GivenOf q k → GivenOf (merging p q) k
      to (inl h) = record { table = h.table; frontier = h.frontier; one = inl h.one; some = h.some }
      to (inr h) = record { table = h.table; frontier = h.frontier; one = inr h.one; some = h.some }

      from : (t : Table) (f : List ℕ) → Given (merging p q) t f → IsSome (standing t (entries_of f) k) → GivenOf p k ⊎ GivenOf q k
      from t f (inl e) h = inl (record { table = t; frontier = f; one = e; some = h })
      from t f (inr e) h = inr (record { table = t; frontier = f; one = e; some = h })

  -- A merge of what came came of all that was given to both.
  came_merged : (p q : Passing) → AllGiven p → AllGiven q → (t : Table) (f g out out' : List ℕ) (n : ℕ) → Came p t f → Came q t g
      → MergesInto t f g out out' (Ok n) → Came (merging p q) t (take n out')
  came_merged p q av aq t f g out out' n x y m =
      record {
        store = x.store;
        valid = wrote_valid t f g out out' n m (agree t t x.store x.store).first_ids;
        stood = λ k.
            let A = author_with t k in
            stood_ext ww wv 1 1 (entry_at t (take n out') k) (both_rows p q k) (both_said p q k)
            (joins_stood ww wv 1 1 (GivenOf p k) (GivenOf q k) (entry_at t f k) (entry_at t g k) (entry_at t (take n out') k)
            (given_closed p av k) (given_closed q aq k)
            (joins_at b ts agree small t x.store A (entry_of (entries_of f) A) (entry_of (entries_of g) A) (entry_of (entries_of (take n out')) A)
            ((entries t f x.valid).each A) ((entries t g y.valid).each A) ((wrote_merged t f g out out' n m).joins A))
            (x.stood k) (y.stood k));
      }

  -- What is given to a way that is sent on is what was given to it.
  sent_rows : (p : Passing) (u : Table) (k : List ℕ) (c : ℕ) → GivenRows p k c ↔ GivenRows (sending p u) k c
  sent_rows p u k c = (
    λ h. record { table = h.table; frontier = h.frontier; one = h.one; on = h.on },
    λ h. record { table = h.table; frontier = h.frontier; one = h.one; on = h.on },
  )

  sent_said : (p : Passing) (u : Table) (k : List ℕ) → GivenOf p k ↔ GivenOf (sending p u) k
  sent_said p u k = (
    λ h. record { table = h.table; frontier = h.frontier; one = h.one; some = h.some },
    λ h. record { table = h.table; frontier = h.frontier; one = h.one; some = h.some },
  )

  -- What is sent came of what it came of.
  came_sent : (p : Passing) (t u : Table) (f : List ℕ) (ws : List Sent) → Came p t f → Among u ts → IsSent t (entries_of f) ws → Known u ws
      → Came (sending p u) u (flat (read_entries u ws))
  came_sent p t u f ws x i e h =
      let s = agree t u x.store i in
      let r = read_there t u s f ws x.valid e h in
      let g = flat (read_entries u ws) in
      record {
        store = i;
        valid = r.valid;
        stood = λ k.
            let A = author_with t k in
            let B = author_with u k in
            let o : said t (entry_of (entries_of f) A) ≡ said u (entry_of (entries_of g) B) =
            sym (says t s.first (entries_of f) (entries t f x.valid) k) ∙ r.standing k ∙ says u s.second (entries_of g) (entries u g r.valid) k in
            stood_ext ww wv 1 1 (entry_at u g k) (sent_rows p u k) (sent_said p u k)
            (subst (Stood ww wv 1 1 (GivenRows p k) (GivenOf p k))
            (same_at b ts agree small t u x.store i A B (entry_of (entries_of f) A) (entry_of (entries_of g) B) ((entries t f x.valid).each A)
            ((entries u g r.valid).each B) o) (x.stood k));
      }

  -- So came every way.
  came : {p : Passing} {t : Table} {f : List ℕ} → Passed (λ u. Among u ts) p t f → Came p t f
  came (Passed.lent t f i v) = record { store = i; valid = v; stood = given_stood t f i v }
  came (Passed.merged {p = p} {q = q} t f g out out' n x y m) = came_merged p q (all_given x) (all_given y) t f g out out' n (came x) (came y) m
  came (Passed.sent {p = p} t u f ws x i e k) = came_sent p t u f ws (came x) i e k

  -- Ways that were given the same messages, by ids, were given the same numbers: one way round.
  rows_there : (p q : Passing) → AllGiven p → AllGiven q → ((k x : List ℕ) → GivenOn p k x → GivenOn q k x)
      → (k : List ℕ) (c : ℕ) → GivenRows p k c → GivenRows q k c
  rows_there p q av aq e k c h =
      let t = h.table in
      let f = h.frontier in
      let y = h.on.from in
      let v = av t f h.one in
      let s = agree t t v.0 v.0 in
      let A = author_with t k in
      let i = stands_known (chain_of t) t.counts.authors A y (entry_of (entries_of f) A) ((entries t f v.1).each A) h.on.member in
      let a = place_some t.keys k t.counts.authors (λ z. let o = i.0 in omega arith) in
      let on : StandsOnId t (entries_of f) k (id_at t y) = record { author = A; key = a.here; on = record { row = y; member = h.on.member; id = refl } } in
      let g = e k (id_at t y) (record { table = t; frontier = f; one = h.one; on = on }) in
      let u = g.table in
      let w = aq u g.frontier g.one in
      let m = g.on.on.row in
      let B = g.on.author in
      let z = entry_of (entries_of g.frontier) B in
      let j = stands_known (chain_of u) u.counts.authors B m z ((entries u g.frontier w.1).each B) g.on.on.member in
      let own : B ≡ author_with u k =
      sym (author_own u (agree u u w.0 w.0).first B j.0 j.1) ∙ ap (author_with u) g.on.key in
      let r = row_of t v.0 A (entry_of (entries_of f) A) ((entries t f v.1).each A) y h.on.member in
      let o = row_of u w.0 B (entry_of (entries_of g.frontier) B) ((entries u g.frontier w.1).each B) m g.on.on.member in
      record {
        table = u;
        frontier = g.frontier;
        one = g.one;
        on =
            record {
              from = m;
              member = subst (λ (z : ℕ). StandsAt (chain_of u) (entry_of (entries_of g.frontier) z) m) own g.on.on.member;
              here = row_place b ts agree small u t w.0 v.0 B A m y o r g.on.on.id ∙ h.on.here;
            };
      }
    where
      row_of : (t : Table) → Among t ts → (A : ℕ) (x : Option State) → ValidAt (chain_of t) t.counts.authors A x → (y : ℕ) → StandsAt (chain_of t) x y
          → RowOf (chain_of t) A y
      row_of t i A x v y h =
          let s = agree t t i i in
          (stands_at_closed (chain_of t) (chain_valid t s.first s.first_ids) t.counts.authors A x v).rows y h

  -- Two ways that were given the same messages, by ids, come to frontiers that say the same.
  pub ways_same : (p q : Passing) (t u : Table) (f g : List ℕ) → Passed (λ z. Among z ts) p t f → Passed (λ z. Among z ts) q u g → SameGiven p q
      → SameStanding t (entries_of f) u (entries_of g)
  ways_same p q t u f g x y e k =
      let a = came x in
      let c = came y in
      let A = author_with t k in
      let B = author_with u k in
      let d = given_closed q (all_given y) k in
      let l = stood_ext ww wv 1 1 (entry_at t f k)
      (λ z. (
        rows_there p q (all_given x) (all_given y) (λ i j. (e.on i j).0) k z,
        rows_there q p (all_given y) (all_given x) (λ i j. (e.on i j).1) k z,
      ))
      (e.said k) (a.stood k) in
      let m : entry_at t f k ≡ entry_at u g k =
      stated_unique ww wv 1 1 (GivenRows q k) (GivenOf q k) (entry_at t f k) (entry_at u g k) d
      (stood_stated ww wv 1 1 (GivenOf q k) (entry_at t f k) d l) (stood_stated ww wv 1 1 (GivenOf q k) (entry_at u g k) d (c.stood k)) in
      says t (agree t t a.store a.store).first (entries_of f) (entries t f a.valid) k
      ∙ entry_back b ts agree small t u a.store c.store A B (entry_of (entries_of f) A) (entry_of (entries_of g) B) ((entries t f a.valid).each A)
      ((entries u g c.valid).each B) m
      ∙ sym (says u (agree u u c.store c.store).first (entries_of g) (entries u g c.valid) k)

-- Demand 3, "read over ids across such stores": calls over two stores that are given the same messages, by ids, end in the same ids,
-- evidence included, in any order and grouping, with repeats.
-- Assumes nothing.
use Rattle.std.specs.Prelude.{Ok}
use Prim.Native.Nat.{ℕ, ◌≤◌}
use mathlib.Core.Path.{◌≡◌, refl, sym, ap, ◌∙◌, subst}
use mathlib.Core.List.{List}
use mathlib.Core.Option.{Option, none, some, IsSome}
use native.Mathlib.Omega.{arith}
use lib.ListN.{take}
use Rattle.chunks.proofs.Finding.{place_some}
use Rattle.store.specs.Table.{Table, id_at}
use Rattle.chains.specs.Chain.{State}
use Rattle.logs.specs.Held.{chain_of}
use Rattle.logs.specs.declared.LogState.{LogState}
use Rattle.logs.specs.States.{state_of}
use Rattle.logs.specs.Trees.{Calls, Ran as RanCalls, Proper as ProperCalls, Messages}
use Rattle.logs.proofs.Demand.{messages_closed, done_state}
use Rattle.frontiers.specs.Entries.{entry_of, ValidAt}
use Rattle.frontiers.specs.Numbers.{entries_of}
use Rattle.frontiers.specs.Calls.{FrontierOf}
use Rattle.frontiers.specs.Trees.{FrontierCalls, Ran, Proper, Leaf, StandsAt, AllStandOn, Present, Stated, FrontierOfAll}
use Rattle.frontiers.proofs.Trees.{leaves_valid, all_closed, runs_end}
use Rattle.standing.specs.Standing.{by_ids, standing, SameStanding}
use Rattle.standing.specs.Reading.{author_with}
use Rattle.standing.proofs.Said.{EntriesOf, said, says, author_own}
use Rattle.across.specs.Stores.{TwoStores}
use Rattle.across.specs.Ids.{HasId, StandsOnId}
use Rattle.across.specs.Trees.{SameMessagesById}
use Rattle.across.proofs.Stores.{stores_back}
use Rattle.across.proofs.Sets.{sets_same}
use Rattle.across.proofs.Merging.{stands_known}
use Rattle.across.proofs.Theorems.{entries}

-- An entry says something.
pub some_said : (t : Table) (x : Option State) → IsSome x → IsSome (said t x)
some_said t none h = h
some_said t (some l) h = h

pub said_some : (t : Table) (x : Option State) → IsSome (said t x) → IsSome x
said_some t none h = h
said_some t (some l) h = h

-- An author with a valid entry is one of the table's.
some_known : (t : Table) (a : ℕ) (x : Option State) → ValidAt (chain_of t) t.counts.authors a x → IsSome x → (1 ≤ a) × (a ≤ t.counts.authors)
some_known t a none v h = absurd h
some_known t a (some l) v h = (v.0, v.1.0)

module _ (t u : Table) (s : TwoStores t u) (L M : List ℕ → Type 0) (vl : (f : List ℕ) → L f → FrontierOf t f) (vm : (f : List ℕ) → M f → FrontierOf u f) where
  -- The entries of a frontier of the set.
  here : (f : List ℕ) → L f → EntriesOf t (entries_of f)
  here f h = entries t f (vl f h)

  there : (f : List ℕ) → M f → EntriesOf u (entries_of f)
  there f h = entries u f (vm f h)

  module _ (e : SameMessagesById t L u M) (k : List ℕ) where
    -- The author with the key in the one store, and in the other.
    abbrev A : ℕ
    A = author_with t k

    abbrev B : ℕ
    B = author_with u k

    -- What the entries in the one set stand on, those in the other do, by ids.
    all_there : (x : ℕ) → AllStandOn t L A x → HasId u (AllStandOn u M B) (id_at t x)
    all_there x h =
        let f = h.frontier in
        let i = stands_known (chain_of t) t.counts.authors A x (entry_of (entries_of f) A) ((here f h.one).each A) h.on in
        let key = (place_some t.keys k t.counts.authors (λ z. let o = i.0 in omega arith)).here in
        let on : StandsOnId t (entries_of f) k (id_at t x) = record { author = A; key = key; on = record { row = x; member = h.on; id = refl } } in
        let j = (e.on k (id_at t x)).0 (record { frontier = f; one = h.one; on = on }) in
        let b = j.on.author in
        let g = j.frontier in
        let y = j.on.on.row in
        let m = stands_known (chain_of u) u.counts.authors b y (entry_of (entries_of g) b) ((there g j.one).each b) j.on.on.member in
        let own : b ≡ B = sym (author_own u s.second b m.0 m.1) ∙ ap (author_with u) j.on.key in
        record {
          row = y;
          member = record { frontier = g; one = j.one; on = subst (λ (c : ℕ). StandsAt (chain_of u) (entry_of (entries_of g) c) y) own j.on.on.member };
          id = j.on.on.id;
        }

    -- An author with an entry in the one set has one in the other.
    present_there : Present L A → Present M B
    present_there h =
        let f = h.frontier in
        let p = says t s.first (entries_of f) (here f h.one) k in
        let q : IsSome (standing t (entries_of f) k) = subst IsSome (sym p) (some_said t (entry_of (entries_of f) A) h.some) in
        let j = (e.said k).0 (record { frontier = f; one = h.one; some = q }) in
        let g = j.frontier in
        record {
          frontier = g;
          one = j.one;
          some = said_some u (entry_of (entries_of g) B) (subst IsSome (says u s.second (entries_of g) (there g j.one) k) j.some);
        }

-- The same messages, the other way round.
messages_back : (t : Table) (L : List ℕ → Type 0) (u : Table) (M : List ℕ → Type 0) → SameMessagesById t L u M → SameMessagesById u M t L
messages_back t L u M e = record { said = λ k. ((e.said k).1, (e.said k).0); on = λ k x. ((e.on k x).1, (e.on k x).0) }

module _ (t u : Table) (s : TwoStores t u) (L M : List ℕ → Type 0) (vl : (f : List ℕ) → L f → FrontierOf t f) (vm : (f : List ℕ) → M f → FrontierOf u f) where
  -- The frontiers of two such sets say the same.
  pub all_same : SameMessagesById t L u M → (f g : List ℕ) → FrontierOfAll t L f → FrontierOfAll u M g → SameStanding t (entries_of f) u (entries_of g)
  all_same e f g x y k =
      says t s.first (entries_of f) (entries t f x.valid) k
      ∙ one (entry_of (entries_of f) a) (entry_of (entries_of g) b) (x.entries a) (y.entries b)
      ∙ sym (says u s.second (entries_of g) (entries u g y.valid) k)
    where
      a : ℕ
      a = author_with t k

      b : ℕ
      b = author_with u k

      one : (x y : Option State) → Stated (chain_of t) (AllStandOn t L a) (Present L a) x → Stated (chain_of u) (AllStandOn u M b) (Present M b) y
          → said t x ≡ said u y
      one none none h i = refl
      one none (some l) h i = absurd (h (present_there u t (stores_back t u s) M L vm vl (messages_back t L u M e) k i.0))
      one (some l) none h i = absurd (i (present_there t u s L M vl vm e k h.0))
      one (some l) (some m) h i =
          ap some (sets_same t u s a b (AllStandOn t L a) (AllStandOn u M b) (all_closed t s.first s.first_ids L vl a)
          (all_closed u s.second s.second_ids M vm b) (all_there t u s L M vl vm e k)
          (all_there u t (stores_back t u s) M L vm vl (messages_back t L u M e) k) l m h.1 i.1)

-- Demand 3 over ids: two trees of merges and appends, each over one of the stores, that are given the same messages by ids end in
-- frontiers that say the same of every author, evidence included.
pub runs_same : (t u : Table) → TwoStores t u → (c d : FrontierCalls) (n m : ℕ) (k l : List ℕ) → Proper t c → Proper u d
    → SameMessagesById t (Leaf t c) u (Leaf u d) → Ran t c (Ok n) k → Ran u d (Ok m) l
    → SameStanding t (entries_of (take n k)) u (entries_of (take m l))
runs_same t u s c d n m k l p q e x y =
    all_same t u s (Leaf t c) (Leaf u d) (leaves_valid t s.first s.first_ids c p) (leaves_valid u s.second s.second_ids d q) e (take n k) (take m l)
    (runs_end t s.first s.first_ids c (Ok n) k p x).1 (runs_end u s.second s.second_ids d (Ok m) l q y).1

-- Demand 3 over ids, of log states: calls of merge and append over the two stores that are given the same messages of an author, by ids,
-- end in states with one phase whose last and evidence rows have the same ids.
pub calls_same : (t u : Table) → TwoStores t u → (A B : ℕ) (c d : Calls) → ProperCalls t A c → ProperCalls u B d
    → ((x : ℕ) → Messages t c x → HasId u (Messages u d) (id_at t x)) → ((y : ℕ) → Messages u d y → HasId t (Messages t c) (id_at u y))
    → (k l : LogState) → RanCalls t c (Ok k) → RanCalls u d (Ok l) → by_ids t (state_of k) ≡ by_ids u (state_of l)
calls_same t u s A B c d p q to from k l x y =
    sets_same t u s A B (Messages t c) (Messages u d) (messages_closed t s.first s.first_ids A c p) (messages_closed u s.second s.second_ids B d q)
    to from (state_of k) (state_of l) (done_state t s.first s.first_ids A c k p x) (done_state u s.second s.second_ids B d l q y)

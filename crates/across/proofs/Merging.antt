-- Frontiers over two stores that agree on ids: those that say the same stand on the same ids, and their merges say the same.
-- Assumes nothing.
use Prim.Native.Nat.{ℕ, ◌≤◌}
use mathlib.Core.Path.{◌≡◌, sym, ap, ◌∙◌}
use mathlib.Core.Logic.{inl, inr}
use mathlib.Core.List.{List}
use mathlib.Core.Option.{Option, none, some}
use native.Mathlib.Omega.{arith}
use Rattle.chunks.proofs.Finding.{place_some}
use Rattle.store.specs.Table.{Table, id_at}
use Rattle.chains.specs.Chain.{Store, State, ValidState, StandsOn, Union, IsMerge}
use Rattle.chains.proofs.Sets.{stand_closed}
use Rattle.logs.specs.Held.{chain_of}
use Rattle.logs.proofs.Tables.{chain_valid}
use Rattle.frontiers.specs.Entries.{Entry, entry_of, ValidAt, Joins, IsMerged}
use Rattle.frontiers.specs.Trees.{StandsAt}
use Rattle.standing.specs.Standing.{Standing, by_ids, SameStanding}
use Rattle.standing.specs.Reading.{author_with}
use Rattle.standing.proofs.Said.{EntriesOf, said, says, author_own}
use Rattle.across.specs.Stores.{TwoStores}
use Rattle.across.specs.Ids.{HasId, StandsOnId, SameIds}
use Rattle.across.proofs.Stores.{stores_back}
use Rattle.across.proofs.Sets.{sets_same}
use Rattle.across.proofs.States.{stand_there}

-- Something said is not nothing, and one thing said is one thing.
pub nothing_said : {s : Standing} → some s ≡ none → ⊥
nothing_said e = let z : ◌≡◌ {A = ℕ} 0 1 = cc in omega arith

pub one_said : {s r : Standing} → some s ≡ some r → s ≡ r
one_said e = cc

-- An author whose entry stands on something is one of the table's.
pub stands_known : (s : Store) (n a z : ℕ) (x : Option State) → ValidAt s n a x → StandsAt s x z → (1 ≤ a) × (a ≤ n)
stands_known s n a z none p h = absurd h
stands_known s n a z (some l) p h = (p.0, p.1.0)

module _ (t u : Table) (s : TwoStores t u) where
  -- One author's entries that say the same stand on the same ids.
  on_there : (A B : ℕ) (x y : Option State) → ValidAt (chain_of t) t.counts.authors A x → ValidAt (chain_of u) u.counts.authors B y
      → said t x ≡ said u y → (z : ℕ) → StandsAt (chain_of t) x z → HasId u (StandsAt (chain_of u) y) (id_at t z)
  on_there A B none y p q e z h = absurd h
  on_there A B (some l) none p q e z h = absurd (nothing_said e)
  on_there A B (some l) (some m) p q e z h = stand_there t u s A B l m p.1.1 q.1.1 (one_said e) z h

  -- Frontiers that say the same stand on the same ids: one way.
  ids_there : (f g : List Entry) → EntriesOf t f → EntriesOf u g → SameStanding t f u g → (k x : List ℕ) → StandsOnId t f k x → StandsOnId u g k x
  ids_there f g v w e k x h =
      let a = h.author in
      let b = author_with u k in
      let i = stands_known (chain_of t) t.counts.authors a h.on.row (entry_of f a) (v.each a) h.on.member in
      let own : author_with t k ≡ a = ap (author_with t) (sym h.key) ∙ author_own t s.first a i.0 i.1 in
      let same : said t (entry_of f a) ≡ said u (entry_of g b) =
      ap (λ c. said t (entry_of f c)) (sym own) ∙ sym (says t s.first f v k) ∙ e k ∙ says u s.second g w k in
      let there = on_there a b (entry_of f a) (entry_of g b) (v.each a) (w.each b) same h.on.row h.on.member in
      let j = stands_known (chain_of u) u.counts.authors b there.row (entry_of g b) (w.each b) there.member in
      record {
        author = b;
        key = (place_some u.keys k u.counts.authors (λ z. let o = j.0 in omega arith)).here;
        on = record { row = there.row; member = there.member; id = there.id ∙ h.on.id };
      }

  -- Two states of one author, and two elsewhere that stand at the same ids: what the ones stand on, the others do, by ids.
  union_there : (A B : ℕ) (L K M N : State) → ValidState (chain_of t) A L → ValidState (chain_of t) A K → ValidState (chain_of u) B M → ValidState (chain_of u) B N
      → by_ids t L ≡ by_ids u M → by_ids t K ≡ by_ids u N → (x : ℕ) → Union (StandsOn (chain_of t) L) (StandsOn (chain_of t) K) x
      → HasId u (Union (StandsOn (chain_of u) M) (StandsOn (chain_of u) N)) (id_at t x)
  union_there A B L K M N p q r o e d x (inl h) =
      let i = stand_there t u s A B L M p r e x h in
      record { row = i.row; member = inl i.member; id = i.id }
  union_there A B L K M N p q r o e d x (inr h) =
      let i = stand_there t u s A B K N q o d x h in
      record { row = i.row; member = inr i.member; id = i.id }

-- Frontiers that say the same stand on the same ids.
pub same_ids : (t u : Table) → TwoStores t u → (f g : List Entry) → EntriesOf t f → EntriesOf u g → SameStanding t f u g → SameIds t f u g
same_ids t u s f g v w e k x = (ids_there t u s f g v w e k x, ids_there u t (stores_back t u s) g f w v (λ i. sym (e i)) k x)

module _ (t u : Table) (s : TwoStores t u) where
  -- Merges of states that stand at the same ids stand at the same ids.
  pub merge_same : (A B : ℕ) (L K J M N O : State) → ValidState (chain_of t) A L → ValidState (chain_of t) A K → ValidState (chain_of u) B M
      → ValidState (chain_of u) B N
      → by_ids t L ≡ by_ids u M → by_ids t K ≡ by_ids u N → IsMerge (chain_of t) L K J → IsMerge (chain_of u) M N O → by_ids t J ≡ by_ids u O
  merge_same A B L K J M N O p q r o e d i j =
      sets_same t u s A B (Union (StandsOn (chain_of t) L) (StandsOn (chain_of t) K)) (Union (StandsOn (chain_of u) M) (StandsOn (chain_of u) N))
      (stand_closed (chain_of t) (chain_valid t s.first s.first_ids) A p q) (stand_closed (chain_of u) (chain_valid u s.second s.second_ids) B r o)
      (union_there t u s A B L K M N p q r o e d)
      (union_there u t (stores_back t u s) B A M N L K r o p q (sym e) (sym d)) J O i j

  -- Joins of entries, or absences, that say the same say the same.
  joins_same : (A B : ℕ) (x v y w r o : Option State) → ValidAt (chain_of t) t.counts.authors A x → ValidAt (chain_of u) u.counts.authors B v
      → ValidAt (chain_of t) t.counts.authors A y → ValidAt (chain_of u) u.counts.authors B w
      → said t x ≡ said u v → said t y ≡ said u w → Joins (chain_of t) x y r → Joins (chain_of u) v w o → said t r ≡ said u o
  joins_same A B none none none none r o a b c d e f i j = ap (said t) i ∙ sym (ap (said u) j)
  joins_same A B none none none (some n) r o a b c d e f i j = absurd (nothing_said (sym f))
  joins_same A B none none (some k) none r o a b c d e f i j = absurd (nothing_said f)
  joins_same A B none none (some k) (some n) r o a b c d e f i j = ap (said t) i ∙ f ∙ sym (ap (said u) j)
  joins_same A B none (some m) y w r o a b c d e f i j = absurd (nothing_said (sym e))
  joins_same A B (some l) none y w r o a b c d e f i j = absurd (nothing_said e)
  joins_same A B (some l) (some m) none none r o a b c d e f i j = ap (said t) i ∙ e ∙ sym (ap (said u) j)
  joins_same A B (some l) (some m) none (some n) r o a b c d e f i j = absurd (nothing_said (sym f))
  joins_same A B (some l) (some m) (some k) none r o a b c d e f i j = absurd (nothing_said f)
  joins_same A B (some l) (some m) (some k) (some n) none o a b c d e f i j = absurd i
  joins_same A B (some l) (some m) (some k) (some n) (some r) none a b c d e f i j = absurd j
  joins_same A B (some l) (some m) (some k) (some n) (some r) (some o) a b c d e f i j =
      ap some (merge_same A B l k r m n o a.1.1 c.1.1 b.1.1 d.1.1 (one_said e) (one_said f) i j)

  -- The merged frontiers of frontiers that say the same say the same.
  pub merged_same : (f g r f' g' r' : List Entry) → EntriesOf t f → EntriesOf t g → EntriesOf t r → EntriesOf u f' → EntriesOf u g' → EntriesOf u r'
      → SameStanding t f u f' → SameStanding t g u g' → IsMerged (chain_of t) f g r → IsMerged (chain_of u) f' g' r' → SameStanding t r u r'
  merged_same f g r f' g' r' a b c a' b' c' e d i j k =
      let A = author_with t k in
      let B = author_with u k in
      says t s.first r c k
      ∙ joins_same A B (entry_of f A) (entry_of f' B) (entry_of g A) (entry_of g' B) (entry_of r A) (entry_of r' B) (a.each A) (a'.each B) (b.each A) (b'.each B)
      (sym (says t s.first f a k) ∙ e k ∙ says u s.second f' a' k) (sym (says t s.first g b k) ∙ d k ∙ says u s.second g' b' k)
      (i.joins A) (j.joins B)
      ∙ sym (says u s.second r' c' k)

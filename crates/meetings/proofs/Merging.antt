-- The merge of a set of frontiers: there is one, and it depends on nothing but which frontiers the set has. The ids are bytes, as a
-- lent part's are.
-- Assumes nothing.
use Rattle.std.specs.Prelude.{Ok}
use Prim.Native.Nat.{ℕ}
use mathlib.Core.Path.{◌≡◌, refl, sym, ◌∙◌, subst}
use mathlib.Core.Logic.{◌↔◌, inl, inr, ⊎_elim}
use mathlib.Core.List.{List}
use mathlib.Core.Option.{Option, none, some}
use lib.ListN.{take}
use Rattle.basics.specs.Bytes.{Bytes}
use Rattle.store.specs.Table.{Table, WellFormed}
use Rattle.chains.specs.Chain.{Store, State, growing, forked, Shared, StateOf}
use Rattle.logs.specs.Held.{chain_of}
use Rattle.frontiers.specs.Entries.{entry_of}
use Rattle.frontiers.specs.Numbers.{entries_of}
use Rattle.frontiers.specs.Calls.{FrontierOf}
use Rattle.frontiers.specs.Trees.{FrontierCalls, given, merging, appending, Proper, Leaf, AllStandOn, Present, Stated, FrontierOfAll}
use Rattle.frontiers.proofs.Trees.{runs_end, runs_same_leaves}
use Rattle.meetings.specs.Merging.{OnlyMerges, MergesAll, MergedSomehow, IsMergeOf}

-- Two messages that share a predecessor share it in every set with the same messages.
shared_same : (s : Store) (S R : ℕ → Type 0) (x y : ℕ) → ((z : ℕ) → S z ↔ R z) → Shared s R x y → Shared s S x y
shared_same s S R x y e h = record { first = (e x).1 h.first; second = (e y).1 h.second; differ = h.differ; one = h.one }

-- The state of a set is that of every set with the same messages.
state_same : (s : Store) (S R : ℕ → Type 0) (K : State) → ((z : ℕ) → S z ↔ R z) → StateOf s S K → StateOf s R K
state_same s S R (growing l) e h =
    record {
      last = ⊎_elim (λ z. inl z) (λ m. inr ((e l).0 m)) h.last;
      deepest = λ x m. h.deepest x ((e x).1 m);
      single = λ x y m. h.single x y (shared_same s S R x y e m);
    }
state_same s S R (forked l lo hi) e h =
    record {
      low = (e lo).0 h.low;
      high = (e hi).0 h.high;
      low_prev = h.low_prev;
      high_prev = h.high_prev;
      sorted = h.sorted;
      lowest = λ c m. h.lowest c ((e c).1 m);
      shallowest = λ x y m. h.shallowest x y (shared_same s S R x y e m);
    }

-- So is an entry that is the state of a set.
stated_same : (s : Store) (S R : ℕ → Type 0) (P Q : Type 0) (x : Option State) → ((z : ℕ) → S z ↔ R z) → P ↔ Q → Stated s S P x → Stated s R Q x
stated_same s S R P Q none e f h = λ q. h (f.1 q)
stated_same s S R P Q (some K) e f h = (f.0 h.0, state_same s S R K e h.1)

-- What the entries of a set of frontiers stand on, and whether there are any, is the same of every set with the same frontiers.
stand_same : (t : Table) (L M : List ℕ → Type 0) (a x : ℕ) → ((f : List ℕ) → L f ↔ M f) → AllStandOn t L a x ↔ AllStandOn t M a x
stand_same t L M a x e = (
  λ h. record { frontier = h.frontier; one = (e h.frontier).0 h.one; on = h.on },
  λ h. record { frontier = h.frontier; one = (e h.frontier).1 h.one; on = h.on },
)

present_same : (L M : List ℕ → Type 0) (a : ℕ) → ((f : List ℕ) → L f ↔ M f) → Present L a ↔ Present M a
present_same L M a e = (
  λ h. record { frontier = h.frontier; one = (e h.frontier).0 h.one; some = h.some },
  λ h. record { frontier = h.frontier; one = (e h.frontier).1 h.one; some = h.some },
)

-- So is the frontier of the set.
frontier_same : (t : Table) (L M : List ℕ → Type 0) (r : List ℕ) → ((f : List ℕ) → L f ↔ M f) → FrontierOfAll t L r → FrontierOfAll t M r
frontier_same t L M r e h =
    record {
      valid = h.valid;
      entries = λ a.
          stated_same (chain_of t) (AllStandOn t L a) (AllStandOn t M a) (Present L a) (Present M a) (entry_of (entries_of r) a)
          (λ x. stand_same t L M a x e) (present_same L M a e) (h.entries a);
    }

-- A tree of merges of one set is one of every set with the same frontiers.
pub somehow_same : (t : Table) (C D : List ℕ → Type 0) (r : List ℕ) → ((f : List ℕ) → C f ↔ D f) → MergedSomehow t C r → MergedSomehow t D r
somehow_same t C D r e h =
    record {
      calls = h.calls;
      all =
          record {
            only = h.all.only;
            exactly = λ f. (λ l. (e f).0 ((h.all.exactly f).0 l), λ d. (h.all.exactly f).1 ((e f).1 d));
          };
      count = h.count;
      list = h.list;
      ran = h.ran;
      ends = h.ends;
    }

-- Merges of valid frontiers are proper calls.
proper : (t : Table) (c : FrontierCalls) → OnlyMerges c → ((f : List ℕ) → Leaf t c f → FrontierOf t f) → Proper t c
proper t (given g) o v = v g refl
proper t (merging c d) o v = (proper t c o.0 (λ f h. v f (inl h)), proper t d o.1 (λ f h. v f (inr h)))
proper t (appending c x) o v = absurd o

module _ (t : Table) (w : WellFormed t) (b : Bytes t.ids) (C : List ℕ → Type 0) (v : (f : List ℕ) → C f → FrontierOf t f) where
  -- So are merges of a set of them.
  all_proper : (c : FrontierCalls) → MergesAll t C c → Proper t c
  all_proper c m = proper t c m.only (λ f h. v f ((m.exactly f).0 h))

  -- What some merges of exactly these frontiers end in is the merge of them, and all merges of them end in it.
  pub somehow_merge : (r : List ℕ) → MergedSomehow t C r → IsMergeOf t C r
  somehow_merge r h =
      let p = all_proper h.calls h.all in
      record {
        frontier = subst (FrontierOfAll t C) h.ends
            (frontier_same t (Leaf t h.calls) C (take h.count h.list) h.all.exactly
            (runs_end t w b h.calls (Ok h.count) h.list p h.ran).1);
        somehow = h;
        anyhow = λ c n l m x.
            (runs_same_leaves t w b c h.calls n h.count l h.list (all_proper c m) p
            (λ f. (λ y. (h.all.exactly f).1 ((m.exactly f).0 y), λ y. (m.exactly f).1 ((h.all.exactly f).0 y))) x h.ran).1
            ∙ h.ends;
      }

-- There is one merge of a set of frontiers.
pub one_merge_of : (t : Table) (C : List ℕ → Type 0) (r q : List ℕ) → IsMergeOf t C r → IsMergeOf t C q → r ≡ q
one_merge_of t C r q x y = let h = x.somehow in sym h.ends ∙ y.anyhow h.calls h.count h.list h.all h.ran

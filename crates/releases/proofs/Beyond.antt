-- What the question never reads: the columns beyond the row count, and the table of owners beyond its 512.
-- Assumes nothing.
use Rattle.std.specs.Prelude.{Option, Some, None, Result, Ok, Err}
use Rattle.answers.specs.declared.Refusal.{Refusal}
use Prim.Native.Nat.{ℕ}
use mathlib.Core.Path.{◌≡◌, sym, ap, subst, ◌∙◌}
use mathlib.Core.List.{List}
use mathlib.Core.Logic.{◌≢◌}
use mathlib.Core.Option.{none, some}
use native.Mathlib.Omega.{arith}
use Rattle.basics.specs.Bytes.{Bytes}
use Rattle.store.specs.Table.{Table}
use Rattle.chains.specs.Chain.{State, last_of}
use Rattle.frontiers.specs.Entries.{entry_of}
use Rattle.frontiers.specs.Numbers.{entries_of}
use Rattle.desk.specs.Payload.{says_yes}
use Rattle.releases.specs.declared.Shown.{Shown}
use Rattle.releases.specs.Current.{component_limit, owner_of, Carries, Shows, HasRelease, NoRelease, no_owner, no_entry, no_message}
use Rattle.releases.specs.Calls.{ColumnsKept, OwnersKnown, Askable, NotAsked, Answers, SameWithin}
use Rattle.releases.proofs.Theorems.{one_answer}

-- The other way round.
turned : {n : ℕ} {xs ys : List ℕ} → SameWithin n xs ys → SameWithin n ys xs
turned h = record { there = h.back; back = h.there; same = λ r l m. sym (h.same r l m) }

module _ (t : Table) (f cs es owners cs' es' owners' : List ℕ) (c : ℕ) (hc : SameWithin t.counts.rows cs cs') (he : SameWithin t.counts.rows es es')
    (ho : SameWithin component_limit owners owners') where
  -- The columns and the table are as they must be,
  kept_same : ColumnsKept t.counts.rows cs es owners → ColumnsKept t.counts.rows cs' es' owners'
  kept_same k =
      record {
        components = hc.there k.components;
        expanded = he.there k.expanded;
        table = ho.there k.table;
        marked = λ r l m. let p = k.marked r l m in let e = he.same r l m in omega arith;
      }

  -- and so are the owners.
  known_same : OwnersKnown owners t.counts.authors component_limit → OwnersKnown owners' t.counts.authors component_limit
  known_same k q l m = let p = k q l m in let e = ho.same q l m in omega arith

  -- The question is as sound to ask.
  askable_same : Askable t f cs es owners c → Askable t f cs' es' owners' c
  askable_same a =
      record {
        well_formed = a.well_formed;
        frontier = a.frontier;
        columns = kept_same a.columns;
        owners_known = known_same a.owners_known;
        some = a.some;
        within = a.within;
      }

  -- The same messages carry the component.
  carries_same : (a last r : ℕ) → Carries t cs a last c r → Carries t cs' a last c r
  carries_same a last r p =
      record { message = p.message; back = p.back; carries = sym (hc.same r p.message.held p.message.some) ∙ p.carries }

module _ (t : Table) (b : Bytes t.ids) (f cs es owners cs' es' owners' : List ℕ) (c : ℕ) (hc : SameWithin t.counts.rows cs cs')
    (he : SameWithin t.counts.rows es es') (ho : SameWithin component_limit owners owners') where
  -- The same owner is asked.
  owner_same : Askable t f cs es owners c → owner_of owners c ≡ owner_of owners' c
  owner_same a = ho.same c a.within a.some

  -- Of one owner the same is shown.
  shows_same : (a : ℕ) (k : State) (x : Shown) → Shows t cs es a k c x → Shows t cs' es' a k c x
  shows_same a k x p =
      let r = p.current.one.message in
      record {
        current = record {
          one = carries_same t f cs es owners cs' es' owners' c hc he ho a (last_of k) x.row p.current.one;
          highest = λ q h. p.current.highest q (carries_same t f cs' es' owners' cs es owners c (turned hc) (turned he) (turned ho) a (last_of k) q h);
        };
        index = p.index;
        expanded = p.expanded ∙ ap says_yes (he.same x.row r.held r.some);
        frozen = p.frozen;
      }

  has_same : Askable t f cs es owners c → (x : Shown) → HasRelease t f cs es owners c x → HasRelease t f cs' es' owners' c x
  has_same ask x p =
      let e = owner_same ask in
      record {
        owned = subst (λ (a : ℕ). a ≢ 0) e p.owned;
        state = p.state;
        entry = subst (λ (a : ℕ). entry_of (entries_of f) a ≡ some p.state) e p.entry;
        shows = shows_same (owner_of owners' c) p.state x (subst (λ (a : ℕ). Shows t cs es a p.state c x) e p.shows);
      }

  none_same : Askable t f cs es owners c → NoRelease t f cs owners c → NoRelease t f cs' owners' c
  none_same ask (no_owner z) = no_owner (sym (owner_same ask) ∙ z)
  none_same ask (no_entry z e) =
      no_entry (subst (λ (a : ℕ). a ≢ 0) (owner_same ask) z) (subst (λ (a : ℕ). entry_of (entries_of f) a ≡ none) (owner_same ask) e)
  none_same ask (no_message z k e h) =
      no_message (subst (λ (a : ℕ). a ≢ 0) (owner_same ask) z) k (subst (λ (a : ℕ). entry_of (entries_of f) a ≡ some k) (owner_same ask) e)
      (λ r p. h r
      (subst (λ (a : ℕ). Carries t cs a (last_of k) c r) (sym (owner_same ask))
      (carries_same t f cs' es' owners' cs es owners c (turned hc) (turned he) (turned ho) (owner_of owners' c) (last_of k) r p)))

  refused_same : {n : ℕ} → NotAsked t f cs es owners c n → NotAsked t f cs' es' owners' c n
  refused_same (NotAsked.not_well_formed e x) = NotAsked.not_well_formed e x
  refused_same (NotAsked.not_valid e w x) = NotAsked.not_valid e w x
  refused_same (NotAsked.not_kept e w v x) =
      NotAsked.not_kept e w v (λ k. x (kept_same t f cs' es' owners' cs es owners c (turned hc) (turned he) (turned ho) k))
  refused_same (NotAsked.ownerless e w v k x) =
      NotAsked.ownerless e w v (kept_same t f cs es owners cs' es' owners' c hc he ho k)
      (λ o. x (known_same t f cs' es' owners' cs es owners c (turned hc) (turned he) (turned ho) o))
  refused_same (NotAsked.no_component e w v k o x) =
      NotAsked.no_component e w v (kept_same t f cs es owners cs' es' owners' c hc he ho k) (known_same t f cs es owners cs' es' owners' c hc he ho o) x

  answers_same : (a : Result (Option Shown) Refusal) → Answers t f cs es owners c a → Answers t f cs' es' owners' c a
  answers_same (Ok (Some x)) (p, i) = (askable_same t f cs es owners cs' es' owners' c hc he ho p, has_same p x i)
  answers_same (Ok None) (p, i) = (askable_same t f cs es owners cs' es' owners' c hc he ho p, none_same p i)
  answers_same (Err why) p = refused_same p

  -- WHAT STANDS BEYOND THE COUNT IS NEVER READ: columns that are the same in the places of counted rows, and tables that are the same in the places of
  -- the 512, have one answer.
  pub beyond_unread : (a d : Result (Option Shown) Refusal) → Answers t f cs es owners c a → Answers t f cs' es' owners' c d → a ≡ d
  beyond_unread a d p q = one_answer t b f cs' es' owners' c a d (answers_same a p) q

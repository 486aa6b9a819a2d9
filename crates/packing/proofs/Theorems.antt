-- Over a well_formed store: the packing list is closed; it has all that the entries' states stand on; the list of the merge of two
-- frontiers lies within the union of the two lists, and is the union where the merge stays growing; a larger frontier of growing
-- entries packs at least as much.
-- Assumes nothing.
use Prim.Native.Nat.{ℕ, ◌≤◌}
use mathlib.Core.Path.{◌≡◌, refl, sym, subst}
use mathlib.Core.List.{List, Memᴰ}
use mathlib.Core.Logic.{◌⊎◌, inl, inr, ⊎_elim, ◌↔◌}
use mathlib.Core.Option.{some}
use Rattle.basics.specs.Bytes.{Bytes}
use Rattle.store.specs.Table.{Table, WellFormed, prev_of, deps_of}
use Rattle.chains.specs.Chain.{State, ValidState, StandsOn, StateOf}
use Rattle.chains.proofs.Order.{stands_row}
use Rattle.chains.proofs.Sandwich.{sandwich_state}
use Rattle.chains.proofs.Sets.{stands_closed, sandwich_ext, own_sandwich}
use Rattle.logs.specs.Held.{chain_of}
use Rattle.logs.proofs.Tables.{chain_valid}
use Rattle.frontiers.specs.Calls.{FrontierOf, MergedOf}
use Rattle.frontiers.specs.Entries.{Entry, flat, entry_of, ValidAt, ValidEntries, FrontierBelow}
use Rattle.frontiers.specs.Numbers.{entries_of}
use Rattle.frontiers.proofs.Numbers.{valid_entries, entries_flat}
use Rattle.frontiers.proofs.Merged.{merged_above_left, merged_above_right}
use Rattle.packing.specs.Before.{by_link, by_list}
use Rattle.packing.specs.Packing.{PackingList}
use Rattle.packing.specs.Growing.{AllGrowing}
use Rattle.packing.proofs.Entries.{packs_by, by_packs}
use Rattle.packing.proofs.Packing.{step_closed}
use Rattle.packing.proofs.Larger.{packs_more, stands_packed, merged_packs}

-- The list is a packing list of the frontier over the table.
abbrev pub PacksIn : Table → List ℕ → List ℕ → Type 0
PacksIn t frontier list = PackingList t.rows t.deps frontier list

module _ (t : Table) where
  -- The packing list is closed: with a row it has its previous row,
  pub list_has_previous : (f l : List ℕ) (y : ℕ) → PacksIn t f l → Memᴰ y l → 1 ≤ prev_of t y → Memᴰ (prev_of t y) l
  list_has_previous f l y p m h = step_closed p (by_link h refl) m

  -- and its dependencies.
  pub list_has_dependencies : (f l : List ℕ) (x y : ℕ) → PacksIn t f l → Memᴰ y l → Memᴰ x (deps_of t y) → Memᴰ x l
  list_has_dependencies f l x y p m d = step_closed p (by_list d) m

  -- The entries of a valid frontier.
  entries_valid : (f : List ℕ) → FrontierOf t f → ValidEntries (chain_of t) t.counts.authors (entries_of f)
  entries_valid f v = valid_entries (chain_of t) t.counts.authors f v

  -- The list of the merge of two frontiers lies within the union of the two lists.
  pub merged_packs_within : (f g l k n : List ℕ) (merged : List Entry) → MergedOf t f g merged → PacksIn t f l → PacksIn t g k
      → PacksIn t (flat merged) n → (x : ℕ) → Memᴰ x n → Memᴰ x l ⊎ Memᴰ x k
  merged_packs_within f g l k n merged m p q o x i =
      let again = subst (MergedOf t f g) (sym (entries_flat merged)) m in
      ⊎_elim (λ u. inl (p.all x (by_packs u))) (λ u. inr (q.all x (by_packs u)))
      (merged_packs (chain_of t) (λ y. refl) again (packs_by again.rising (o.only x i)))

  -- A larger frontier of growing entries packs at least as much.
  pub larger_packs_more : (f g l k : List ℕ) → FrontierOf t f → FrontierBelow (chain_of t) (entries_of f) (entries_of g) → AllGrowing g
      → PacksIn t f l → PacksIn t g k → (x : ℕ) → Memᴰ x l → Memᴰ x k
  larger_packs_more f g l k v below grows p q x m =
      q.all x (by_packs (packs_more (chain_of t) (λ y. refl) below grows.each (packs_by (entries_valid f v).rising (p.only x m))))

module _ (t : Table) (w : WellFormed t) (b : Bytes t.ids) where
  module _ (f l : List ℕ) (a : ℕ) (st : State) (v : FrontierOf t f) (p : PacksIn t f l) (found : entry_of (entries_of f) a ≡ some st) where
    -- The entry's state is valid.
    state_valid : ValidState (chain_of t) a st
    state_valid = (subst (ValidAt (chain_of t) t.counts.authors a) found ((entries_valid t f v).each a)).1.1

    -- All that an entry's state stands on is in the list,
    pub list_has_standing : (x : ℕ) → StandsOn (chain_of t) st x → Memᴰ x l
    list_has_standing x h =
        let some-row = (stands_row (chain_of t) (chain_valid t w b) a state_valid x h).some in
        let packs = stands_packed (chain_of t) (λ y. refl) st some-row h in
        p.all x (by_packs (record { author = a; state = st; found = found; packs = packs }))

    -- so whoever has the messages of the list can check the state: it is the state of those of them that it stands on.
    pub list_shows_state : StateOf (chain_of t) (λ (x : ℕ). Memᴰ x l × StandsOn (chain_of t) st x) st
    list_shows_state =
        let c = stands_closed (chain_of t) (chain_valid t w b) a state_valid in
        sandwich_state (chain_of t) (chain_valid t w b) a (λ (x : ℕ). Memᴰ x l × StandsOn (chain_of t) st x)
        (record { rows = λ x h. c.rows x h.1; back = λ x h. ⊎_elim (λ e. inl e) (λ s. inr (both s)) (c.back x h.1) })
        (sandwich_ext (chain_of t) (chain_valid t w b) a (λ x h. both h) (λ x h. h.1)
        (own_sandwich (chain_of t) (chain_valid t w b) a state_valid))
      where
        both : {x : ℕ} → StandsOn (chain_of t) st x → Memᴰ x l × StandsOn (chain_of t) st x
        both {x} h = (list_has_standing x h, h)

  -- The list of the merge of two frontiers that stays growing is the union of the two lists.
  pub merged_packs_union : (f g l k n : List ℕ) (merged : List Entry) → FrontierOf t f → FrontierOf t g → MergedOf t f g merged → AllGrowing (flat merged)
      → PacksIn t f l → PacksIn t g k → PacksIn t (flat merged) n → (x : ℕ) → Memᴰ x n ↔ (Memᴰ x l ⊎ Memᴰ x k)
  merged_packs_union f g l k n merged vf vg m grows p q o x = (merged_packs_within t f g l k n merged m p q o x, joined)
    where
      again : MergedOf t f g (entries_of (flat merged))
      again = subst (MergedOf t f g) (sym (entries_flat merged)) m

      left : FrontierBelow (chain_of t) (entries_of f) (entries_of (flat merged))
      left = merged_above_left (chain_of t) (chain_valid t w b) t.counts.authors (entries_of f) (entries_of g) (entries_of (flat merged))
          (entries_valid t f vf) (entries_valid t g vg) again

      right : FrontierBelow (chain_of t) (entries_of g) (entries_of (flat merged))
      right = merged_above_right (chain_of t) (chain_valid t w b) t.counts.authors (entries_of f) (entries_of g) (entries_of (flat merged))
          (entries_valid t f vf) (entries_valid t g vg) again

      joined : Memᴰ x l ⊎ Memᴰ x k → Memᴰ x n
      joined s =
          ⊎_elim
          (λ i. larger_packs_more t f (flat merged) l n vf left grows p o x i)
          (λ i. larger_packs_more t g (flat merged) k n vg right grows q o x i)
          s

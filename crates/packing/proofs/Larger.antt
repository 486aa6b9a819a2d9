-- What larger frontiers of growing entries pack, what merged frontiers pack, and that what a state stands on is packed.
-- Assumes nothing.
use Prim.Native.Nat.{ℕ, zero, suc, ◌≤◌}
use mathlib.Core.Path.{◌≡◌, refl, sym, ◌∙◌, subst}
use mathlib.Core.List.{List}
use mathlib.Core.Logic.{◌⊎◌, inl, inr, ⊎_elim}
use mathlib.Core.Option.{Option, none, some}
use Rattle.store.specs.Table.{row_at}
use Rattle.chains.specs.Chain.{Store, State, growing, forked, up, AtOrBefore, StandsOn, Union, IsMerge, AtOrBelow}
use Rattle.frontiers.specs.Entries.{Entry, entry_of, IsMerged, Joins, BelowAt, FrontierBelow}
use Rattle.frontiers.proofs.Entries.{some_not_none}
use Rattle.packing.specs.Before.{Within}
use Rattle.packing.specs.Packing.{PacksState}
use Rattle.packing.specs.Growing.{Grows}
use Rattle.packing.proofs.Before.{link_within, none_within}
use Rattle.packing.proofs.Roots.{last_packs, growing_packs, forked_packs}
use Rattle.packing.proofs.Entries.{PacksBy}

-- The previous links of a store of chains are those of the rows.
abbrev pub LinksOf : Store → List ℕ → Type 0
LinksOf s rows = (y : ℕ) → s.prev y ≡ (row_at rows y).prev

-- What one author's entry packs.
record PackedBy (rows deps : List ℕ) (entry : Option State) (x : ℕ) : Type 0 where
  state : State
  found : entry ≡ some state
  packs : PacksState rows deps state x

module _ {rows deps : List ℕ} (s : Store) (links : LinksOf s rows) where
  -- The history of a row that is `n` steps back in the log is part of the history.
  up_within : (n b x : ℕ) → Within rows deps (up s n b) x → Within rows deps b x
  unfolding up
  up_within zero b x i = i
  up_within (suc n) b x i = up_within n b x (link_within (subst (λ (r : ℕ). Within rows deps r x) (links (up s n b)) i))

  -- What is at or before a row in the log packs no more than the row.
  pub log_within : {a b x : ℕ} → AtOrBefore s a b → Within rows deps a x → Within rows deps b x
  log_within {b = b} {x} p i = up_within p.steps b x (subst (λ (r : ℕ). Within rows deps r x) (sym p.reach) i)

  -- A state at or below a growing one packs no more.
  below_packs : {x : ℕ} (l k : State) → AtOrBelow s l k → Grows (some k) → PacksState rows deps l x → PacksState rows deps k x
  below_packs (growing l) (growing k) p g i = last_packs (growing k) (log_within p (growing_packs i))
  below_packs (growing l) (forked k lo hi) p g i = absurd g
  below_packs (forked l a b) (growing k) p g i = absurd p
  below_packs (forked l a b) (forked k lo hi) p g i = absurd g

  -- A larger frontier of growing entries packs at least as much.
  pub packs_more : {f g : List Entry} {x : ℕ} → FrontierBelow s f g → ((a : ℕ) → Grows (entry_of g a)) → PacksBy rows deps f x → PacksBy rows deps g x
  packs_more {f} {g} {x} below grows p = go (entry_of g p.author) refl
      (subst (λ (o : Option State). BelowAt s o (entry_of g p.author)) p.found (below p.author))
    where
      go : (o : Option State) → entry_of g p.author ≡ o → BelowAt s (some p.state) (entry_of g p.author) → PacksBy rows deps g x
      go none e q = absurd (subst (BelowAt s (some p.state)) e q)
      go (some k) e q =
          record {
            author = p.author;
            state = k;
            found = e;
            packs = below_packs p.state k (subst (BelowAt s (some p.state)) e q) (subst Grows e (grows p.author)) p.packs;
          }

  -- What happened before a row that a state stands on is packed for the state,
  stands_within : {y x : ℕ} (k : State) → StandsOn s k y → Within rows deps y x → PacksState rows deps k x
  stands_within (growing l) h i = last_packs (growing l) (log_within h.back i)
  stands_within (forked l lo hi) (inl h) i = last_packs (forked l lo hi) (log_within h.back i)
  stands_within {y} (forked l lo hi) (inr e) i = record { root = y; stands = inr e; within = i }

  -- and so is the row itself.
  pub stands_packed : {x : ℕ} (k : State) → 1 ≤ x → StandsOn s k x → PacksState rows deps k x
  stands_packed k h p = stands_within k p (inl (h, refl))

  -- A state of a union packs no more than the two do.
  merge_packs : {x : ℕ} (l k m : State) → IsMerge s l k m → PacksState rows deps m x → PacksState rows deps l x ⊎ PacksState rows deps k x
  merge_packs {x} l k m = go m
    where
      from : {y : ℕ} → Within rows deps y x → Union (StandsOn s l) (StandsOn s k) y → PacksState rows deps l x ⊎ PacksState rows deps k x
      from i u = ⊎_elim (λ h. inl (stands_within l h i)) (λ h. inr (stands_within k h i)) u

      below : {y z : ℕ} → s.prev y ≡ z → Within rows deps z x → Within rows deps y x
      below {y} e i = link_within (subst (λ (r : ℕ). Within rows deps r x) (sym e ∙ links y) i)

      go : (m : State) → IsMerge s l k m → PacksState rows deps m x → PacksState rows deps l x ⊎ PacksState rows deps k x
      go (growing n) j p =
          let i = growing_packs p in
          ⊎_elim (λ e. absurd (none_within (subst (λ (r : ℕ). Within rows deps r x) e i))) (λ u. from i u) j.last
      go (forked n lo hi) j p =
          ⊎_elim (λ i. from (below j.low_prev i) j.low) (λ o. ⊎_elim (λ i. from i j.low) (λ i. from i j.high) o) (forked_packs p)

  -- One author's entries: what the joined entry packs, one of the two packs.
  joined_packs : {x : ℕ} (l k : Option State) (st : State) → Joins s l k (some st) → PacksState rows deps st x
      → PackedBy rows deps l x ⊎ PackedBy rows deps k x
  joined_packs none none st j i = absurd (some_not_none j)
  joined_packs (some l) none st j i = inl (record { state = st; found = sym j; packs = i })
  joined_packs none (some k) st j i = inr (record { state = st; found = sym j; packs = i })
  joined_packs (some l) (some k) st j i =
      ⊎_elim
      (λ w. inl (record { state = l; found = refl; packs = w }))
      (λ w. inr (record { state = k; found = refl; packs = w }))
      (merge_packs l k st j i)

  -- What the merged frontier packs, one of the two packs.
  pub merged_packs : {f g r : List Entry} {x : ℕ} → IsMerged s f g r → PacksBy rows deps r x → PacksBy rows deps f x ⊎ PacksBy rows deps g x
  merged_packs {f} {g} m w =
      let a = w.author in
      ⊎_elim
      (λ u. inl (record { author = a; state = u.state; found = u.found; packs = u.packs }))
      (λ u. inr (record { author = a; state = u.state; found = u.found; packs = u.packs }))
      (joined_packs (entry_of f a) (entry_of g a) w.state (subst (Joins s (entry_of f a) (entry_of g a)) w.found (m.joins a)) w.packs)

-- Laws of the roots of an entry: what is packed for its state, and that a walk from each root in turn marks just that.
-- Assumes nothing.
use Prim.Native.Nat.{ℕ}
use mathlib.Core.Path.{◌≡◌, refl, sym, ◌∙◌, subst}
use mathlib.Core.List.{List}
use mathlib.Core.Logic.{◌⊎◌, inl, inr, ⊎_elim, ◌≢◌}
use lib.Dec.{eqb}
use lib.ListN.{length}
use borrow.Author.Tests.{eqb-true, eqb-false}
use Rattle.basics.proofs.Tests.{by_pick}
use Rattle.chains.specs.Chain.{State, growing, forked, last_of}
use Rattle.frontiers.specs.Numbers.{phase_at, last_at, low_at, high_at, state_at}
use Rattle.packing.specs.Before.{HappenedBefore, Within}
use Rattle.packing.specs.Marks.{Marking, MayWalk}
use Rattle.packing.specs.Packing.{Root, PacksState, PacksEntry, RootsWalk}
use Rattle.packing.proofs.Before.{within_back}
use Rattle.packing.proofs.Marks.{marking_as, marking_then}
use Rattle.packing.proofs.Calls.{walk_after}

-- The last row of a state is a root of it.
last_root : (st : State) → Root st (last_of st)
last_root (growing l) = refl
last_root (forked l lo hi) = inl refl

module _ {rows deps : List ℕ} where
  -- What happened before a packed row is packed.
  pub state_back : {st : State} {x y : ℕ} → HappenedBefore rows deps x y → PacksState rows deps st y → PacksState rows deps st x
  state_back p i = record { root = i.root; stands = i.stands; within = within_back p i.within }

  -- The history of the last row is packed; of a growing state nothing else is.
  pub last_packs : (st : State) {x : ℕ} → Within rows deps (last_of st) x → PacksState rows deps st x
  last_packs st i = record { root = last_of st; stands = last_root st; within = i }

  pub growing_packs : {l x : ℕ} → PacksState rows deps (growing l) x → Within rows deps l x
  growing_packs {x = x} p = subst (λ (r : ℕ). Within rows deps r x) p.stands p.within

  -- Of a forked state the histories of the evidence rows are packed too, and no more.
  pub forked_packs : {l lo hi x : ℕ} → PacksState rows deps (forked l lo hi) x
      → Within rows deps l x ⊎ (Within rows deps lo x ⊎ Within rows deps hi x)
  forked_packs {l} {lo} {hi} {x} p =
      ⊎_elim (λ e. inl (at e)) (λ s. inr (⊎_elim (λ e. inl (at e)) (λ e. inr (at e)) s)) p.stands
    where
      at : {r : ℕ} → p.root ≡ r → Within rows deps r x
      at e = subst (λ (r : ℕ). Within rows deps r x) e p.within

-- The state of an entry by its phase.
module _ (f : List ℕ) (k : ℕ) where
  pub growing_at : phase_at f k ≡ 0 → state_at f k ≡ growing (last_at f k)
  growing_at e =
      by_pick (λ (st : State). st ≡ growing (last_at f k)) (eqb (phase_at f k) 0) (growing (last_at f k)) (forked (last_at f k) (low_at f k) (high_at f k))
      (λ t. refl)
      (λ t. absurd (eqb-false (phase_at f k) 0 t e))

  pub forked_at : phase_at f k ≢ 0 → state_at f k ≡ forked (last_at f k) (low_at f k) (high_at f k)
  forked_at d =
      by_pick (λ (st : State). st ≡ forked (last_at f k) (low_at f k) (high_at f k))
      (eqb (phase_at f k) 0) (growing (last_at f k)) (forked (last_at f k) (low_at f k) (high_at f k))
      (λ t. absurd (d (eqb-true (phase_at f k) 0 t)))
      (λ t. refl)

  -- The last row of an entry's state is the entry's third number.
  pub last_is : last_of (state_at f k) ≡ last_at f k
  last_is =
      by_pick (λ (st : State). last_of st ≡ last_at f k) (eqb (phase_at f k) 0) (growing (last_at f k)) (forked (last_at f k) (low_at f k) (high_at f k))
      (λ t. refl)
      (λ t. refl)

-- Where a walk may begin at each root of an entry, it may
module _ {rows deps starts marks : List ℕ} (f : List ℕ) (k : ℕ) (may : RootsWalk rows deps starts marks (state_at f k)) where
  -- from the last row,
  pub last_walk : {r : ℕ} → r ≡ last_at f k → MayWalk rows deps starts marks r
  last_walk {r} e = may r (subst (Root (state_at f k)) (last_is f k ∙ sym e) (last_root (state_at f k)))

  module _ (fork : phase_at f k ≢ 0) where
    forked_walk : RootsWalk rows deps starts marks (forked (last_at f k) (low_at f k) (high_at f k))
    forked_walk r s = may r (subst (λ (st : State). Root st r) (sym (forked_at f k fork)) s)

    -- after it from the lower evidence row,
    pub low_walk : {b : List ℕ} {l r : ℕ} → r ≡ low_at f k → length b ≡ length marks → Marking marks b (Within rows deps l)
        → MayWalk rows deps starts b r
    low_walk {r = r} e h m = walk_after (forked_walk r (inr (inl e))) h m

    -- and after both from the higher one.
    pub high_walk : {b c : List ℕ} {l lo r : ℕ} → r ≡ high_at f k → length b ≡ length marks → Marking marks b (Within rows deps l)
        → length c ≡ length b → Marking b c (Within rows deps lo) → MayWalk rows deps starts c r
    high_walk {r = r} e h m i n = walk_after (walk_after (forked_walk r (inr (inr e))) h m) i n

module _ {rows deps : List ℕ} (f : List ℕ) (k : ℕ) where
  -- Of a growing entry the walk from its last row marks all that is packed.
  pub growing_marked : {a b : List ℕ} {r : ℕ} → phase_at f k ≡ 0 → r ≡ last_at f k → Marking a b (Within rows deps r)
      → Marking a b (PacksEntry rows deps f k)
  growing_marked {a} {b} {r} p e m =
      subst (λ (st : State). Marking a b (PacksState rows deps st)) (sym (growing_at f k p))
      (marking_as (subst (λ (l : ℕ). Marking a b (Within rows deps l)) e m) (λ x i. last_packs (growing (last_at f k)) i) (λ x i. growing_packs i))

  -- Of a forked entry the walks from its last row and from both evidence rows do.
  pub forked_marked : {a b c d : List ℕ} {l lo hi : ℕ} → phase_at f k ≢ 0 → l ≡ last_at f k → lo ≡ low_at f k → hi ≡ high_at f k
      → Marking a b (Within rows deps l) → Marking b c (Within rows deps lo) → Marking c d (Within rows deps hi)
      → Marking a d (PacksEntry rows deps f k)
  forked_marked {a} {b} {c} {d} {l} {lo} {hi} p e g h m n o =
      subst (λ (st : State). Marking a d (PacksState rows deps st)) (sym (forked_at f k p))
      (marking_then m (marking_then n o (λ x i. i) (λ x i. inl i) (λ x i. inr i))
      (λ x i.
      ⊎_elim (λ w. inl (from (sym e) w)) (λ s. inr (⊎_elim (λ w. inl (from (sym g) w)) (λ w. inr (from (sym h) w)) s)) (forked_packs i))
      (λ x i. record { root = l; stands = inl e; within = i })
      (λ x s.
      ⊎_elim (λ i. record { root = lo; stands = inr (inl g); within = i }) (λ i. record { root = hi; stands = inr (inr h); within = i }) s))
    where
      from : {r q x : ℕ} → r ≡ q → Within rows deps r x → Within rows deps q x
      from {x = x} i w = subst (λ (r : ℕ). Within rows deps r x) i w

-- Demand 3 (d): any tree of merges over valid states of one author ends in the state of the set of messages that its leaves stand
-- on, evidence included; so two trees with the same members end equal. Said of ANY function whose answers on valid states are
-- merges, and with it (e) as equations between its answers.
-- Assumes nothing.
use Prim.Native.Nat.{ℕ}
use mathlib.Core.Path.{◌≡◌, refl, subst}
use mathlib.Core.Logic.{◌⊎◌, inl, inr, ⊎_elim, ◌↔◌}
use Rattle.chains.specs.Chain.{Store, RowOf, Valid, State, ValidState, StandsOn, Closed, StateOf, Union, IsMerge, AtOrBelow, merge_of}
use Rattle.chains.specs.Merging.{Tree, leaf, join, merged, Leaf, ValidLeaves, LeavesStandOn, Merges, DemandThree}
use Rattle.chains.proofs.Order.{stands_row}
use Rattle.chains.proofs.Sandwich.{Sandwich, sandwich_state, sandwich_unique, state_unique}
use Rattle.chains.proofs.Sets.{stands_closed, sandwich_ext, own_sandwich, reduce}
use Rattle.chains.proofs.Merge.{merge_sandwich, merge_valid, merge_unique, merge_commutative, merge_associative, merge_idempotent, below_merge}
use Rattle.chains.proofs.Merge.{merge_above_left, merge_above_right, merge_least, merge_forked_exactly, merge_is_union}

module _ (s : Store) (v : Valid s) (A : ℕ) where
  -- What the leaves stand on is closed.
  pub leaves_closed : (t : Tree) → ValidLeaves s A t → Closed s A (LeavesStandOn s t)
  leaves_closed t f = record { rows = λ x h. stands_row s v A (f h.state h.leaf_of) x h.on; back = λ x h. back x h }
    where
      back : (x : ℕ) → LeavesStandOn s t x → (s.prev x ≡ 0) ⊎ LeavesStandOn s t (s.prev x)
      back x h =
          ⊎_elim inl (λ g. inr record { state = h.state; leaf_of = h.leaf_of; on = g })
          ((stands_closed s v A (f h.state h.leaf_of)).back x h.on)

  module _ (m : State → State → State) (good : Merges s A m) where
    -- A tree of merges stands on what its leaves stand on, and takes it in.
    tree_sandwich : (t : Tree) → ValidLeaves s A t → Sandwich s A (LeavesStandOn s t) (merged m t)
    unfolding merged
    tree_sandwich (leaf K) f =
        sandwich_ext s v A (λ x h. record { state = K; leaf_of = refl; on = h }) (λ x h. subst (λ L. StandsOn s L x) h.leaf_of h.on)
        (own_sandwich s v A (f K refl))
    tree_sandwich (join t u) f = joined (tree_sandwich t (λ L h. f L (inl h))) (tree_sandwich u (λ L h. f L (inr h)))
      where
        rows : (t' : Tree) → ValidLeaves s A t' → (x : ℕ) → LeavesStandOn s t' x → RowOf s A x
        rows t' g x h = stands_row s v A (g h.state h.leaf_of) x h.on

        to : (x : ℕ) → Union (LeavesStandOn s u) (LeavesStandOn s t) x → LeavesStandOn s (join t u) x
        to x (inl h) = record { state = h.state; leaf_of = inr h.leaf_of; on = h.on }
        to x (inr h) = record { state = h.state; leaf_of = inl h.leaf_of; on = h.on }

        side : (x : ℕ) (L : State) → Leaf (join t u) L → StandsOn s L x → Union (LeavesStandOn s u) (LeavesStandOn s t) x
        side x L (inl g) h = inr record { state = L; leaf_of = g; on = h }
        side x L (inr g) h = inl record { state = L; leaf_of = g; on = h }

        joined : Sandwich s A (LeavesStandOn s t) (merged m t) → Sandwich s A (LeavesStandOn s u) (merged m u) → Sandwich s A
            (LeavesStandOn s (join t u)) (m (merged m t) (merged m u))
        joined p q =
            let w = merge_sandwich s v A (merged m t) (merged m u) (m (merged m t) (merged m u)) p.valid q.valid
            (good (merged m t) (merged m u) p.valid q.valid) in
            let one = reduce s v A (rows t (λ L h. f L (inl h))) p w in
            let two = reduce s v A (rows u (λ L h. f L (inr h))) q (sandwich_ext s v A (λ x h. ⊎_elim inr inl h) (λ x h. ⊎_elim inr inl h) one) in
            sandwich_ext s v A to (λ x h. side x h.state h.leaf_of h.on) two

    -- (d) Demand 3: a tree of merges ends in the state of the set of messages that its leaves stand on.
    pub tree_state : (t : Tree) → ValidLeaves s A t → StateOf s (LeavesStandOn s t) (merged m t)
    tree_state t f = sandwich_state s v A (LeavesStandOn s t) (leaves_closed t f) (tree_sandwich t f)

    -- A tree of merges ends in a valid state.
    pub tree_valid : (t : Tree) → ValidLeaves s A t → ValidState s A (merged m t)
    tree_valid t f = (tree_sandwich t f).valid

    -- (e) Commutative, as an equation.
    pub commutes : (L K : State) → ValidState s A L → ValidState s A K → m L K ≡ m K L
    commutes L K vl vk = merge_unique s v A L K (m L K) (m K L) vl vk (good L K vl vk) (merge_commutative s v A K L (m K L) vk vl (good K L vk vl))

    -- Its answers are valid.
    pub answer_valid : (L K : State) → ValidState s A L → ValidState s A K → ValidState s A (m L K)
    answer_valid L K vl vk = merge_valid s v A L K (m L K) vl vk (good L K vl vk)

    -- (e) Associative.
    pub associates : (L K N : State) → ValidState s A L → ValidState s A K → ValidState s A N → m (m L K) N ≡ m L (m K N)
    associates L K N vl vk vn =
        merge_associative s v A L K N (m L K) (m (m L K) N) (m K N) (m L (m K N)) vl vk vn (good L K vl vk)
        (good (m L K) N (answer_valid L K vl vk) vn) (good K N vk vn)
        (good L (m K N) vl (answer_valid K N vk vn))

    -- (e) Idempotent.
    pub repeats : (L : State) → ValidState s A L → m L L ≡ L
    repeats L vl = merge_unique s v A L L (m L L) L vl vl (good L L vl vl) (merge_idempotent s v A L vl)

    -- (f) as an equation: L is at or below K exactly when the merge is K.
    pub below_exactly : (L K : State) → ValidState s A L → ValidState s A K → AtOrBelow s L K ↔ (m L K ≡ K)
    below_exactly L K vl vk = (
      λ p. merge_unique s v A L K (m L K) K vl vk (good L K vl vk) ((below_merge s v A L K vl vk).0 p),
      λ e. (below_merge s v A L K vl vk).1 (subst (IsMerge s L K) e (good L K vl vk)),
    )

  -- (d) Two trees whose leaves stand on the same messages end equal, each merged by any such function.
  pub same_messages : (m n : State → State → State) → Merges s A m → Merges s A n → (t u : Tree) → ValidLeaves s A t → ValidLeaves s A u →
      ((x : ℕ) → LeavesStandOn s t x ↔ LeavesStandOn s u x) → merged m t ≡ merged n u
  same_messages m n i j t u f g e =
      sandwich_unique s v A (LeavesStandOn s u) (leaves_closed u g) (sandwich_ext s v A (λ x. (e x).0) (λ x. (e x).1) (tree_sandwich m i t f))
      (tree_sandwich n j u g)

  -- (d) Demand 3: two trees with the same members, in any order and grouping, with repeats, end equal.
  pub same_members : (m n : State → State → State) → Merges s A m → Merges s A n → (t u : Tree) → ValidLeaves s A t →
      ((L : State) → Leaf t L ↔ Leaf u L) → merged m t ≡ merged n u
  same_members m n i j t u f e =
      same_messages m n i j t u f (λ L h. f L ((e L).1 h))
      (λ x. (
        λ h. record { state = h.state; leaf_of = (e h.state).0 h.leaf_of; on = h.on },
        λ h. record { state = h.state; leaf_of = (e h.state).1 h.leaf_of; on = h.on },
      ))

  -- DEMAND 3, of any function whose answers on valid states of the author are merges.
  pub demand_three : (m : State → State → State) → Merges s A m → DemandThree s A m
  demand_three m i =
      record {
        ends = tree_state m i;
        one = λ t f K p. state_unique s v A (LeavesStandOn s t) (leaves_closed t f) K (merged m t) p (tree_state m i t f);
        agree = same_members m m i i;
        valid = answer_valid m i;
        above_first = λ L K vl vk. merge_above_left s v A L K (m L K) vl vk (i L K vl vk);
        above_second = λ L K vl vk. merge_above_right s v A L K (m L K) vl vk (i L K vl vk);
        least = λ L K N vl vk vn. merge_least s v A L K (m L K) N vl vk vn (i L K vl vk);
        forked_when = λ L K vl vk. merge_forked_exactly s v A L K (m L K) vl vk (i L K vl vk);
      }

  -- And so of the computed merge.
  pub merge_of_demand : DemandThree s A (merge_of s)
  merge_of_demand = demand_three (merge_of s) (merge_is_union s v A)

-- The merge over one valid store and one author: it is the state of the union (b), commutative, associative and idempotent (e),
-- the least state above both (f), forked exactly when the union forks (g), and what it does to the last index (h).
-- Assumes nothing.
use Prim.Native.Nat.{ℕ, ◌≤◌}
use mathlib.Core.Path.{◌≡◌, sym, ap, ◌∙◌}
use mathlib.Core.Logic.{◌⊎◌, inl, inr, ⊎_elim, ◌↔◌}
use native.Mathlib.Omega.{arith}
use Rattle.chains.specs.Chain.{Store, RowOf, Node, Valid, AtOrBefore, History, State, growing, forked, last_of, IsForked, Evidence, ValidState}
use Rattle.chains.specs.Chain.{growing_valid, forked_valid, StandsOn, Closed, StateOf, Union, IsMerge, AtOrBelow, add, merge_of}
use Rattle.chains.specs.Merging.{Merges, HasFork}
use Rattle.chains.proofs.Climb.{before_refl, prev_before, before_index, at_or_prev}
use Rattle.chains.proofs.Order.{Takes, stands_takes, takes_back, takes_below, below_takes, stands_row, history_row, last_node}
use Rattle.chains.proofs.Sandwich.{Sandwich, state_sandwich, sandwich_state, sandwich_unique, state_unique}
use Rattle.chains.proofs.Add.{Adds, add_adds, history_back}
use Rattle.chains.proofs.Sets.{stands_closed, union_closed, stand_closed, sandwich_ext, own_sandwich, reduce}

module _ (s : Store) (v : Valid s) (A : ℕ) where
  -- A merge of two valid states is valid, stands on what both stand on, and takes that in.
  pub merge_sandwich : (L K M : State) → ValidState s A L → ValidState s A K → IsMerge s L K M → Sandwich s A (Union (StandsOn s L) (StandsOn s K)) M
  merge_sandwich L K M vl vk i = state_sandwich s v A (Union (StandsOn s L) (StandsOn s K)) (stand_closed s v A vl vk) M i

  -- And what is so is the merge.
  pub sandwich_merge : {L K M : State} → ValidState s A L → ValidState s A K → Sandwich s A (Union (StandsOn s L) (StandsOn s K)) M → IsMerge s L K M
  sandwich_merge {L} {K} {M} vl vk w = sandwich_state s v A (Union (StandsOn s L) (StandsOn s K)) (stand_closed s v A vl vk) w

  -- A merge of valid states is valid.
  pub merge_valid : (L K M : State) → ValidState s A L → ValidState s A K → IsMerge s L K M → ValidState s A M
  merge_valid L K M vl vk i = (merge_sandwich L K M vl vk i).valid

  -- (a) Two answers that are merges are one.
  pub merge_unique : (L K M N : State) → ValidState s A L → ValidState s A K → IsMerge s L K M → IsMerge s L K N → M ≡ N
  merge_unique L K M N vl vk i j = state_unique s v A (Union (StandsOn s L) (StandsOn s K)) (stand_closed s v A vl vk) M N i j

  -- A row added: the state of its log history and what K stands on.
  pub add_sandwich : (K : State) → ValidState s A K → (x : ℕ) → Node s A x → Sandwich s A (Union (History s x) (StandsOn s K)) (add s K x)
  add_sandwich K vk x n = record { valid = m.valid; inside = λ y h. ⊎_elim inr inl (m.inside y h); above = λ y. above y }
    where
      m : Adds s A K x (add s K x)
      m = add_adds s v A vk x n

      above : (y : ℕ) → Union (History s x) (StandsOn s K) y → Takes s (add s K x) y
      above y (inl h) = takes_back s v A m.valid y x n m.takes h.back
      above y (inr h) = below_takes s v A vk m.valid m.over y (inr (stands_row s v A vk y h)) h

  -- The history of an evidence row: that row and the history of last.
  evidence_history : (l c y : ℕ) → RowOf s A c → s.prev c ≡ l → History s c y → History s l y ⊎ (y ≡ c)
  evidence_history l c y r e h = ⊎_elim inr (λ p. inl record { some = h.some; back = rw e at p }) (at_or_prev s v A y c r h.back)

  -- Two evidence rows added one after the other: the union with the forked state.
  forked_adds : (K : State) → ValidState s A K → (l lo hi : ℕ) → Evidence s A l lo hi → Sandwich s A
      (Union (StandsOn s (forked l lo hi)) (StandsOn s K)) (add s (add s K lo) hi)
  forked_adds K vk l lo hi e = sandwich_ext s v A to from (reduce s v A rows one two)
    where
      one : Sandwich s A (Union (History s lo) (StandsOn s K)) (add s K lo)
      one = add_sandwich K vk lo (inr e.low)

      two : Sandwich s A (Union (StandsOn s (add s K lo)) (History s hi)) (add s (add s K lo) hi)
      two = sandwich_ext s v A (λ y h. ⊎_elim inr inl h) (λ y h. ⊎_elim inr inl h) (add_sandwich (add s K lo) one.valid hi (inr e.high))

      rows : (y : ℕ) → Union (History s lo) (StandsOn s K) y → RowOf s A y
      rows y h = ⊎_elim (history_row s v A lo y (inr e.low)) (stands_row s v A vk y) h

      to : (y : ℕ) → Union (Union (History s lo) (StandsOn s K)) (History s hi) y → Union (StandsOn s (forked l lo hi)) (StandsOn s K) y
      to y (inl (inl h)) = inl (⊎_elim inl (λ q. inr (inl q)) (evidence_history l lo y e.low e.low_prev h))
      to y (inl (inr h)) = inr h
      to y (inr h) = inl (⊎_elim inl (λ q. inr (inr q)) (evidence_history l hi y e.high e.high_prev h))

      own : (c y : ℕ) → RowOf s A c → y ≡ c → History s c y
      own c y r q = rw q record { some = r.some; back = before_refl s v A c }

      from : (y : ℕ) → Union (StandsOn s (forked l lo hi)) (StandsOn s K) y → Union (Union (History s lo) (StandsOn s K)) (History s hi) y
      from y (inl (inl h)) = inl (inl (history_back s v A l lo y (rw e.low_prev at (prev_before s v A lo)) h))
      from y (inl (inr (inl q))) = inl (inl (own lo y e.low q))
      from y (inl (inr (inr q))) = inr (own hi y e.high q)
      from y (inr h) = inl (inr h)

  -- (b) The computed merge is the state of the union of what both stand on, and valid.
  pub merge_of_sandwich : {L K : State} → ValidState s A L → ValidState s A K → Sandwich s A (Union (StandsOn s L) (StandsOn s K)) (merge_of s L K)
  unfolding merge_of
  merge_of_sandwich {K = K} (growing_valid {l = l} n) vk = add_sandwich K vk l n
  merge_of_sandwich {K = K} (forked_valid {l = l} {lo = lo} {hi = hi} n e) vk = forked_adds K vk l lo hi e

  -- (b) So `merge_of` is a function whose answers are merges.
  pub merge_is_union : Merges s A (merge_of s)
  merge_is_union L K vl vk = sandwich_merge {L = L} {K = K} vl vk (merge_of_sandwich vl vk)

  -- (b) And they are valid.
  pub merge_of_valid : {L K : State} → ValidState s A L → ValidState s A K → ValidState s A (merge_of s L K)
  merge_of_valid vl vk = (merge_of_sandwich vl vk).valid

  -- (i) Append is a merge with growing at that row.
  pub append_is_merge : (K : State) (x : ℕ) → ValidState s A K → Node s A x → IsMerge s K (growing x) (add s K x)
  append_is_merge K x vk n = sandwich_merge vk (growing_valid n)
      (sandwich_ext s v A (λ y h. ⊎_elim inr inl h) (λ y h. ⊎_elim inr inl h) (add_sandwich K vk x n))

  -- (e) Commutative. This and the next two are said of whatever is a merge.
  pub merge_commutative : (L K M : State) → ValidState s A L → ValidState s A K → IsMerge s L K M → IsMerge s K L M
  merge_commutative L K M vl vk i = sandwich_merge vk vl (sandwich_ext s v A (λ y h. ⊎_elim inr inl h) (λ y h. ⊎_elim inr inl h) (merge_sandwich L K M vl vk i))

  -- (e) Idempotent.
  pub merge_idempotent : (L : State) → ValidState s A L → IsMerge s L L L
  merge_idempotent L vl = sandwich_merge vl vl (sandwich_ext s v A (λ y h. inl h) (λ y h. ⊎_elim (λ g. g) (λ g. g) h) (own_sandwich s v A vl))

  -- A merge of a merge: the state of the union of all three.
  pub merge_three : (L K N M P : State) → ValidState s A L → ValidState s A K → ValidState s A N → IsMerge s L K M → IsMerge s M N P → Sandwich s A
      (Union (Union (StandsOn s L) (StandsOn s K)) (StandsOn s N)) P
  merge_three L K N M P vl vk vn i j =
      let m = merge_sandwich L K M vl vk i in
      reduce s v A (stand_closed s v A vl vk).rows m (merge_sandwich M N P m.valid vn j)

  -- (e) Associative.
  pub merge_associative : (L K N M P Q R : State) → ValidState s A L → ValidState s A K → ValidState s A N → IsMerge s L K M → IsMerge s M N P →
      IsMerge s K N Q → IsMerge s L Q R → P ≡ R
  merge_associative L K N M P Q R vl vk vn i j k o =
      let q = merge_valid K N Q vk vn k in
      let c = union_closed s v A (stand_closed s v A vl vk) (stands_closed s v A vn) in
      sandwich_unique s v A (Union (Union (StandsOn s L) (StandsOn s K)) (StandsOn s N)) c (merge_three L K N M P vl vk vn i j)
      (sandwich_ext s v A (λ y h. to y h) (λ y h. from y h) (merge_three K N L Q R vk vn vl k (merge_commutative L Q R vl q o)))
    where
      to : (y : ℕ) → Union (Union (StandsOn s K) (StandsOn s N)) (StandsOn s L) y → Union (Union (StandsOn s L) (StandsOn s K)) (StandsOn s N) y
      to y (inl (inl h)) = inl (inr h)
      to y (inl (inr h)) = inr h
      to y (inr h) = inl (inl h)

      from : (y : ℕ) → Union (Union (StandsOn s L) (StandsOn s K)) (StandsOn s N) y → Union (Union (StandsOn s K) (StandsOn s N)) (StandsOn s L) y
      from y (inl (inl h)) = inr h
      from y (inl (inr h)) = inl (inl h)
      from y (inr h) = inl (inr h)

  -- (f) L is at or below K exactly when their merge is K.
  pub below_merge : (L K : State) → ValidState s A L → ValidState s A K → AtOrBelow s L K ↔ IsMerge s L K K
  below_merge L K vl vk = (to, λ i. takes_below s v A vl vk (λ x h. (merge_sandwich L K K vl vk i).above x (inl h)))
    where
      to : AtOrBelow s L K → IsMerge s L K K
      to p =
          sandwich_merge vl vk
          record {
            valid = vk;
            inside = λ x h. inr h;
            above = λ x h. ⊎_elim (λ g. below_takes s v A vl vk p x (inr (stands_row s v A vl x g)) g) (stands_takes s v A vk x) h;
          }

  -- (f) A merge is above both, and at or below every valid state that is above both.
  pub merge_above_left : (L K M : State) → ValidState s A L → ValidState s A K → IsMerge s L K M → AtOrBelow s L M
  merge_above_left L K M vl vk i = let m = merge_sandwich L K M vl vk i in takes_below s v A vl m.valid (λ x h. m.above x (inl h))

  -- (f) It is above the second.
  pub merge_above_right : (L K M : State) → ValidState s A L → ValidState s A K → IsMerge s L K M → AtOrBelow s K M
  merge_above_right L K M vl vk i = let m = merge_sandwich L K M vl vk i in takes_below s v A vk m.valid (λ x h. m.above x (inr h))

  -- (f) It is the least of those above both.
  pub merge_least : (L K M N : State) → ValidState s A L → ValidState s A K → ValidState s A N → IsMerge s L K M → AtOrBelow s L N → AtOrBelow s K N →
      AtOrBelow s M N
  merge_least L K M N vl vk vn i p q =
      let m = merge_sandwich L K M vl vk i in
      takes_below s v A m.valid vn
      (λ x h.
      ⊎_elim (λ g. below_takes s v A vl vn p x (inr (stands_row s v A vl x g)) g) (λ g. below_takes s v A vk vn q x (inr (stands_row s v A vk x g)) g)
      (m.inside x h))

  -- (g) The state of a closed set is forked exactly when two of it are on one predecessor; so a merge is, of the union.
  pub forked_exactly : (S : ℕ → Type 0) → Closed s A S → (K : State) → StateOf s S K → IsForked K ↔ HasFork s S
  forked_exactly S c (growing l) g = (λ h. absurd h, λ h. g.single h.one h.other h.shared)
  forked_exactly S c (forked l lo hi) g = (
    λ h.
        record {
          one = lo;
          other = hi;
          shared = record {
            first = g.low;
            second = g.high;
            differ = λ e. let z : s.key lo ≡ s.key hi = ap s.key e in omega (arith, g.sorted);
            one = g.low_prev ∙ sym g.high_prev;
          };
        },
    λ h. tt,
  )

  -- (g) Demand 3: a merge is forked exactly when the union of what both stand on has two on one predecessor.
  pub merge_forked_exactly : (L K M : State) → ValidState s A L → ValidState s A K → IsMerge s L K M → IsForked M ↔ HasFork s
      (Union (StandsOn s L) (StandsOn s K))
  merge_forked_exactly L K M vl vk i = forked_exactly (Union (StandsOn s L) (StandsOn s K)) (stand_closed s v A vl vk) M i

  -- (h) At or above a forked state stands a forked one, its last at or before; above a growing state that grows, at or after.
  pub above_forked : {L M : State} → ValidState s A L → ValidState s A M → IsForked L → AtOrBelow s L M → IsForked M × AtOrBefore s (last_of M) (last_of L)
  above_forked (growing_valid n) vm f p = absurd f
  above_forked (forked_valid n e) (growing_valid k) f p = absurd p
  above_forked (forked_valid n e) (forked_valid k d) f (inl p) = (tt, p.strictly.back)
  above_forked (forked_valid {l = l} n e) (forked_valid k d) f (inr p) = (tt, rw p.same (before_refl s v A _))

  -- (h) A merge of two forked states is forked and has a last index no higher than either.
  pub forked_merge_index : (L K M : State) → ValidState s A L → ValidState s A K → IsForked L → IsForked K → IsMerge s L K M →
      (s.index (last_of M) ≤ s.index (last_of L)) × (s.index (last_of M) ≤ s.index (last_of K))
  forked_merge_index L K M vl vk f g i =
      let vm = merge_valid L K M vl vk i in (
        before_index s v A _ _ (last_node s v A vl) (above_forked vl vm f (merge_above_left L K M vl vk i)).1,
        before_index s v A _ _ (last_node s v A vk) (above_forked vk vm g (merge_above_right L K M vl vk i)).1,
      )

  -- (h) A merge of two growing states that stays growing has a last index no lower than either.
  pub growing_merge_index : (l k m : ℕ) → Node s A l → Node s A k → IsMerge s (growing l) (growing k) (growing m) →
      (s.index l ≤ s.index m) × (s.index k ≤ s.index m)
  growing_merge_index l k m n j i =
      let vl = growing_valid n in
      let vk = growing_valid j in
      let w = merge_valid (growing l) (growing k) (growing m) vl vk i in (
        before_index s v A l m (last_node s v A w) (merge_above_left (growing l) (growing k) (growing m) vl vk i),
        before_index s v A k m (last_node s v A w) (merge_above_right (growing l) (growing k) (growing m) vl vk i),
      )

-- The order of states, through what a state takes in: `x` is taken in by K when growing at `x` is at or below K.
-- L is at or below K exactly when K takes in all that L stands on; from it, that the order is a partial order.
-- Assumes nothing.
use Prim.Native.Nat.{ℕ, suc, ◌≤◌, ◌<◌}
use mathlib.Core.Path.{◌≡◌, refl, sym, ap, ◌∙◌}
use mathlib.Core.Logic.{◌⊎◌, inl, inr, ⊎_elim, ◌≢◌}
use native.Mathlib.Omega.{arith}
use Rattle.chains.specs.Chain.{Store, RowOf, Node, Valid, toward, AtOrBefore, Before, History, State, growing, forked, last_of, Evidence, ValidState}
use Rattle.chains.specs.Chain.{growing_valid, forked_valid, StandsOn, Admissible, Beyond, AtOrBelow}
use Rattle.chains.proofs.Laws.{le?, eq?}
use Rattle.chains.proofs.Climb.{before_node, before_index, before_refl, before_trans, before_antisym, none_before, one_index, in_order, strict_index}
use Rattle.chains.proofs.Climb.{lower_strict, child_self, child_back, on_strict, at_or_prev, prev_before, node_row}

-- K takes `x` in: growing at `x` is at or below it.
abbrev pub Takes : Store → State → ℕ → Type 0
Takes s K x = AtOrBelow s (growing x) K

module _ (s : Store) (v : Valid s) (A : ℕ) where
  -- The last of a valid state is none or a row of the author.
  pub last_node : {K : State} → ValidState s A K → Node s A (last_of K)
  last_node (growing_valid h) = h
  last_node (forked_valid h e) = h

  -- A row on the last of a forked state is beyond it where it is admissible.
  pub child_beyond : (l lo hi c : ℕ) → RowOf s A c → s.prev c ≡ l → Admissible s lo hi c → Beyond s l lo hi c
  child_beyond l lo hi c r e a = record { strictly = on_strict s v A l c r e; child = rw (child_self s v A l c r e) a }

  -- A. What K stands on, K takes in.
  pub stands_takes : {K : State} → ValidState s A K → (x : ℕ) → StandsOn s K x → Takes s K x
  stands_takes (growing_valid h) x p = p.back
  stands_takes (forked_valid h e) x (inl p) = inl p.back
  stands_takes (forked_valid {l = l} {lo = lo} {hi = hi} h e) x (inr (inl q)) = inr (rw q (child_beyond l lo hi lo e.low e.low_prev (inl refl)))
  stands_takes (forked_valid {l = l} {lo = lo} {hi = hi} h e) x (inr (inr q)) = inr
      (rw q (child_beyond l lo hi hi e.high e.high_prev (inr (omega arith))))

  -- What is at or before a row taken in is taken in.
  pub takes_back : {M : State} → ValidState s A M → (x k : ℕ) → Node s A k → Takes s M k → AtOrBefore s x k → Takes s M x
  takes_back (growing_valid {l = m} h) x k n p q = before_trans s v A x k m q p
  takes_back (forked_valid {l = m} h e) x k n (inl p) q = inl (before_trans s v A x k m q p)
  takes_back (forked_valid {l = m} {lo = lo} {hi = hi} h e) x k n (inr b) q = ⊎_elim near far (le? (s.index x) (s.index m))
    where
      near : s.index x ≤ s.index m → Takes s (forked m lo hi) x
      near l = inl (in_order s v A x m k n q b.strictly.back l)

      far : s.index m < s.index x → Takes s (forked m lo hi) x
      far l =
          inr
          record {
            strictly = lower_strict s v A m x (in_order s v A m x k n b.strictly.back q (omega arith)) l;
            child = rw (child_back s v A m x k n q l) b.child;
          }

  -- What lies beyond something beyond M is beyond M, by the same child.
  pub beyond_on : (m lo hi k x : ℕ) → Node s A k → Node s A x → Beyond s m lo hi k → Before s k x → Beyond s m lo hi x
  beyond_on m lo hi k x n nx b p =
      let l = strict_index s v A m k n b.strictly in
      let j = strict_index s v A k x nx p in
      record {
        strictly = lower_strict s v A m x (before_trans s v A m k x b.strictly.back p.back) (omega arith);
        child = rw (← (child_back s v A m k x nx p.back l)) b.child;
      }

  -- Admissible among K's evidence, each of which is admissible among M's: admissible among M's.
  pub admissible_on : (l a b m lo hi c : ℕ) → Evidence s A l a b → Evidence s A m lo hi → Admissible s lo hi a → Admissible s lo hi b → Admissible s a
      b c → Admissible s lo hi c
  admissible_on l a b m lo hi c e f p q (inl r) = rw r p
  admissible_on l a b m lo hi c e f p (inr q) (inr r) = inr (omega arith)
  admissible_on l a b m lo hi c e f (inr p) (inl q) (inr r) = absurd (let z : s.key b ≡ s.key lo = ap s.key q in omega (arith, e.sorted, f.sorted))
  admissible_on l a b m lo hi c e f (inl p) (inl q) (inr r) = absurd (let z : s.key b ≡ s.key a = ap s.key (q ∙ sym p) in omega (arith, e.sorted))

  -- B. K at or below M, and `x` taken in by K, give `x` taken in by M.
  pub takes_on : {K M : State} → ValidState s A K → ValidState s A M → AtOrBelow s K M → (x : ℕ) → Node s A x → Takes s K x → Takes s M x
  takes_on (growing_valid {l = k} hk) (growing_valid {l = m} hm) p x n q = before_trans s v A x k m q p
  takes_on (growing_valid {l = k} hk) (forked_valid hm f) p x n q = takes_back (forked_valid hm f) x k hk p q
  takes_on (forked_valid hk e) (growing_valid hm) p x n q = absurd p
  takes_on (forked_valid {l = k} hk e) (forked_valid hm f) (inl p) x n (inl q) = takes_back (forked_valid hm f) x k hk (inr p) q
  takes_on (forked_valid {l = k} hk e) (forked_valid {l = m} {lo = lo} {hi = hi} hm f) (inl p) x n (inr q) = inr (beyond_on m lo hi k x hk n p q.strictly)
  takes_on (forked_valid {l = k} hk e) (forked_valid hm f) (inr p) x n (inl q) = inl (rw p.same at q)
  takes_on (forked_valid {l = k} {lo = a} {hi = b} hk e) (forked_valid {l = m} {lo = lo} {hi = hi} hm f) (inr p) x n (inr q) =
      inr (rw (← p.same) record { strictly = q.strictly; child = admissible_on k a b m lo hi (toward s k x) e f p.low p.high q.child })

  -- C, one way. K takes in all that a state at or below it stands on.
  pub below_takes : {L K : State} → ValidState s A L → ValidState s A K → AtOrBelow s L K → (x : ℕ) → Node s A x → StandsOn s L x → Takes s K x
  below_takes vl vk p x n q = takes_on vl vk p x n (stands_takes vl x q)

  -- Evidence rows have the index after last's, and differ.
  pub low_index : (l a b : ℕ) → Evidence s A l a b → s.index a ≡ suc (s.index l)
  low_index l a b e = rw (← e.low_prev) (v.counted A a e.low)

  -- So has the higher one.
  pub high_index : (l a b : ℕ) → Evidence s A l a b → s.index b ≡ suc (s.index l)
  high_index l a b e = rw (← e.high_prev) (v.counted A b e.high)

  -- The two differ.
  pub evidence_apart : (l a b : ℕ) → Evidence s A l a b → a ≢ b
  evidence_apart l a b e q = let z : s.key a ≡ s.key b = ap s.key q in omega (arith, e.sorted)

  -- What a valid state stands on are rows of the author.
  pub history_row : (l x : ℕ) → Node s A l → History s l x → RowOf s A x
  history_row l x h p = node_row s v A x (before_node s v A x l h p.back) p.some

  -- What a valid state stands on are rows of the author.
  pub stands_row : {K : State} → ValidState s A K → (x : ℕ) → StandsOn s K x → RowOf s A x
  stands_row (growing_valid {l = l} h) x p = history_row l x h p
  stands_row (forked_valid {l = l} h e) x (inl p) = history_row l x h p
  stands_row (forked_valid h e) x (inr (inl q)) = rw q e.low
  stands_row (forked_valid h e) x (inr (inr q)) = rw q e.high

  -- Every valid state takes in none.
  pub takes_none : {K : State} → ValidState s A K → Takes s K 0
  takes_none (growing_valid {l = l} h) = none_before s v A l h
  takes_none (forked_valid {l = l} h e) = inl (none_before s v A l h)

  -- What is strictly before a row on `l` is at `l` or strictly before it.
  beyond_evidence : (l a k lo hi : ℕ) → Node s A l → RowOf s A a → s.prev a ≡ l → Beyond s k lo hi a → ((l ≡ k) × Admissible s lo hi a) ⊎ Beyond s k lo hi l
  beyond_evidence l a k lo hi n r e b = ⊎_elim one deeper (eq? l k)
    where
      back : AtOrBefore s k l
      back = ⊎_elim (λ q. absurd (b.strictly.apart q)) (λ q. rw e at q) (at_or_prev s v A k a r b.strictly.back)

      one : l ≡ k → ((l ≡ k) × Admissible s lo hi a) ⊎ Beyond s k lo hi l
      one q = inl (q, rw (child_self s v A k a r (e ∙ q)) at b.child)

      deeper : l ≢ k → ((l ≡ k) × Admissible s lo hi a) ⊎ Beyond s k lo hi l
      deeper q =
          let p : Before s k l = record { back = back; apart = λ z. q (sym z) } in
          inr
          record {
            strictly = p;
            child = rw (child_back s v A k l a (inr r) (rw e at (prev_before s v A a)) (strict_index s v A k l n p)) b.child;
          }

  -- C, the other way. Where K takes in all that L stands on, L is at or below K.
  pub takes_below : {L K : State} → ValidState s A L → ValidState s A K → ((x : ℕ) → StandsOn s L x → Takes s K x) → AtOrBelow s L K
  takes_below (growing_valid (inl e)) vk f = rw e (takes_none vk)
  takes_below (growing_valid {l = l} (inr r)) vk f = f l record { some = r.some; back = before_refl s v A l }
  takes_below (forked_valid {l = l} {lo = a} {hi = b} h e) (growing_valid {l = k} hk) f =
      evidence_apart l a b e (one_index s v A a b k hk (f a (inr (inl refl))) (f b (inr (inr refl))) (low_index l a b e ∙ sym (high_index l a b e)))
  takes_below (forked_valid {l = l} {lo = a} {hi = b} h e) (forked_valid {l = k} {lo = lo} {hi = hi} hk d) f = go (f a (inr (inl refl))) (f b (inr (inr refl)))
    where
      i : s.index a ≡ s.index b
      i = low_index l a b e ∙ sym (high_index l a b e)

      join : ((l ≡ k) × Admissible s lo hi a) ⊎ Beyond s k lo hi l → ((l ≡ k) × Admissible s lo hi b) ⊎ Beyond s k lo hi l → AtOrBelow s
          (forked l a b) (forked k lo hi)
      join (inl p) (inl q) = inr record { same = p.0; low = p.1; high = q.1 }
      join (inl p) (inr q) = inl q
      join (inr p) q = inl p

      go : Takes s (forked k lo hi) a → Takes s (forked k lo hi) b → AtOrBelow s (forked l a b) (forked k lo hi)
      go (inl p) (inl q) = absurd (evidence_apart l a b e (one_index s v A a b k hk p q i))
      go (inl p) (inr q) =
          absurd (let m = before_index s v A a k hk p in let n = strict_index s v A k b (inr e.high) q.strictly in omega (arith, i))
      go (inr p) (inl q) =
          absurd (let m = before_index s v A b k hk q in let n = strict_index s v A k a (inr e.low) p.strictly in omega (arith, i))
      go (inr p) (inr q) = join (beyond_evidence l a k lo hi h e.low e.low_prev p) (beyond_evidence l b k lo hi h e.high e.high_prev q)

  -- The order is a partial order on the valid states of the author.
  pub below_refl : {K : State} → ValidState s A K → AtOrBelow s K K
  below_refl w = takes_below w w (stands_takes w)

  -- Transitive.
  pub below_trans : {L K M : State} → ValidState s A L → ValidState s A K → ValidState s A M → AtOrBelow s L K → AtOrBelow s K M → AtOrBelow s L M
  below_trans vl vk vm p q = takes_below vl vm (λ x h. takes_on vk vm q x (inr (stands_row vl x h)) (below_takes vl vk p x (inr (stands_row vl x h)) h))

  -- Each pair of evidence admissible among the other: the lower ones are one, and so are the higher ones.
  evidence_same : (l a b lo hi : ℕ) → Evidence s A l a b → Evidence s A l lo hi → Admissible s lo hi a → Admissible s lo hi b → Admissible s a b lo →
      Admissible s a b hi → forked l a b ≡ forked l lo hi
  evidence_same l a b lo hi e f (inl p) (inl q) t u = absurd (evidence_apart l a b e (p ∙ sym q))
  evidence_same l a b lo hi e f (inl p) (inr q) t (inl u) = absurd (evidence_apart l lo hi f (sym (u ∙ p)))
  evidence_same l a b lo hi e f (inl p) (inr q) t (inr u) = ap (λ z. forked l z b) p ∙ ap (forked l lo) (v.distinct A A b hi e.high f.high (omega arith))
  evidence_same l a b lo hi e f (inr p) q (inl t) u = absurd (let z : s.key lo ≡ s.key a = ap s.key t in omega (arith, f.sorted))
  evidence_same l a b lo hi e f (inr p) q (inr t) u = absurd (omega (arith, f.sorted, e.sorted))

  -- Antisymmetric.
  pub below_antisym : {L K : State} → ValidState s A L → ValidState s A K → AtOrBelow s L K → AtOrBelow s K L → L ≡ K
  below_antisym (growing_valid {l = l} h) (growing_valid {l = k} j) p q = ap growing (before_antisym s v A l k j p q)
  below_antisym (growing_valid h) (forked_valid j e) p q = absurd q
  below_antisym (forked_valid h e) (growing_valid j) p q = absurd p
  below_antisym (forked_valid {l = l} h e) (forked_valid {l = k} j f) (inl p) (inl q) =
      absurd (let m = strict_index s v A k l h p.strictly in let n = strict_index s v A l k j q.strictly in omega arith)
  below_antisym (forked_valid {l = l} h e) (forked_valid {l = k} j f) (inl p) (inr q) = absurd (p.strictly.apart q.same)
  below_antisym (forked_valid {l = l} h e) (forked_valid {l = k} j f) (inr p) (inl q) = absurd (q.strictly.apart p.same)
  below_antisym (forked_valid {l = l} {lo = a} {hi = b} h e) (forked_valid {l = k} {lo = lo} {hi = hi} j f) (inr p) (inr q) =
      let f' : Evidence s A l lo hi = rw p.same f in
      evidence_same l a b lo hi e f' p.low p.high q.low q.high ∙ ap (λ z. forked z lo hi) p.same

-- What demand 2 keeps of source 002: the phase and last of a merge or append are the paper's (algorithms 3 and 1).
-- Assumes nothing.
use Prim.Native.Nat.{ℕ, ◌≤◌, ◌<◌}
use mathlib.Core.Path.{◌≡◌, refl, sym, ap, ◌∙◌, subst}
use mathlib.Core.Logic.{◌⊎◌, inl, inr, ⊎_elim, ◌≢◌}
use mathlib.Core.Bool.{false, not}
use mathlib.Core.List.{List, [], ◌∷◌, ◌++◌}
use native.Mathlib.Omega.{arith}
use lib.Dec.{eqb}
use borrow.Author.Tests.{eq-eqb, ne_eqb}
use Rattle.basics.specs.Decides.{Decides}
use Rattle.basics.specs.Pick.{both, either}
use Rattle.chains.specs.Chain.{Store, RowOf, Node, Valid, toward, AtOrBefore, IsPrefix, prefix_of, State, growing, forked, last_of, IsForked, ValidState}
use Rattle.chains.specs.Chain.{growing_valid, forked_valid, StandsOn, Union, IsMerge, AtOrBelow, before?}
use Rattle.chains.specs.Paper.{PaperLog, is_empty, concurrent?, fork_proof, on_prev, paper_append, paper_split, paper_merge, as_paper, SamePhaseAndLast, Has}
use Rattle.chains.specs.Paper.{Mirrors, growing_mirrors, forked_mirrors, paper_merged}
use Rattle.chains.specs.Merging.{Tree, leaf, join, merged, ValidLeaves, Merges}
use Rattle.basics.proofs.Decisions.{decides_both}
use Rattle.chains.proofs.Laws.{le?, eq?, never, pick_eqb, pick_decides, decides_either, decides_not, decides_eqb}
use Rattle.chains.proofs.Climb.{before_node, before_index, before_refl, before_trans, one_index, in_order, child_prev}
use Rattle.chains.proofs.Prefix.{prefix_exists, prefix_unique, before_prefix}
use Rattle.chains.proofs.Forks.{has_left, has_right, equation_ten}
use Rattle.chains.proofs.Order.{Takes, last_node, below_trans, evidence_apart, low_index, high_index}
use Rattle.chains.proofs.Sandwich.{Sandwich}
use Rattle.chains.proofs.Add.{last_takes}
use Rattle.chains.proofs.Sets.{before_decided}
use Rattle.chains.proofs.Merge.{merge_sandwich, merge_valid, merge_unique, merge_commutative, below_merge, merge_above_left, merge_above_right}
use Rattle.chains.proofs.Merge.{above_forked}
use Rattle.chains.proofs.Decide.{before_test}
use Rattle.chains.proofs.Trees.{tree_valid}

-- Neither is at or before the other.
abbrev Concurrent : Store → ℕ → ℕ → Type 0
Concurrent s a b = (AtOrBefore s a b ⊎ AtOrBefore s b a) → ⊥

-- A list with one on the predecessor keeps something.
keeps : (s : Store) (p : ℕ) (xs : List ℕ) (c : ℕ) → Has xs c → s.prev c ≡ p → is_empty (on_prev s p xs) ≡ false
unfolding on_prev
keeps s p [] c x'' q = elim x'' [ ]
keeps s p (x ∷ xs) c (inl e) q = let t = eq-eqb (s.prev x) p (rw (← e) q) in rw t refl
keeps s p (x ∷ xs) c (inr h) q =
    pick_eqb (λ ys. is_empty ys ≡ false) (s.prev x) p (λ e. refl) (λ w. keeps s p xs c h q)

-- And only what is on it.
kept : (s : Store) (p : ℕ) (xs : List ℕ) (c : ℕ) → Has (on_prev s p xs) c → s.prev c ≡ p
unfolding on_prev
kept s p [] c h = absurd h
kept s p (x ∷ xs) c h = (pick_eqb (λ ys. Has ys c → s.prev c ≡ p) (s.prev x) p (λ e. ⊎_elim (λ q. rw q e) (kept s p xs c)) (λ w. kept s p xs c)) h

-- A forked state and a log with forks, all on the state's last.
forked_same : (s : Store) (M : State) (q : ℕ) (xs : List ℕ) → IsForked M → last_of M ≡ q → is_empty xs ≡ false → ((x : ℕ) → Has xs x → s.prev x ≡ q) →
    Mirrors s M (record { last = q; forks = xs })
forked_same s (growing m) q xs f e n g = absurd f
forked_same s (forked m lo hi) q [] f e n g = never n
forked_same s (forked m lo hi) q (c ∷ cs) f e n g = rw e (forked_mirrors g)

-- A merge that is one of the states stands where that one's log stands.
own_same : (s : Store) (M K : State) (P : PaperLog) → M ≡ K → Mirrors s K P → Mirrors s M P
own_same s M K P e h = subst (λ N. Mirrors s N P) (sym e) h

-- A log that stands where a state stands has its phase and last.
pub mirrors_same : (s : Store) (K : State) (P : PaperLog) → Mirrors s K P → SamePhaseAndLast K P
mirrors_same s K P growing_mirrors = record { last = refl; phase = refl }
mirrors_same s K P (forked_mirrors f) = record { last = refl; phase = refl }

module _ (s : Store) (v : Valid s) (A : ℕ) where
  -- What a state stands on, no deeper than something at or before its last, is at or before that.
  stands_under : {L : State} → ValidState s A L → (y p : ℕ) → AtOrBefore s p (last_of L) → StandsOn s L y → s.index y ≤ s.index p → AtOrBefore s y p
  stands_under (growing_valid {l = l} n) y p b h j = in_order s v A y p l n h.back b j
  stands_under (forked_valid {l = l} n e) y p b (inl h) j = in_order s v A y p l n h.back b j
  stands_under (forked_valid {l = l} {lo = lo} {hi = hi} n e) y p b (inr (inl q)) j =
      absurd (let i = before_index s v A p l n b in let k = low_index s v A l lo hi e in let m : s.index y ≡ s.index lo = ap s.index q in omega arith)
  stands_under (forked_valid {l = l} {lo = lo} {hi = hi} n e) y p b (inr (inr q)) j =
      absurd (let i = before_index s v A p l n b in let k = high_index s v A l lo hi e in let m : s.index y ≡ s.index hi = ap s.index q in omega arith)

  -- A forked merge is not forked before the prefix of the two lasts.
  fork_not_early : (L K : State) (m lo hi p : ℕ) → ValidState s A L → ValidState s A K → IsMerge s L K (forked m lo hi) → AtOrBefore s p (last_of L) →
      AtOrBefore s p (last_of K) → s.index p ≤ s.index m
  fork_not_early L K m lo hi p vl vk i a b = ⊎_elim (λ j. j) early (le? (s.index p) (s.index m))
    where
      w : Sandwich s A (Union (StandsOn s L) (StandsOn s K)) (forked m lo hi)
      w = merge_sandwich s v A L K (forked m lo hi) vl vk i

      under : (y : ℕ) → Union (StandsOn s L) (StandsOn s K) y → s.index y ≤ s.index p → AtOrBefore s y p
      under y (inl h) j = stands_under vl y p a h j
      under y (inr h) j = stands_under vk y p b h j

      apart : ValidState s A (forked m lo hi) → s.index m < s.index p → ⊥
      apart (forked_valid n e) j =
          let x = low_index s v A m lo hi e in
          let y = high_index s v A m lo hi e in
          evidence_apart s v A m lo hi e
          (one_index s v A lo hi p (before_node s v A p (last_of L) (last_node s v A vl) a) (under lo (w.inside lo (inr (inl refl))) (omega arith))
          (under hi (w.inside hi (inr (inr refl))) (omega arith)) (omega arith))

      early : s.index m < s.index p → s.index p ≤ s.index m
      early j = absurd (apart w.valid j)

  -- A forked merge whose last is at or before both lasts is forked at their prefix.
  forked_at_prefix : (L K M : State) (p : ℕ) → ValidState s A L → ValidState s A K → IsMerge s L K M → IsForked M → AtOrBefore s (last_of M) (last_of L)
      → AtOrBefore s (last_of M) (last_of K) → IsPrefix s (last_of L) (last_of K) p → last_of M ≡ p
  forked_at_prefix L K (growing m) p vl vk i f a b q = absurd f
  forked_at_prefix L K (forked m lo hi) p vl vk i f a b q =
      let n = before_node s v A p (last_of L) (last_node s v A vl) q.left in
      let back = q.latest m a b in
      let j = before_index s v A m p n back in
      let k = fork_not_early L K m lo hi p vl vk i q.left q.right in
      one_index s v A m p p n back (before_refl s v A p) (omega arith)

  -- Two concurrent lasts: the merge is forked, its last at or before both.
  split_merge : (L K M : State) → ValidState s A L → ValidState s A K → IsMerge s L K M → Concurrent s (last_of L) (last_of K) → IsForked
      M × (AtOrBefore s (last_of M) (last_of L) × AtOrBefore s (last_of M) (last_of K))
  split_merge L K M vl vk i w =
      let vm = merge_valid s v A L K M vl vk i in
      go vm (taken vl vm (merge_above_left s v A L K M vl vk i)) (taken vk vm (merge_above_right s v A L K M vl vk i))
    where
      taken : {N M' : State} → ValidState s A N → ValidState s A M' → AtOrBelow s N M' → Takes s M' (last_of N)
      taken {N} vn vm p = below_trans s v A (growing_valid (last_node s v A vn)) vn vm (last_takes s v A vn (last_of N) (before_refl s v A (last_of N))) p

      either_way : (m : ℕ) → Node s A m → AtOrBefore s (last_of L) m → AtOrBefore s (last_of K) m → ⊥
      either_way m n p q =
          w (⊎_elim (λ j. inl (in_order s v A (last_of L) (last_of K) m n p q j))
          (λ j. inr (in_order s v A (last_of K) (last_of L) m n q p (omega arith))) (le? (s.index (last_of L)) (s.index (last_of K))))

      go : {M' : State} → ValidState s A M' → Takes s M' (last_of L) → Takes s M' (last_of K) → IsForked
          M' × (AtOrBefore s (last_of M') (last_of L) × AtOrBefore s (last_of M') (last_of K))
      go (growing_valid {l = m} n) p q = absurd (either_way m n p q)
      go (forked_valid {l = m} n e) (inl p) (inl q) = absurd (either_way m n p q)
      go (forked_valid {l = m} n e) (inl p) (inr q) = absurd (w (inl (before_trans s v A (last_of L) m (last_of K) p q.strictly.back)))
      go (forked_valid {l = m} n e) (inr p) (inl q) = absurd (w (inr (before_trans s v A (last_of K) m (last_of L) q p.strictly.back)))
      go (forked_valid n e) (inr p) (inr q) = (tt, (p.strictly.back, q.strictly.back))

  -- The paper's test of two messages decides.
  concurrent_test : (a b : ℕ) → Node s A a → Node s A b → Decides (Concurrent s a b) (concurrent? s a b)
  concurrent_test a b na nb =
      decides_not (either (before? s a b) (before? s b a)) (decides_either (before? s a b) (before? s b a) (before_test s v A a b na nb)
      (before_test s v A b a nb na))

  -- The fork proof of the paper has the child toward the first, where the prefix is not the first.
  proof_has : (a b : ℕ) → prefix_of s a b ≢ a → Has (fork_proof s a b) (toward s (prefix_of s a b) a)
  proof_has a b w = let e = ne_eqb (prefix_of s a b) a w in rw e (inl refl)

  -- So a split in the paper's way has forks: that child, or the evidence that the first had.
  split_by_child : (a b : ℕ) (rest : List ℕ) → Node s A a → Node s A b → prefix_of s a b ≢ a → is_empty
      (on_prev s (prefix_of s a b) (fork_proof s a b ++ rest)) ≡ false
  split_by_child a b rest na nb w =
      keeps s (prefix_of s a b) (fork_proof s a b ++ rest) (toward s (prefix_of s a b) a) (has_left (fork_proof s a b) rest _ (proof_has a b w))
      (child_prev s v A (prefix_of s a b) a na record { back = (prefix_exists s v A a b na nb).left; apart = w })

  -- A fork that the first had, or that child.
  split_by_fork : (a c b : ℕ) (cs rest : List ℕ) → Node s A a → Node s A b → s.prev c ≡ a → is_empty
      (on_prev s (prefix_of s a b) (fork_proof s a b ++ ((c ∷ cs) ++ rest))) ≡ false
  split_by_fork a c b cs rest na nb e =
      ⊎_elim
      (λ q. keeps s (prefix_of s a b) (fork_proof s a b ++ ((c ∷ cs) ++ rest)) c (has_right (fork_proof s a b) ((c ∷ cs) ++ rest) c (inl refl)) (e ∙ sym q))
      (split_by_child a b ((c ∷ cs) ++ rest) na nb)
      (eq? (prefix_of s a b) a)

  -- Concurrent: the prefix is neither.
  prefix_apart : (a b : ℕ) → Node s A a → Node s A b → Concurrent s a b → prefix_of s a b ≢ a
  prefix_apart a b na nb w e = w (inl (rw e at (prefix_exists s v A a b na nb).right))

  -- A forked state with a growing one whose last is comparable: forked where it was.
  forked_stays : (L M : State) (k : ℕ) → ValidState s A L → Node s A k → IsForked L → IsMerge s L (growing k) M → AtOrBefore s (last_of L)
      k ⊎ AtOrBefore s k (last_of L) → IsForked M × (last_of M ≡ last_of L)
  forked_stays L M k vl n f i (inl p) =
      let u = above_forked s v A vl (merge_valid s v A L (growing k) M vl (growing_valid n) i) f
      (merge_above_left s v A L (growing k) M vl (growing_valid n) i) in (
        u.0,
        forked_at_prefix L (growing k) M (last_of L) vl (growing_valid n) i u.0 u.1 (before_trans s v A (last_of M) (last_of L) k u.1 p)
            (before_prefix s v A (last_of L) k p),
      )
  forked_stays L M k vl n f i (inr p) =
      let vk = growing_valid n in
      let e : L ≡ M = merge_unique s v A (growing k) L L M vk vl ((below_merge s v A (growing k) L vk vl).0 (last_takes s v A vl k p))
      (merge_commutative s v A L (growing k) M vl vk i) in
      (subst IsForked e f, sym (ap last_of e))

  -- Not concurrent: one is at or before the other.
  comparable : (a b : ℕ) → Node s A a → Node s A b → (Concurrent s a b → ⊥) → AtOrBefore s a b ⊎ AtOrBefore s b a
  comparable a b na nb w =
      ⊎_elim inl (λ p. ⊎_elim inr (λ q. absurd (w (⊎_elim p q))) (before_decided s v A b a na)) (before_decided s v A a b nb)

  -- Two concurrent lasts: forked at the prefix, as the paper's log is.
  split_same : (L K M : State) → ValidState s A L → ValidState s A K → IsMerge s L K M → Concurrent s (last_of L) (last_of K) → (xs : List ℕ) → is_empty
      xs ≡ false → ((x : ℕ) → Has xs x → s.prev x ≡ prefix_of s (last_of L) (last_of K)) → Mirrors s M
      (record { last = prefix_of s (last_of L) (last_of K); forks = xs })
  split_same L K M vl vk i w xs =
      let u = split_merge L K M vl vk i w in
      forked_same s M _ xs u.0 (forked_at_prefix L K M _ vl vk i u.0 u.1.0 u.1.1
      (prefix_exists s v A (last_of L) (last_of K) (last_node s v A vl) (last_node s v A vk)))

  -- A growing state at or below another: the merge is the other.
  grows_to : (l k : ℕ) (M : State) → Node s A l → Node s A k → IsMerge s (growing l) (growing k) M → AtOrBefore s l k → M ≡ growing k
  grows_to l k M n j i p =
      merge_unique s v A (growing l) (growing k) M (growing k) (growing_valid n) (growing_valid j) i
      ((below_merge s v A (growing l) (growing k) (growing_valid n) (growing_valid j)).0 p)

  -- The four cases of algorithm 3: both grow.
  merge_gg : (l k : ℕ) (M : State) → Node s A l → Node s A k → IsMerge s (growing l) (growing k) M → Mirrors s M
      (paper_merge s (record { last = l; forks = [] }) (record { last = k; forks = [] }))
  unfolding paper_merge
  merge_gg l k M n j i =
      pick_decides (Mirrors s M) (concurrent? s l k) (concurrent_test l k n j)
      (λ w. split_same (growing l) (growing k) M vl vk i w _ (split_by_child l k [] n j (prefix_apart l k n j w))
      (kept s (prefix_of s l k) (fork_proof s l k ++ [])))
      (λ w.
      pick_decides (Mirrors s M) (before? s l k) (before_test s v A l k n j)
      (λ p. own_same s M (growing k) _ (grows_to l k M n j i p) growing_mirrors)
      (λ q. own_same s M (growing l) _ (grows_to k l M j n (merge_commutative s v A (growing l) (growing k) M vl vk i)
      (⊎_elim (λ p. absurd (q p)) (λ p. p) (comparable l k n j w))) growing_mirrors))
    where
      vl : ValidState s A (growing l)
      vl = growing_valid n

      vk : ValidState s A (growing k)
      vk = growing_valid j

  -- The second is forked.
  merge_gf : (l k lo hi c : ℕ) (cs : List ℕ) (M : State) → Node s A l → ValidState s A (forked k lo hi) → ((x : ℕ) → Has (c ∷ cs) x → s.prev x ≡ k) →
      IsMerge s (growing l) (forked k lo hi) M → Mirrors s M (paper_merge s (record { last = l; forks = [] }) (record { last = k; forks = c ∷ cs }))
  unfolding paper_merge
  merge_gf l k lo hi c cs M n vk g i =
      pick_decides (Mirrors s M) (concurrent? s l k) (concurrent_test l k n j)
      (λ w. split_same (growing l) (forked k lo hi) M vl vk i w _ (split_by_child l k (c ∷ cs) n j (prefix_apart l k n j w))
      (kept s (prefix_of s l k) (fork_proof s l k ++ (c ∷ cs))))
      (λ w.
      let u = forked_stays (forked k lo hi) M l vk n tt (merge_commutative s v A (growing l) (forked k lo hi) M vl vk i)
      (⊎_elim inr inl (comparable l k n j w)) in
      forked_same s M k (c ∷ cs) u.0 u.1 refl g)
    where
      vl : ValidState s A (growing l)
      vl = growing_valid n

      j : Node s A k
      j = last_node s v A vk

  -- The first is forked.
  merge_fg : (l lo hi k c : ℕ) (cs : List ℕ) (M : State) → ValidState s A (forked l lo hi) → Node s A k → ((x : ℕ) → Has (c ∷ cs) x → s.prev x ≡ l) →
      IsMerge s (forked l lo hi) (growing k) M → Mirrors s M (paper_merge s (record { last = l; forks = c ∷ cs }) (record { last = k; forks = [] }))
  unfolding paper_merge
  merge_fg l lo hi k c cs M vl j g i =
      pick_decides (Mirrors s M) (concurrent? s l k) (concurrent_test l k n j)
      (λ w. split_same (forked l lo hi) (growing k) M vl (growing_valid j) i w _ (split_by_child l k ((c ∷ cs) ++ []) n j (prefix_apart l k n j w))
      (kept s (prefix_of s l k) (fork_proof s l k ++ ((c ∷ cs) ++ []))))
      (λ w.
      let u = forked_stays (forked l lo hi) M k vl j tt i (comparable l k n j w) in
      forked_same s M l (c ∷ cs) u.0 u.1 refl g)
    where
      n : Node s A l
      n = last_node s v A vl

  -- Both are forked.
  merge_ff : (l a b k lo hi c d : ℕ) (cs ds : List ℕ) (M : State) → ValidState s A (forked l a b) → ValidState s A (forked k lo hi) →
      ((x : ℕ) → Has (c ∷ cs) x → s.prev x ≡ l) → IsMerge s (forked l a b) (forked k lo hi) M → Mirrors s M
      (paper_merge s (record { last = l; forks = c ∷ cs }) (record { last = k; forks = d ∷ ds }))
  unfolding paper_merge
  merge_ff l a b k lo hi c d cs ds M vl vk g i = pick_decides (Mirrors s M) (concurrent? s l k) (concurrent_test l k n j) (λ w. same) (λ w. same)
    where
      n : Node s A l
      n = last_node s v A vl

      j : Node s A k
      j = last_node s v A vk

      vm : ValidState s A M
      vm = merge_valid s v A (forked l a b) (forked k lo hi) M vl vk i

      same : Mirrors s M (paper_split s (record { last = l; forks = c ∷ cs }) (record { last = k; forks = d ∷ ds }))
      same =
          let u = above_forked s v A vl vm tt (merge_above_left s v A (forked l a b) (forked k lo hi) M vl vk i) in
          let w = above_forked s v A vk vm tt (merge_above_right s v A (forked l a b) (forked k lo hi) M vl vk i) in
          forked_same s M _ _ u.0 (forked_at_prefix (forked l a b) (forked k lo hi) M _ vl vk i u.0 u.1 w.1 (prefix_exists s v A l k n j))
          (split_by_fork l c k cs (d ∷ ds) n j (g c (inl refl)))
          (kept s (prefix_of s l k) (fork_proof s l k ++ ((c ∷ cs) ++ (d ∷ ds))))

  -- Algorithm 3: where two logs of the paper stand where two states stand, so do their merges.
  pub merge_mirrors : (L K M : State) (P Q : PaperLog) → ValidState s A L → ValidState s A K → Mirrors s L P → Mirrors s K Q → IsMerge s L K M →
      Mirrors s M (paper_merge s P Q)
  merge_mirrors L K M P Q (growing_valid {l = l} n) (growing_valid {l = k} j) growing_mirrors growing_mirrors i = merge_gg l k M n j i
  merge_mirrors L K M P Q (growing_valid {l = l} n) (forked_valid {l = k} {lo = lo} {hi = hi} j e) growing_mirrors
      (forked_mirrors {c = c} {cs = cs} g) i = merge_gf l k lo hi c cs M n (forked_valid j e) g i
  merge_mirrors L K M P Q (forked_valid {l = l} {lo = lo} {hi = hi} n e) (growing_valid {l = k} j) (forked_mirrors {c = c} {cs = cs} g)
      growing_mirrors i = merge_fg l lo hi k c cs M (forked_valid n e) j g i
  merge_mirrors L K M P Q (forked_valid {l = l} {lo = a} {hi = b} n e) (forked_valid {l = k} {lo = lo} {hi = hi} j f)
      (forked_mirrors {c = c} {cs = cs} g) (forked_mirrors {c = d} {cs = ds} h) i =
      merge_ff l a b k lo hi c d cs ds M (forked_valid n e) (forked_valid j f) g i

  -- The fork of algorithm 1 has its proof.
  fork_nonempty : (a b : ℕ) → Node s A a → Node s A b → Concurrent s a b → is_empty (fork_proof s a b) ≡ false
  fork_nonempty a b na nb w = let e = ne_eqb (prefix_of s a b) a (prefix_apart a b na nb w) in rw e refl

  -- And each is on the prefix.
  fork_on_prefix : (a b : ℕ) → Node s A a → Node s A b → (x : ℕ) → Has (fork_proof s a b) x → s.prev x ≡ prefix_of s a b
  fork_on_prefix a b na nb x h =
      let f = (equation_ten s v A a b x na nb).0 h in
      f.on_prefix ∙ prefix_unique s v A a b f.prefix (prefix_of s a b) na f.is_prefix (prefix_exists s v A a b na nb)

  -- Algorithm 1, the growing phase.
  append_g : (l x : ℕ) (M : State) → Node s A l → Node s A x → IsMerge s (growing l) (growing x) M → Mirrors s M
      (paper_append s (record { last = l; forks = [] }) x)
  unfolding paper_append
  append_g l x M n j i =
      pick_decides (Mirrors s M) (both (before? s l x) (not (eqb l x)))
      (decides_both (before? s l x) (not (eqb l x)) (before_test s v A l x n j) (decides_not (eqb l x) (decides_eqb l x)))
      (λ p. own_same s M (growing x) _ (grows_to l x M n j i p.0) growing_mirrors)
      (λ u.
      pick_decides (Mirrors s M) (before? s x l) (before_test s v A x l j n)
      (λ p. own_same s M (growing l) _ (grows_to x l M j n (merge_commutative s v A (growing l) (growing x) M (growing_valid n) (growing_valid j) i)
      p) growing_mirrors)
      (λ q. split_same (growing l) (growing x) M (growing_valid n) (growing_valid j) i (apart u q) _ (fork_nonempty l x n j (apart u q))
      (fork_on_prefix l x n j)))
    where
      apart : (AtOrBefore s l x × (l ≡ x → ⊥) → ⊥) → (AtOrBefore s x l → ⊥) → Concurrent s l x
      apart u q (inl p) = u (p, λ e. q (rw e (before_refl s v A x)))
      apart u q (inr p) = q p

  -- Algorithm 1, the shrinking phase.
  append_f : (l lo hi x c : ℕ) (cs : List ℕ) (M : State) → ValidState s A (forked l lo hi) → Node s A x → ((y : ℕ) → Has (c ∷ cs) y → s.prev y ≡ l) →
      IsMerge s (forked l lo hi) (growing x) M → Mirrors s M (paper_append s (record { last = l; forks = c ∷ cs }) x)
  unfolding paper_append
  append_f l lo hi x c cs M vl j g i =
      pick_decides (Mirrors s M) (not (concurrent? s x l)) (decides_not (concurrent? s x l) (concurrent_test x l j n))
      (λ w.
      let u = forked_stays (forked l lo hi) M x vl j tt i (⊎_elim inr inl (comparable x l j n w)) in
      forked_same s M l (c ∷ cs) u.0 u.1 refl g)
      (λ w. split_same (forked l lo hi) (growing x) M vl (growing_valid j) i (apart w) _ (fork_nonempty l x n j (apart w)) (fork_on_prefix l x n j))
    where
      n : Node s A l
      n = last_node s v A vl

      apart : ((Concurrent s x l → ⊥) → ⊥) → Concurrent s l x
      apart w h = w (λ c'. c' (⊎_elim inr inl h))

  -- Algorithm 1: where a log of the paper stands where a state stands, so it does after an append.
  pub append_mirrors : (K M : State) (P : PaperLog) (x : ℕ) → ValidState s A K → RowOf s A x → Mirrors s K P → IsMerge s K (growing x) M → Mirrors s M
      (paper_append s P x)
  append_mirrors K M P x (growing_valid {l = l} n) r growing_mirrors i = append_g l x M n (inr r) i
  append_mirrors K M P x (forked_valid {l = l} {lo = lo} {hi = hi} n e) r (forked_mirrors {c = c} {cs = cs} g) i = append_f l lo hi x c cs M
      (forked_valid n e) (inr r) g i

  -- A valid state, read as a log of the paper, stands where it stands.
  pub own_mirrors : {K : State} → ValidState s A K → Mirrors s K (as_paper K)
  own_mirrors (growing_valid n) = growing_mirrors
  own_mirrors (forked_valid {l = l} {lo = lo} {hi = hi} n e) = forked_mirrors on_last
    where
      on_last : (x : ℕ) → Has (lo ∷ hi ∷ []) x → s.prev x ≡ l
      on_last x (inl q) = rw q e.low_prev
      on_last x (inr (inl q)) = rw q e.high_prev
      on_last x (inr (inr x4)) = elim x4 [ ]

  -- The phase and last of a merge are algorithm 3's.
  pub paper_merge_lem : (L K M : State) → ValidState s A L → ValidState s A K → IsMerge s L K M → SamePhaseAndLast M (paper_merge s (as_paper L) (as_paper K))
  paper_merge_lem L K M vl vk i = mirrors_same s M _ (merge_mirrors L K M (as_paper L) (as_paper K) vl vk (own_mirrors vl) (own_mirrors vk) i)

  -- The phase and last of an append are algorithm 1's.
  pub paper_append_lem : (K M : State) (x : ℕ) → ValidState s A K → RowOf s A x → IsMerge s K (growing x) M → SamePhaseAndLast M (paper_append s (as_paper K) x)
  paper_append_lem K M x vk r i = mirrors_same s M _ (append_mirrors K M (as_paper K) x vk r (own_mirrors vk) i)

  -- A tree of the paper's merges stands where the tree of merges stands.
  tree_mirrors : (m : State → State → State) → Merges s A m → (t : Tree) → ValidLeaves s A t → Mirrors s (merged m t) (paper_merged s t)
  unfolding merged paper_merged
  tree_mirrors m good (leaf K) f = own_mirrors (f K refl)
  tree_mirrors m good (join t u) f =
      let p = tree_valid s v A m good t (λ L h. f L (inl h)) in
      let q = tree_valid s v A m good u (λ L h. f L (inr h)) in
      merge_mirrors (merged m t) (merged m u) _ (paper_merged s t) (paper_merged s u) p q (tree_mirrors m good t (λ L h. f L (inl h)))
      (tree_mirrors m good u (λ L h. f L (inr h))) (good (merged m t) (merged m u) p q)

  -- So over any tree the phase and last are the paper's, although the paper's evidence depends on the order.
  pub paper_tree : (m : State → State → State) → Merges s A m → (t : Tree) → ValidLeaves s A t → SamePhaseAndLast (merged m t) (paper_merged s t)
  paper_tree m good t f = mirrors_same s (merged m t) (paper_merged s t) (tree_mirrors m good t f)

-- (j) Rows admitted later change no merge, order or prefix of earlier states.
-- Assumes nothing.
use Prim.Native.Nat.{ℕ, zero, suc, ◌-◌, ◌≤◌}
use mathlib.Core.Path.{◌≡◌, refl, sym, ap, ◌∙◌, subst}
use mathlib.Core.Logic.{inl, inr, ⊎_elim, ◌↔◌}
use native.Mathlib.Omega.{arith}
use Rattle.chains.specs.Chain.{Store, RowOf, Node, Valid, up, at, toward, AtOrBefore, History, IsPrefix, Leads, prefix_of, State, growing, ValidState}
use Rattle.chains.specs.Chain.{growing_valid, forked_valid, StandsOn, Union, IsMerge, Admissible, Beyond, AtOrBelow, merge_of}
use Rattle.chains.specs.Merging.{Extends}
use Rattle.chains.proofs.Climb.{up_node, at_node, before_node}
use Rattle.chains.proofs.Prefix.{prefix_exists, prefix_unique}
use Rattle.chains.proofs.Order.{stands_row}
use Rattle.chains.proofs.Sandwich.{Sandwich}
use Rattle.chains.proofs.Merge.{merge_sandwich, sandwich_merge, merge_unique, merge_is_union}

module _ (s t : Store) (v : Valid s) (w : Valid t) (e : Extends s t) (A : ℕ) where
  -- What was none or a row lies within the earlier count.
  held : (x : ℕ) → Node s A x → x ≤ s.count
  held x (inl q) = omega arith
  held x (inr r) = r.held

  -- A row stays a row.
  pub row_on : (x : ℕ) → RowOf s A x → RowOf t A x
  row_on x r = record { some = r.some; held = (let m = e.more in let h = r.held in omega arith); by = e.author x r.held ∙ r.by }

  -- None or a row stays so.
  pub node_on : (x : ℕ) → Node s A x → Node t A x
  node_on x (inl q) = inl q
  node_on x (inr r) = inr (row_on x r)

  -- Indexes stay.
  index_on : (x : ℕ) → Node s A x → t.index x ≡ s.index x
  index_on x n = e.index x (held x n)

  -- Ids stay.
  key_on : (x : ℕ) → Node s A x → t.key x ≡ s.key x
  key_on x n = e.key x (held x n)

  -- Steps back stay.
  up_on : (n x : ℕ) → Node s A x → up t n x ≡ up s n x
  unfolding up
  up_on zero x h = refl
  up_on (suc n) x h = ap t.prev (up_on n x h) ∙ e.prev (up s n x) (held (up s n x) (up_node s v A n x h))

  -- The one at an index stays.
  at_on : (x k : ℕ) → Node s A x → at t x k ≡ at s x k
  unfolding at
  at_on x k h = ap (λ i. up t (i - k) x) (index_on x h) ∙ up_on (s.index x - k) x h

  -- The child toward a row stays.
  toward_on : (k x : ℕ) → Node s A k → Node s A x → toward t k x ≡ toward s k x
  toward_on k x hk h = ap (λ i. at t x (suc i)) (index_on k hk) ∙ at_on x (suc (s.index k)) h

  -- At or before.
  pub before_on : (a b : ℕ) → Node s A b → AtOrBefore s a b ↔ AtOrBefore t a b
  before_on a b n = (
    λ p. record { steps = p.steps; reach = up_on p.steps b n ∙ p.reach },
    λ p. record { steps = p.steps; reach = sym (up_on p.steps b n) ∙ p.reach },
  )

  -- (j) The prefix.
  pub prefix_on : (a b p : ℕ) → Node s A a → Node s A b → IsPrefix s a b p ↔ IsPrefix t a b p
  prefix_on a b p na nb = (to, from)
    where
      to : IsPrefix s a b p → IsPrefix t a b p
      to i =
          record {
            left = (before_on p a na).0 i.left;
            right = (before_on p b nb).0 i.right;
            latest = λ q h k. (before_on q p (before_node s v A p a na i.left)).0 (i.latest q ((before_on q a na).1 h) ((before_on q b nb).1 k));
          }

      from : IsPrefix t a b p → IsPrefix s a b p
      from i =
          let l = (before_on p a na).1 i.left in
          record {
            left = l;
            right = (before_on p b nb).1 i.right;
            latest = λ q h k. (before_on q p (before_node s v A p a na l)).1 (i.latest q ((before_on q a na).0 h) ((before_on q b nb).0 k));
          }

  -- Which way each side goes.
  pub leads_on : (p x c : ℕ) → Node s A x → Leads s p x c → Leads t p x c
  leads_on p x c n (Leads.at_prefix q r) = Leads.at_prefix q r
  leads_on p x c n (Leads.by_child h q b) =
      Leads.by_child h (e.prev c (held c (before_node s v A c x n b)) ∙ q) ((before_on c x n).0 b)

  -- What the climb yields stays.
  pub prefix_of_on : (a b : ℕ) → Node s A a → Node s A b → prefix_of t a b ≡ prefix_of s a b
  prefix_of_on a b na nb =
      prefix_unique t w A a b _ _ (node_on a na) (prefix_exists t w A a b (node_on a na) (node_on b nb))
      ((prefix_on a b _ na nb).0 (prefix_exists s v A a b na nb))

  -- Valid states stay valid and stand on the same rows.
  pub valid_on : {K : State} → ValidState s A K → ValidState t A K
  valid_on (growing_valid {l = l} n) = growing_valid (node_on l n)
  valid_on (forked_valid {l = l} {lo = lo} {hi = hi} n d) =
      forked_valid (node_on l n)
      record {
        low = row_on lo d.low;
        high = row_on hi d.high;
        low_prev = e.prev lo d.low.held ∙ d.low_prev;
        high_prev = e.prev hi d.high.held ∙ d.high_prev;
        sorted = rw (key_on lo (inr d.low), key_on hi (inr d.high)) d.sorted;
      }

  -- A log history stays.
  history_on : (l x : ℕ) → Node s A l → History s l x ↔ History t l x
  history_on l x n =
      (λ h. record { some = h.some; back = (before_on x l n).0 h.back }, λ h. record { some = h.some; back = (before_on x l n).1 h.back })

  -- What a state stands on stays.
  pub stands_on : {K : State} → ValidState s A K → (x : ℕ) → StandsOn s K x ↔ StandsOn t K x
  stands_on (growing_valid {l = l} n) x = history_on l x n
  stands_on (forked_valid {l = l} n d) x = (⊎_elim (λ h. inl ((history_on l x n).0 h)) inr, ⊎_elim (λ h. inl ((history_on l x n).1 h)) inr)

  -- Admissible stays.
  admissible_on : (lo hi c : ℕ) → RowOf s A hi → Node s A c → Admissible s lo hi c ↔ Admissible t lo hi c
  admissible_on lo hi c h n =
      (⊎_elim inl (λ l. inr (rw (key_on hi (inr h), key_on c n) l)), ⊎_elim inl (λ l. inr (let i = key_on hi (inr h) in let j = key_on c n in omega arith)))

  -- Beyond stays.
  beyond_on : (k lo hi l : ℕ) → Node s A k → RowOf s A hi → Node s A l → Beyond s k lo hi l ↔ Beyond t k lo hi l
  beyond_on k lo hi l nk h nl = (
    λ b.
        record {
          strictly = record { back = (before_on k l nl).0 b.strictly.back; apart = b.strictly.apart };
          child = rw (toward_on k l nk nl) ((admissible_on lo hi (toward s k l) h (at_node s v A l _ nl)).0 b.child);
        },
    λ b.
        record {
          strictly = record { back = (before_on k l nl).1 b.strictly.back; apart = b.strictly.apart };
          child = (admissible_on lo hi (toward s k l) h (at_node s v A l _ nl)).1 (rw (toward_on k l nk nl) at b.child);
        },
  )

  -- (j) The order.
  pub below_on : {L K : State} → ValidState s A L → ValidState s A K → AtOrBelow s L K ↔ AtOrBelow t L K
  below_on (growing_valid {l = l} n) (growing_valid {l = k} j) = before_on l k j
  below_on (growing_valid {l = l} n) (forked_valid {l = k} {lo = lo} {hi = hi} j d) = (
    ⊎_elim (λ p. inl ((before_on l k j).0 p)) (λ b. inr ((beyond_on k lo hi l j d.high n).0 b)),
    ⊎_elim (λ p. inl ((before_on l k j).1 p)) (λ b. inr ((beyond_on k lo hi l j d.high n).1 b)),
  )
  below_on (forked_valid n d) (growing_valid j) = (λ p. p, λ p. p)
  below_on (forked_valid {l = l} {lo = a} {hi = b} n c) (forked_valid {l = k} {lo = lo} {hi = hi} j d) = (
    ⊎_elim (λ p. inl ((beyond_on k lo hi l j d.high n).0 p))
        (λ p.
        inr
        record {
          same = p.same;
          low = (admissible_on lo hi a d.high (inr c.low)).0 p.low;
          high = (admissible_on lo hi b d.high (inr c.high)).0 p.high;
        }),
    ⊎_elim (λ p. inl ((beyond_on k lo hi l j d.high n).1 p))
        (λ p.
        inr
        record {
          same = p.same;
          low = (admissible_on lo hi a d.high (inr c.low)).1 p.low;
          high = (admissible_on lo hi b d.high (inr c.high)).1 p.high;
        }),
  )

  -- (j) The merge.
  merge_to : (L K M : State) → ValidState s A L → ValidState s A K → IsMerge s L K M → IsMerge t L K M
  merge_to L K M vl vk i =
      sandwich_merge t w A (valid_on vl) (valid_on vk)
      record {
        valid = valid_on m.valid;
        inside = λ x h. ⊎_elim (λ g. inl ((stands_on vl x).0 g)) (λ g. inr ((stands_on vk x).0 g)) (m.inside x ((stands_on m.valid x).1 h));
        above = λ x h. ⊎_elim (λ g. taken x (inl ((stands_on vl x).1 g)) (inr (stands_row s v A vl x ((stands_on vl x).1 g))))
            (λ g. taken x (inr ((stands_on vk x).1 g)) (inr (stands_row s v A vk x ((stands_on vk x).1 g)))) h;
      }
    where
      m : Sandwich s A (Union (StandsOn s L) (StandsOn s K)) M
      m = merge_sandwich s v A L K M vl vk i

      taken : (x : ℕ) → Union (StandsOn s L) (StandsOn s K) x → Node s A x → AtOrBelow t (growing x) M
      taken x h n = (below_on (growing_valid n) m.valid).0 (m.above x h)

  -- What was the merge is the merge, and nothing else is.
  pub merge_on : (L K M : State) → ValidState s A L → ValidState s A K → IsMerge s L K M ↔ IsMerge t L K M
  merge_on L K M vl vk = (merge_to L K M vl vk, back)
    where
      here : IsMerge s L K (merge_of s L K)
      here = merge_is_union s v A L K vl vk

      back : IsMerge t L K M → IsMerge s L K M
      back j = subst (IsMerge s L K) (merge_unique t w A L K (merge_of s L K) M (valid_on vl) (valid_on vk) (merge_to L K (merge_of s L K) vl vk here) j) here

  -- The computed merge stays.
  pub merge_of_on : (L K : State) → ValidState s A L → ValidState s A K → merge_of t L K ≡ merge_of s L K
  merge_of_on L K vl vk =
      merge_unique t w A L K (merge_of t L K) (merge_of s L K) (valid_on vl) (valid_on vk) (merge_is_union t w A L K (valid_on vl) (valid_on vk))
      (merge_to L K (merge_of s L K) vl vk (merge_is_union s v A L K vl vk))

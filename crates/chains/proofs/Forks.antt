-- Source 002's fork proof: the computed list has what equation 10 says, and nothing else.
-- Assumes nothing.
use Prim.Native.Nat.{ℕ}
use mathlib.Core.Path.{◌≡◌, sym, ap, ◌∙◌}
use mathlib.Core.Logic.{◌⊎◌, inl, inr, ⊎_elim, ◌↔◌}
use mathlib.Core.List.{List, [], ◌∷◌, ◌++◌}
use native.Mathlib.Omega.{arith}
use lib.Dec.{eqb}
use Rattle.basics.specs.Pick.{pick}
use Rattle.chains.specs.Chain.{Store, Node, Valid, toward, AtOrBefore, Before, prefix_of}
use Rattle.chains.specs.Paper.{InRange, InForkProof, fork_proof, Has}
use Rattle.chains.proofs.Laws.{pick_eqb}
use Rattle.chains.proofs.Climb.{before_node, before_index, none_before, at_before, child_prev, child_index, child_self, child_back}
use Rattle.chains.proofs.Prefix.{prefix_exists, prefix_unique}

-- In the first of two joined lists.
pub has_left : (xs ys : List ℕ) (c : ℕ) → Has xs c → Has (xs ++ ys) c
has_left [] ys c x' = elim x' [ ]
has_left (x ∷ xs) ys c (inl e) = inl e
has_left (x ∷ xs) ys c (inr h) = inr (has_left xs ys c h)

-- In the second.
pub has_right : (xs ys : List ℕ) (c : ℕ) → Has ys c → Has (xs ++ ys) c
has_right [] ys c h = h
has_right (x ∷ xs) ys c h = inr (has_right xs ys c h)

-- In one of the two.
has_either : (xs ys : List ℕ) (c : ℕ) → Has (xs ++ ys) c → Has xs c ⊎ Has ys c
has_either [] ys c h = inr h
has_either (x ∷ xs) ys c (inl e) = inl (inl e)
has_either (x ∷ xs) ys c (inr h) = ⊎_elim (λ k. inl (inr k)) inr (has_either xs ys c h)

-- The first message of the branch from `p` to `a`, where there is one.
abbrev branch : Store → ℕ → ℕ → List ℕ
branch s p a = pick (eqb p a) [] (toward s p a ∷ [])

module _ (s : Store) (v : Valid s) (A : ℕ) where
  -- What a branch has is in the range, and on its start.
  branch_first : (p a c : ℕ) → Node s A a → AtOrBefore s p a → Has (branch s p a) c → InRange s p a c × (s.prev c ≡ p)
  branch_first p a c n b =
      pick_eqb (λ xs. Has xs c → InRange s p a c × (s.prev c ≡ p)) p a (λ e h. absurd h)
      (λ w. ⊎_elim (λ e. rw e (child record { back = b; apart = w })) (λ h. absurd h))
    where
      child : Before s p a → InRange s p a (toward s p a) × (s.prev (toward s p a) ≡ p)
      child q = (
        record {
          within = at_before s v A a _;
          past = λ k. let i = child_index s v A p a n q in let j = before_index s v A (toward s p a) p (before_node s v A p a n b) k in omega arith;
        },
        child_prev s v A p a n q,
      )

  -- What is in the range and on its start, the branch has.
  first_branch : (p a c : ℕ) → Node s A a → AtOrBefore s p a → InRange s p a c → s.prev c ≡ p → Has (branch s p a) c
  first_branch p a c n b r e =
      pick_eqb (λ xs. Has xs c) p a (λ q. absurd (r.past (rw q r.within))) (λ w. inl (first (before_node s v A c a n r.within)))
    where
      first : Node s A c → c ≡ toward s p a
      first (inl z) = absurd (r.past (rw z (none_before s v A p (before_node s v A p a n b))))
      first (inr h) =
          let i = v.counted A c h in
          let j : s.index (s.prev c) ≡ s.index p = ap s.index e in
          sym (child_self s v A p c h e) ∙ child_back s v A p c a n r.within (omega arith)

  -- So the two branches from `p` have what lies in their ranges on `p`.
  branches : (a b p c : ℕ) → Node s A a → Node s A b → AtOrBefore s p a → AtOrBefore s p b
      → Has (branch s p a ++ branch s p b) c ↔ ((InRange s p a c ⊎ InRange s p b c) × (s.prev c ≡ p))
  branches a b p c na nb l r = (
    λ h.
        ⊎_elim (λ k. let f = branch_first p a c na l k in (inl f.0, f.1)) (λ k. let f = branch_first p b c nb r k in (inr f.0, f.1))
        (has_either (branch s p a) (branch s p b) c h),
    λ h.
        ⊎_elim (λ k. has_left (branch s p a) (branch s p b) c (first_branch p a c na l k h.1))
        (λ k. has_right (branch s p a) (branch s p b) c (first_branch p b c nb r k h.1))
        h.0,
  )

  -- Equation 10 of source 002 in its own words: the fork proof has exactly what lies in the range from the prefix to one of the two
  -- and stands on the prefix.
  pub equation_ten : (a b c : ℕ) → Node s A a → Node s A b → Has (fork_proof s a b) c ↔ InForkProof s a b c
  equation_ten a b c na nb =
      let i = prefix_exists s v A a b na nb in
      let f = branches a b (prefix_of s a b) c na nb i.left i.right in (
        λ h. let g = f.0 h in record { prefix = prefix_of s a b; is_prefix = i; range = g.0; on_prefix = g.1 },
        λ h. let e = prefix_unique s v A a b h.prefix (prefix_of s a b) na h.is_prefix i in f.1 (rw e at h.range, h.on_prefix ∙ e),
      )

-- Which way each side of a prefix goes: the child that leads there exists, is computed, and is the only one.
-- Assumes nothing.
use Prim.Native.Nat.{ℕ, suc, ◌≤◌}
use mathlib.Core.Path.{◌≡◌, refl, sym, ap, ◌∙◌}
use mathlib.Core.Logic.{◌≢◌}
use native.Mathlib.Omega.{arith}
use borrow.Author.Tests.{ne_eqb}
use Rattle.chains.specs.Chain.{Store, Node, Valid, AtOrBefore, Before, Leads, toward, child_toward}
use Rattle.chains.proofs.Laws.{pick_eqb}
use Rattle.chains.proofs.Climb.{node_row, before_node, before_index, one_index, at_before, child_prev, child_row}

-- Away from the prefix the computed child is the child toward the side.
pub child_away : (s : Store) (p x c : ℕ) → c ≡ child_toward s p x → p ≢ x → c ≡ toward s p x
child_away s p x c e d = rw (ne_eqb p x d) at e

module _ (s : Store) (v : Valid s) (A : ℕ) where
  -- The computed child leads to its side.
  pub child_leads : (p x : ℕ) → Node s A x → AtOrBefore s p x → Leads s p x (child_toward s p x)
  child_leads p x n b =
      pick_eqb (Leads s p x) p x
      (λ e. Leads.at_prefix (sym e) refl)
      (λ d. away record { back = b; apart = d })
    where
      away : Before s p x → Leads s p x (toward s p x)
      away q = Leads.by_child (child_row s v A p x n q).some (child_prev s v A p x n q) (at_before s v A x (suc (s.index p)))

  -- A child that leads to a side is a row, one deeper than the prefix.
  leading_index : (p x c : ℕ) → Node s A x → 1 ≤ c → s.prev c ≡ p → AtOrBefore s c x → s.index c ≡ suc (s.index p)
  leading_index p x c n h q b = v.counted A c (node_row s v A c (before_node s v A c x n b) h) ∙ ap (λ z. suc (s.index z)) q

  -- No child leads to a side that stands at the prefix itself.
  none_there : (p x c : ℕ) → Node s A x → x ≡ p → 1 ≤ c → s.prev c ≡ p → AtOrBefore s c x → ⊥
  none_there p x c n e h q b =
      let i = leading_index p x c n h q b in
      let j = before_index s v A c x n b in
      let k : s.index x ≡ s.index p = ap s.index e in
      omega arith

  -- There is one.
  pub leads_unique : (p x c d : ℕ) → Node s A x → Leads s p x c → Leads s p x d → c ≡ d
  leads_unique p x c d n (Leads.at_prefix e f) (Leads.at_prefix g h) = f ∙ sym h
  leads_unique p x c d n (Leads.at_prefix e f) (Leads.by_child h q b) = absurd (none_there p x d n e h q b)
  leads_unique p x c d n (Leads.by_child h q b) (Leads.at_prefix e f) = absurd (none_there p x c n e h q b)
  leads_unique p x c d n (Leads.by_child h q b) (Leads.by_child k r g) =
      one_index s v A c d x n b g (leading_index p x c n h q b ∙ sym (leading_index p x d n k r g))

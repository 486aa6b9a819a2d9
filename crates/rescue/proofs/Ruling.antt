-- What is salvaged is what the rule of document 02 says, and nothing else.
-- Assumes nothing.
use Prim.Native.Nat.{ℕ, zero, suc, ◌+◌, ◌<◌}
use mathlib.Core.Path.{◌≡◌, refl, sym, ap, subst, ◌∙◌}
use mathlib.Core.Bool.{false}
use mathlib.Core.List.{List}
use mathlib.Core.Logic.{⊎_elim}
use native.Mathlib.Omega.{arith}
use native.Mathlib.Nat.{eq-or-lt_of_le}
use lib.ListN.{length}
use Rattle.basics.proofs.Tests.{by_ltb, not_both_ways}
use Rattle.morning.specs.Intake.{Kept}
use Rattle.rescue.specs.Greedy.{Salvage, begun, free, next_item, keep, greedy, salvage_from, GreedyRule, next_item_lem, none_more}
use Rattle.rescue.proofs.Turns.{lowest_least, next_free, turn_next, turn_none, greedy_more, greedy_stays, greedy_ends}

-- From after so many turns to the end of all, `m` turns later.
rule_from : (is : List (List ℕ)) (g : Salvage) (m n : ℕ) → ((q : ℕ) → q < length is → free is (greedy is g (n + m)) q ≡ false)
    → GreedyRule is (greedy is g n) (greedy is g (n + m))
rule_from is g zero n ends =
    let e : n + zero ≡ n = omega arith in
    subst (λ (x : ℕ). GreedyRule is (greedy is g n) (greedy is g x)) (sym e)
    (none_more (greedy is g n) (λ q h. ap (λ (x : ℕ). free is (greedy is g x) q) (sym e) ∙ ends q h))
rule_from is g (suc m) n ends =
    let s = greedy is g n in
    let e : n + suc m ≡ n + 1 + m = omega arith in
    by_ltb (λ _. GreedyRule is s (greedy is g (n + suc m))) (next_item is s) (length is)
    (λ l.
    let kept : greedy is g (n + 1) ≡ keep is s (next_item is s) = greedy_more is g n ∙ turn_next is s l in
    let rest : GreedyRule is (greedy is g (n + 1)) (greedy is g (n + 1 + m)) =
    rule_from is g m (n + 1) (λ q h. ap (λ (x : ℕ). free is (greedy is g x) q) (sym e) ∙ ends q h) in
    next_item_lem s (greedy is g (n + suc m)) (next_item is s) l (next_free is s l) (λ q h. lowest_least (free is s) (length is) q h)
    (subst (λ (x : Salvage). GreedyRule is x (greedy is g (n + suc m))) kept
    (subst (λ (x : ℕ). GreedyRule is (greedy is g (n + 1)) (greedy is g x)) (sym e) rest)))
    (λ l.
    subst (GreedyRule is s) (sym (greedy_stays is g n (n + suc m) (omega arith) (turn_none is s l)))
    (none_more s (λ q h. lowest_least (free is s) (length is) q (omega arith))))

-- THE RULE HOLDS of what is salvaged,
pub greedy_rules : (is : List (List ℕ)) (k : Kept) → GreedyRule is (begun k) (salvage_from is k)
unfolding greedy
greedy_rules is k =
    let e : zero + length is ≡ length is = omega arith in
    subst (λ (n : ℕ). GreedyRule is (begun k) (greedy is (begun k) n)) e
    (rule_from is (begun k) (length is) zero (λ q h. ap (λ (n : ℕ). free is (greedy is (begun k) n) q) e ∙ greedy_ends is (begun k) refl q h))

-- and of nothing else.
pub one_rule : (is : List (List ℕ)) {g a b : Salvage} → GreedyRule is g a → GreedyRule is g b → a ≡ b
one_rule is (none_more g h) (none_more _ k) = refl
one_rule is (none_more g h) (next_item_lem _ b p l f low rest) = absurd (not_both_ways (free is g p) f (h p l))
one_rule is (next_item_lem g a p l f low rest) (none_more _ h) = absurd (not_both_ways (free is g p) f (h p l))
one_rule is (next_item_lem g a p l f low rest) (next_item_lem _ b q m e least more) =
    one_rule is rest (subst (λ (x : ℕ). GreedyRule is (keep is g x) b) (sym same) more)
  where
    same : p ≡ q
    same =
        by_ltb (λ _. p ≡ q) p q (λ h. absurd (not_both_ways (free is g p) f (least p h)))
        (λ h. ⊎_elim (λ (z : q ≡ p). sym z) (λ (z : q < p). absurd (not_both_ways (free is g q) e (low q z))) (eq-or-lt_of_le h))

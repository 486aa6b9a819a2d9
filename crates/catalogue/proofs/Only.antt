-- "23 BACKSTEP, from catalogue admission only", and only where its line holds.
-- Assumes nothing.
use Rattle.std.specs.Prelude.{Ok}
use Prim.Native.Nat.{ℕ, ◌≤◌}
use mathlib.Core.Path.{◌≡◌, refl, sym, ap, ◌∙◌}
use mathlib.Core.Bool.{Bool, true}
use mathlib.Core.List.{List}
use mathlib.Core.Logic.{◌⊎◌, inl, inr}
use native.Mathlib.Omega.{arith}
use borrow.Author.Tests.{le-leb}
use lib.Dec.{leb}
use lib.ListN.{length}
use Rattle.basics.specs.Pick.{pick}
use Rattle.basics.proofs.Tests.{by_ltb}
use Rattle.answers.specs.Number.{number_of}
use Rattle.answers.specs.declared.Refusal.{Refusal}
use Rattle.answers.specs.declared.Refusal.TheVariants.{Backstep}
use Rattle.item.specs.Layout.{layout_of}
use Rattle.item.specs.Lines as item
use Rattle.item.specs.declared.Fields.{Fields}
use Rattle.store.specs.Table.{Table, WellFormed}
use Rattle.judging.specs.Verdict.{verdict_of}
use Rattle.judging.specs.declared.Verdict.{Verdict}
use Rattle.judging.specs.declared.Verdict.TheVariants.{Fits, Holds, Breaks}
use Rattle.admission.specs.After.{Admits, answer_of, store_after}
use Rattle.admission.specs.After as base
use Rattle.admission.specs.Answer.{answer_number}
use Rattle.admission.specs.Lines.{Rule, Line}
use Rattle.admission.specs.declared.Admitted.TheVariants.{Refused}
use Rattle.admission.proofs.Lining.{refused_only}
use Rattle.origins.specs.Origins.{WellKept, AdmitsFrom, without_place}
use Rattle.origins.specs.Origins as origins
use Rattle.origins.proofs.Theorems.{from_placed}
use Rattle.catalogue.specs.Steady.{KeepsM7}
use Rattle.catalogue.specs.Profile.{StepsBack, AdmitsUnder, damaged, unsteady, steady, stepped_back, judged}

-- No line of an item's layout is that of 23,
layout_not_23 : {s : List ℕ} {r : Refusal} → item.Line s r → number_of r ≡ 23 → ⊥
layout_not_23 (item.Line.missing m) e = omega arith
layout_not_23 (item.Line.length_under_2 a b) e = omega arith
layout_not_23 (item.Line.above_limit a) e = omega arith
layout_not_23 (item.Line.left_over a) e = omega arith
layout_not_23 (item.Line.kind_not_1 a b) e = omega arith

-- none of the rules 6 to 16,
rule_not_23 : {t : Table} {s : List ℕ} {f : Fields} {r : Refusal} → Rule t s f r → number_of r ≡ 23 → ⊥
rule_not_23 (Rule.flag a b) e = omega arith
rule_not_23 (Rule.sign a) e = omega arith
rule_not_23 (Rule.index_none a) e = omega arith
rule_not_23 (Rule.index_marked a b) e = omega arith
rule_not_23 (Rule.prev a b) e = omega arith
rule_not_23 (Rule.owner a r b c) e = omega arith
rule_not_23 (Rule.step a r b c) e = omega arith
rule_not_23 (Rule.dep k a b) e = omega arith
rule_not_23 (Rule.own k a r b c) e = omega arith
rule_not_23 (Rule.two i j a b q r c d g) e = omega arith
rule_not_23 (Rule.no_row a) e = omega arith
rule_not_23 (Rule.no_key a b) e = omega arith
rule_not_23 (Rule.no_deps a) e = omega arith

-- and not that of the store.
line_not_23 : {t : Table} {s : List ℕ} {r : Refusal} → Line t s r → number_of r ≡ 23 → ⊥
line_not_23 (Line.store n) e = omega arith
line_not_23 (Line.layout l) e = layout_not_23 l e
line_not_23 (Line.rule w i l) e = rule_not_23 l e

-- No admission without a profile is answered 23,
pub admits_never_23 : (t : Table) (s : List ℕ) (u : Table) → Admits t s u (Refused Backstep) → ⊥
admits_never_23 t s u h = line_not_23 (refused_only t s u Backstep h) refl

-- nor what one without a place for the row would answer: FULL, or 2 to 15;
unplaced_never_23 : (t : Table) (s : List ℕ) → WellFormed t → (v : Verdict) → verdict_of t s ≡ v → Refused Backstep ≡ answer_of t (without_place v) → ⊥
unfolding without_place
unplaced_never_23 t s w (Fits row) e f = let z : ◌≡◌ {A = ℕ} 23 16 = ap answer_number f in omega arith
unplaced_never_23 t s w (Holds r) e f = let z : ◌≡◌ {A = ℕ} 23 8 = ap answer_number f in omega arith
unplaced_never_23 t s w (Breaks r) e f =
    admits_never_23 t s (store_after t s) (base.sound w (record { answer = f ∙ sym (ap (answer_of t) e); after = refl }))

-- so none with origins is.
pub from_never_23 : (t : Table) (o : List ℕ) (g : ℕ) (s : List ℕ) (u : Table) (o' : List ℕ) → AdmitsFrom t o g s u o' (Refused Backstep) → ⊥
from_never_23 t o g s u o' h =
    by_ltb (λ (b : Bool). ⊥) t.counts.rows (length o) (λ l. admits_never_23 t s u (from_placed t o g s u o' (Refused Backstep) h l)) (λ l. unplaced h l)
  where
    unplaced : AdmitsFrom t o g s u o' (Refused Backstep) → length o ≤ t.counts.rows → ⊥
    unplaced (origins.damaged n e f i) l = let z : ◌≡◌ {A = ℕ} 23 1 = ap answer_number e in omega arith
    unplaced (origins.sound k j) l =
        let b : leb (length o) t.counts.rows ≡ true = le-leb (length o) t.counts.rows l in
        unplaced_never_23 t s k.store (verdict_of t s) refl
        (j.answer ∙ ap (λ (x : Bool). answer_of t (pick x (without_place (verdict_of t s)) (verdict_of t s))) b)

-- An admission under the profile is answered 23 only for a well-kept store that breaks M7, or for a message that the rules 6 to 15 let
-- through and that breaks it.
pub only_23 : (t : Table) (o : List ℕ) (g : ℕ) (s : List ℕ) (u : Table) (o' : List ℕ) → AdmitsUnder t o g s u o' (Refused Backstep)
    → WellKept t o × ((KeepsM7 t → ⊥) ⊎ (KeepsM7 t × ((f : Fields) × ((layout_of s ≡ Ok f) × StepsBack t s f))))
only_23 t o g s u o' (damaged n e f i) = let z : ◌≡◌ {A = ℕ} 23 1 = ap answer_number e in absurd (omega arith)
only_23 t o g s u o' (unsteady k n e f i) = (k, inl n)
only_23 t o g s u o' (steady k m (stepped_back c l b e f i)) = (k, inr (m, (c, (l, b))))
only_23 t o g s u o' (steady k m (judged c j)) = absurd (from_never_23 t o g s u o' (origins.sound k j))

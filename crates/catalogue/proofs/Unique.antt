-- The answers of the two calls on a store are determined.
-- Assumes nothing.
use Rattle.std.specs.Prelude.{Result, Ok}
use Rattle.catalogue.specs.declared.deciding.Backstep.{Backstep}
use Rattle.answers.specs.declared.Refusal.{Refusal}
use Prim.Native.Nat.{ℕ, ◌≤◌}
use mathlib.Core.Path.{◌≡◌, sym, ap, subst, ◌∙◌}
use mathlib.Core.Bool.{Bool}
use mathlib.Core.List.{List}
use native.Mathlib.Omega.{arith}
use Rattle.basics.proofs.Decisions.{one_decision}
use Rattle.basics.proofs.Tests.{by_ltb}
use Rattle.store.specs.Table.{Table}
use Rattle.catalogue.specs.Steady.{KeepsAt, Breaks, LowestBreak}
use Rattle.catalogue.specs.Nearest.{Steps, steady, stepped_back}
use Rattle.catalogue.specs.Calls.{TellsSteady, told, NamesBackstep, named}

module _ (rows deps : List ℕ) (n : ℕ) where
  -- A row that keeps M7 breaks it against none.
  kept_unbroken : (r p : ℕ) → KeepsAt rows deps r → Breaks rows deps r p → ⊥
  kept_unbroken r p k b = b.apart (k p b.d b.e b.compared)

  -- There is one lowest row that breaks M7, with one latest row that it breaks it against.
  pub one_lowest : (r p q x : ℕ) → LowestBreak rows deps n r p → LowestBreak rows deps n q x → (r ≡ q) × (p ≡ x)
  one_lowest r p q x l m =
      let e : r ≡ q = by_ltb (λ (b : Bool). r ≡ q) r q (λ h. absurd (kept_unbroken r p (m.lowest r h l.some) l.breaks))
      (λ h. by_ltb (λ (b : Bool). r ≡ q) q r (λ k. absurd (kept_unbroken q x (l.lowest q k m.some) m.breaks)) (λ k. omega arith)) in
      let a : x ≤ p = l.latest x (subst (λ (y : ℕ). Breaks rows deps y x) (sym e) m.breaks) in
      let b : p ≤ x = m.latest p (subst (λ (y : ℕ). Breaks rows deps y p) e l.breaks) in
      (e, omega arith)

  -- What looking through the rows finds is one.
  pub one_steps : (r p q x : ℕ) → Steps rows deps n r p → Steps rows deps n q x → (r ≡ q) × (p ≡ x)
  one_steps r p q x (steady k e f) (steady m g h) = (e ∙ sym g, f ∙ sym h)
  one_steps r p q x (steady k e f) (stepped_back m) = absurd (kept_unbroken q x (k q m.held m.some) m.breaks)
  one_steps r p q x (stepped_back l) (steady m g h) = absurd (kept_unbroken r p (m r l.held l.some) l.breaks)
  one_steps r p q x (stepped_back l) (stepped_back m) = one_lowest r p q x l m

-- A store has one yes or no.
pub one_steady : (t : Table) (a b : Result Bool Refusal) → TellsSteady t a → TellsSteady t b → a ≡ b
one_steady t a b (TellsSteady.damaged_store n e) (TellsSteady.damaged_store m f) = e ∙ sym f
one_steady t a b (TellsSteady.damaged_store n e) (told w c d f) = absurd (n w)
one_steady t a b (told w c d e) (TellsSteady.damaged_store m f) = absurd (m w)
one_steady t a b (told w c d e) (told v c' d' f) = e ∙ ap Ok (one_decision c c' d d') ∙ sym f

-- And one lowest backstep, or none.
pub one_backstep : (t : Table) (a b : Result Backstep Refusal) → NamesBackstep t a → NamesBackstep t b → a ≡ b
one_backstep t a b (NamesBackstep.damaged_store n e) (NamesBackstep.damaged_store m f) = e ∙ sym f
one_backstep t a b (NamesBackstep.damaged_store n e) (named w r p s f) = absurd (n w)
one_backstep t a b (named w r p s e) (NamesBackstep.damaged_store m f) = absurd (m w)
one_backstep t a b (named w r p s e) (named v q x z f) =
    let i = one_steps t.rows t.deps t.counts.rows r p q x s z in
    e ∙ ap (λ (y : ℕ). Ok (record { row = y; earlier = p })) i.0 ∙ ap (λ (y : ℕ). Ok (record { row = q; earlier = y })) i.1 ∙ sym f

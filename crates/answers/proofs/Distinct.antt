-- No two refusals share a number, and none has 0, 8 or 13.
-- Assumes nothing.
use Prim.Native.Nat.{ℕ}
use mathlib.Core.Path.{◌≡◌, refl, sym, ap, ◌∙◌}
use native.Mathlib.Omega.{arith}
use mathlib.Core.List.{List, [], ◌∷◌}
use lib.ListN.{get_or}
use Rattle.answers.specs.Number.{number_of}
use Rattle.answers.specs.declared.Refusal.{Refusal}
use Rattle.answers.specs.declared.Refusal.TheVariants.{Store, Short, Size, Long, Kind, Flag, Sign, Index, Prev, Owner, Step, Dep, DepOwner}
use Rattle.answers.specs.declared.Refusal.TheVariants.{Full, State, Pair, Row, Frontier, Room, Unknown, Backstep, Whole, Payload, Ownerless, Component}

-- The refusals by their numbers; the places of 0, 8 and 13, which no refusal has, are filled with the first.
by_number : List Refusal
by_number =
    Store ∷ Store ∷ Short ∷ Size ∷ Long ∷ Kind ∷ Flag ∷ Sign ∷ Store ∷ Index ∷ Prev ∷ Owner ∷ Step ∷ Store ∷ Dep ∷ DepOwner ∷ Full
    ∷ State ∷ Pair ∷ Row ∷ Frontier ∷ Room ∷ Unknown ∷ Backstep ∷ Whole ∷ Payload ∷ Ownerless ∷ Component ∷ []

-- A refusal stands at its number.
found : (r : Refusal) → get_or by_number (number_of r) Store ≡ r
unfolding by_number
found Store = refl
found Short = refl
found Size = refl
found Long = refl
found Kind = refl
found Flag = refl
found Sign = refl
found Index = refl
found Prev = refl
found Owner = refl
found Step = refl
found Dep = refl
found DepOwner = refl
found Full = refl
found State = refl
found Pair = refl
found Row = refl
found Frontier = refl
found Room = refl
found Unknown = refl
found Backstep = refl
found Whole = refl
found Payload = refl
found Ownerless = refl
found Component = refl

-- Two refusals with one number are one.
pub one_number : (a b : Refusal) → number_of a ≡ number_of b → a ≡ b
one_number a b e = sym (found a) ∙ ap (λ (n : ℕ). get_or by_number n Store) e ∙ found b

-- No refusal has the number of HELD, which comes with a row.
pub not_held : (r : Refusal) → number_of r ≡ 8 → ⊥
unfolding by_number
not_held r e =
    let f : Store ≡ r = ap (λ (n : ℕ). get_or by_number n Store) (sym e) ∙ found r in
    let g : ◌≡◌ {A = ℕ} 1 8 = ap number_of f ∙ e in
    omega arith

-- No refusal has the number of an admission that was done.
pub not_done : (r : Refusal) → number_of r ≡ 0 → ⊥
unfolding by_number
not_done r e =
    let f : Store ≡ r = ap (λ (n : ℕ). get_or by_number n Store) (sym e) ∙ found r in
    let g : ◌≡◌ {A = ℕ} 1 0 = ap number_of f ∙ e in
    omega arith

-- No refusal has the number 13.
pub refusal_never_13 : (r : Refusal) → number_of r ≡ 13 → ⊥
unfolding by_number
refusal_never_13 r e =
    let f : Store ≡ r = ap (λ (n : ℕ). get_or by_number n Store) (sym e) ∙ found r in
    let g : ◌≡◌ {A = ℕ} 1 13 = ap number_of f ∙ e in
    omega arith

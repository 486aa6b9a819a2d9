-- What `array::from_fn` makes: at each place what the call there gave.
-- Assumes nothing.
use Rattle.std.proofs.Common.{◌≡◌, ℕ, zero, suc, ◌+◌, ◌≤◌, ◌<◌, List, length, get_or, sym, subst, ◌∙◌, arith}
use Rattle.std.proofs.lemmas.Grind.{same_number_lists}
use Rattle.std.specs.Fn.{Called}
use Rattle.std.specs.Array.{IsFromFnResult, IsFromFnResultFrom}
use denote.Param.Members.{Mut}
use mathlib.Core.Logic.{⊎_elim}
use native.Mathlib.Nat.{eq-or-lt_of_le}

-- Each call of the function at a place below `n` leaves it as it was and gives what the list has there.
abbrev pub Gives : {F : Type 0} → Mut F (ℕ × Unit {0}) ℕ → F → List ℕ → ℕ → Type 0
Gives {F} g f l n = (i y : ℕ) (q : F) → i < n → Called g f (i, tt) y q → (q ≡ f) × (y ≡ get_or l i 0)

module _ {F : Type 0} {g : Mut F (ℕ × Unit {0}) ℕ} (f : F) (l ys : List ℕ) where
  -- So the calls from place i on give what the list has there.
  each_made : (n i m : ℕ) → i + n ≤ m → Gives g f l m → IsFromFnResultFrom g f ys i n → (j : ℕ) → i ≤ j → j < i + n → get_or ys j 0 ≡ get_or l j 0
  each_made zero i m h gives e j low high = absurd (omega arith)
  each_made (suc n) i m h gives e j low high =
      let k = gives i e.1 e.0 (omega arith) e.3 in
      ⊎_elim (λ (p : i ≡ j). subst (λ (t : ℕ). get_or ys t 0 ≡ get_or l t 0) p (e.2.1 0 ∙ k.1))
      (λ (p : i < j). each_made n (i + 1) m (omega arith) gives (subst (λ (q : F). IsFromFnResultFrom g q ys (i + 1) n) k.0 e.4) j (omega arith) (omega arith))
      (eq-or-lt_of_le low)

  -- And all of them give the list.
  pub made : (n : ℕ) → length l ≡ n → IsFromFnResult g f ys n → Gives g f l n → ys ≡ l
  made n k e gives = same_number_lists ys l (e.long ∙ sym k) (λ j h. each_made n 0 n (omega arith) gives e.each j (omega arith) (omega (arith, e.long)))

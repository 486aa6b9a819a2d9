-- What the C function that takes in a whole intake promises; and admissions one by one through the C function.
-- Assumes nothing.
use Rattle.answers.specs.declared.Refusal.{Refusal}
use Rattle.std.specs.Prelude.{ℕ, ◌≡◌, List, [], ◌∷◌, length, Result}
use Rattle.answers.specs.Answers.{written_number, written_count}
use Rattle.morning.specs.Intake.{Kept, TakesIn}
use Rattle.plain.specs.declared.AdmitAnswer.{AdmitAnswer}
use Rattle.plain.specs.declared.taking.IntakeAnswer.{IntakeAnswer}
use Rattle.host.specs.Calls.{AdmitsPlainly}

-- What `snowknoll_take_in` promises of what is kept before, the origin `g`, the stretch of items `s` and the list `l` before; and of what is
-- kept after, with the answer's counts, and the list after.
pub record TakesInPlainly (k : Kept) (g : ℕ) (s l : List ℕ) (k' : Kept) (l' : List ℕ) (r : IntakeAnswer) : Type 0 where
  pub answer : Result ℕ Refusal
  pub takes : TakesIn k g s l k' l' answer
  pub number : r.number ≡ written_number answer
  pub items : r.items ≡ written_count answer

-- Calls of `snowknoll_admit` one by one, in order, all with one origin: what is kept before, the items, what is kept after, and the number
-- and the row of each answer.
pub data AdmittedPlainly (g : ℕ) : Kept → List (List ℕ) → Kept → List ℕ → Type 0 where
  none_left : (k : Kept) → AdmittedPlainly g k [] k []
  one_more : (k : Kept) (i : List ℕ) (l : Kept) (r : AdmitAnswer) (is : List (List ℕ)) (m : Kept) (given : List ℕ)
      → AdmitsPlainly k.store k.origins g i l.store l.origins r → AdmittedPlainly g l is m given
      → AdmittedPlainly g k (i ∷ is) m (r.number ∷ r.row ∷ given)

-- Document 02, §9: "Two stores that differ only in origins", of which both have as many.
pub record OnlyOriginsDiffer (k m : Kept) : Type 0 where
  pub store : k.store ≡ m.store
  pub many : length k.origins ≡ length m.origins

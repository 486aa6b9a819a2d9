-- What is certain of the plain answer of a writing: there is one, and reading the bytes gives the same fields.
-- Assumes nothing.
use Rattle.std.specs.Prelude.{Result, Ok, Err}
use Rattle.answers.specs.declared.Refusal.{Refusal}
use Prim.Native.Nat.{ℕ, ◌<◌}
use mathlib.Core.Path.{◌≡◌, sym, ap, subst, ◌∙◌}
use mathlib.Core.List.{List}
use lib.ListN.{take, drop}
use Rattle.answers.proofs.Distinct.{not_done}
use Rattle.writing.specs.Message.{Message}
use Rattle.writing.specs.Writing.{WritesItem}
use Rattle.writing.specs.Reading.{ReadsBack}
use Rattle.writing.proofs.Theorems.{one_writing, read_back, rest_stays}
use Rattle.plain.specs.declared.CountAnswer.{CountAnswer}
use Rattle.plain.specs.Plain.{written_answer}
use Rattle.host.specs.Writing.{WritesPlainly}

-- A writing has one count, and leaves one buffer.
pub one_plain_writing : (m : Message) (out x z : List ℕ) (r q : CountAnswer) → WritesPlainly m out x r → WritesPlainly m out z q → (r ≡ q) × (x ≡ z)
one_plain_writing m out x z r q p s =
    let e = one_writing m out x z p.answer s.answer p.promised s.promised in
    (p.plainly ∙ ap written_answer e.0 ∙ sym s.plainly, e.1)

-- With the number 0, the bytes counted are an item with the fields of the message, and the bytes after it stay.
pub written_on_zero : (m : Message) (out x : List ℕ) (r : CountAnswer) → m.index < 4294967296 → WritesPlainly m out x r → r.number ≡ 0
    → ReadsBack m (take r.count x) × (drop r.count x ≡ drop r.count out)
written_on_zero m out x r h p e = given p.answer p.promised p.plainly
  where
    given : (w : Result ℕ Refusal) → WritesItem m out x w → r ≡ written_answer w → ReadsBack m (take r.count x) × (drop r.count x ≡ drop r.count out)
    given (Ok n) w f = let c = ap (λ y. y.count) f in rw c (read_back m out x n w h, rest_stays m out x n w)
    given (Err why) w f = absurd (not_done why (sym (ap (λ y. y.number) f) ∙ e))

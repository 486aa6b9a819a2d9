-- What is certain of the plain answers of a writing and a reading of a standing: there is one.
-- Assumes nothing.
use Prim.Native.Nat.{ℕ}
use mathlib.Core.Path.{◌≡◌, sym, ap, ◌∙◌}
use mathlib.Core.List.{List}
use Rattle.store.specs.Table.{Table}
use Rattle.standing.proofs.Once.{writes_once, reads_once}
use Rattle.plain.specs.declared.CountAnswer.{CountAnswer}
use Rattle.plain.specs.Plain.{written_answer}
use Rattle.host.specs.Standing.{SendsPlainly, ReceivesPlainly}

-- A standing written has one count, and leaves one output.
pub one_plain_sending : (t : Table) (f out x z : List ℕ) (r q : CountAnswer) → SendsPlainly t f out x r → SendsPlainly t f out z q → (r ≡ q) × (x ≡ z)
one_plain_sending t f out x z r q p s =
    let e = writes_once t f out x z p.answer s.answer p.promised s.promised in
    (p.plainly ∙ ap written_answer e.0 ∙ sym s.plainly, e.1)

-- A standing read has one count, and leaves one output.
pub one_plain_receiving : (u : Table) (i out x z : List ℕ) (r q : CountAnswer) → ReceivesPlainly u i out x r → ReceivesPlainly u i out z q
    → (r ≡ q) × (x ≡ z)
one_plain_receiving u i out x z r q p s =
    let e = reads_once u i out x z p.answer s.answer p.promised s.promised in
    (p.plainly ∙ ap written_answer e.0 ∙ sym s.plainly, e.1)

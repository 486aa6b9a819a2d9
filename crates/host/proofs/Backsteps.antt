-- The catalogue's calls in plain form: each has one answer.
-- Assumes nothing.
use Prim.Native.Nat.{ℕ}
use mathlib.Core.Path.{◌≡◌, sym, ap, subst, ◌∙◌}
use mathlib.Core.List.{List}
use lib.ListN.{length}
use Rattle.store.specs.Table.{Table}
use Rattle.admission.specs.Answer.{answer_number, answer_row}
use Rattle.catalogue.specs.Profile.{AdmitsUnder}
use Rattle.catalogue.proofs.Unique.{one_steady, one_backstep}
use Rattle.catalogue.proofs.Theorems.{one_admission_under, only_origins_differ_under}
use Rattle.plain.specs.declared.YesAnswer.{YesAnswer}
use Rattle.plain.specs.declared.AdmitAnswer.{AdmitAnswer}
use Rattle.plain.specs.declared.backsteps.BackstepAnswer.{BackstepAnswer}
use Rattle.host.specs.Catalogue.{TellsPlainly, NamesPlainly, CataloguesPlainly}
use Rattle.host.proofs.Theorems.{plainly_once}

-- A store has one yes or no,
pub one_plain_steady : (t : Table) (r q : YesAnswer) → TellsPlainly t r → TellsPlainly t q → r ≡ q
one_plain_steady t r q = plainly_once (one_steady t)

-- one lowest backstep, or none,
pub one_plain_backstep : (t : Table) (r q : BackstepAnswer) → NamesPlainly t r → NamesPlainly t q → r ≡ q
one_plain_backstep t r q = plainly_once (one_backstep t)

-- and one admission, with one store and the origins that it leaves.
pub one_plain_catalogue : (t : Table) (o : List ℕ) (g : ℕ) (s : List ℕ) (u v : Table) (o' p' : List ℕ) (r q : AdmitAnswer)
    → CataloguesPlainly t o g s u o' r → CataloguesPlainly t o g s v p' q → ((r.number ≡ q.number) × (r.row ≡ q.row)) × ((u ≡ v) × (o' ≡ p'))
one_plain_catalogue t o g s u v o' p' r q a b =
    let e = one_admission_under t o g s u v o' p' a.answer b.answer a.admits b.admits in (
      (a.number ∙ ap answer_number e.0 ∙ sym b.number, a.row ∙ ap answer_row e.0 ∙ sym b.row),
      e.1,
    )

-- Document 02, §9: "Two stores that differ only in origins give the same answer", and leave the same other parts.
pub plain_catalogue_origins : (t : Table) (o p : List ℕ) (g h : ℕ) (s : List ℕ) (u v : Table) (o' p' : List ℕ) (r q : AdmitAnswer) → length o ≡ length p
    → CataloguesPlainly t o g s u o' r → CataloguesPlainly t p h s v p' q → ((r.number ≡ q.number) × (r.row ≡ q.row)) × (u ≡ v)
plain_catalogue_origins t o p g h s u v o' p' r q l a b =
    let e = only_origins_differ_under t o p g h s u v o' p' a.answer b.answer l a.admits b.admits in (
      (a.number ∙ ap answer_number e.0 ∙ sym b.number, a.row ∙ ap answer_row e.0 ∙ sym b.row),
      e.1,
    )

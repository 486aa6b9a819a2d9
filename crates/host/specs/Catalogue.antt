-- What the C functions of the catalogue promise: document 02, §7.
-- Assumes nothing.
use Rattle.std.specs.Prelude.{ℕ, ◌≡◌, List}
use Rattle.store.specs.Table.{Table}
use Rattle.admission.specs.Answer.{answer_number, answer_row}
use Rattle.admission.specs.declared.Admitted.{Admitted}
use Rattle.catalogue.specs.Calls.{TellsSteady, NamesBackstep}
use Rattle.catalogue.specs.Profile.{AdmitsUnder}
use Rattle.plain.specs.declared.YesAnswer.{YesAnswer}
use Rattle.plain.specs.declared.AdmitAnswer.{AdmitAnswer}
use Rattle.plain.specs.declared.backsteps.BackstepAnswer.{BackstepAnswer}
use Rattle.plain.specs.Plain.{choice_answer}
use Rattle.plain.specs.Backsteps.{backstep_answer}
use Rattle.host.specs.Calls.{Plainly}

-- What `snowknoll_steady` promises.
abbrev pub TellsPlainly : Table → YesAnswer → Type 0
TellsPlainly t r = Plainly _ _ (TellsSteady t) choice_answer r

-- What `snowknoll_backstep` promises.
abbrev pub NamesPlainly : Table → BackstepAnswer → Type 0
NamesPlainly t r = Plainly _ _ (NamesBackstep t) backstep_answer r

-- What `snowknoll_admit_catalogue` promises of the store `t` and the origins `o` before, the origin `g` that is given, the item `s`, and the
-- store `u`, which has the answer's counts, and the origins `o'` after.
pub record CataloguesPlainly (t : Table) (o : List ℕ) (g : ℕ) (s : List ℕ) (u : Table) (o' : List ℕ) (r : AdmitAnswer) : Type 0 where
  pub answer : Admitted
  pub admits : AdmitsUnder t o g s u o' answer
  pub number : r.number ≡ answer_number answer
  pub row : r.row ≡ answer_row answer

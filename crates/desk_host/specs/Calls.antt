-- What the desk's C functions promise: the promise of the call that each is thin over, of an answer whose plain form it returns.
-- Assumes nothing.
use Rattle.answers.specs.declared.Refusal.{Refusal}
use Rattle.releases.specs.declared.Shown.{Shown}
use Rattle.std.specs.Prelude.{ℕ, ◌≡◌, List, Option, Result}
use Rattle.store.specs.Table.{Table}
use Rattle.admission.specs.Answer.{answer_number, answer_row}
use Rattle.admission.specs.declared.Admitted.{Admitted}
use Rattle.plain.specs.declared.AdmitAnswer.{AdmitAnswer}
use Rattle.desk.specs.Desk.{Desk, DeskAdmits}
use Rattle.releases.specs.Calls.{Answers, current_number, shown_row, shown_index, shown_expanded, shown_frozen}
use Rattle.desk_host.specs.declared.ReleaseAnswer.{ReleaseAnswer}

-- The numbers of a current release: row 0 says that there is none.
abbrev pub release_answer : Result (Option Shown) Refusal → ReleaseAnswer
release_answer a =
    record { number = current_number a; row = shown_row a; index = shown_index a; expanded = shown_expanded a; frozen = shown_frozen a }

-- What `snowknoll_desk_admit` promises of the store `t` and the desk `d` before, the origin `g` that is given, the item `s`, and the store `u`,
-- which has the answer's counts, and the desk `d'` after.
pub record DeskPlainly (t : Table) (d : Desk) (g : ℕ) (s : List ℕ) (u : Table) (d' : Desk) (r : AdmitAnswer) : Type 0 where
  pub answer : Admitted
  pub admits : DeskAdmits t d g s u d' answer
  pub number : r.number ≡ answer_number answer
  pub row : r.row ≡ answer_row answer

-- What `snowknoll_current_release` promises of the store `t`, the frontier `f`, the columns `cs` and `es`, the table of owners and the component `c`.
pub record ShowsPlainly (t : Table) (f cs es owners : List ℕ) (c : ℕ) (r : ReleaseAnswer) : Type 0 where
  pub answer : Result (Option Shown) Refusal
  pub promised : Answers t f cs es owners c answer
  pub plainly : r ≡ release_answer answer

-- Some C function of the desk, by its promise, may answer the number `n`: over whatever it is lent.
pub data DeskAnswered (n : ℕ) : Type 0 where
  desk_admit : (t : Table) (d : Desk) (g : ℕ) (s : List ℕ) (u : Table) (d' : Desk) (r : AdmitAnswer) → DeskPlainly t d g s u d' r → r.number ≡ n
      → DeskAnswered n
  current_release : (t : Table) (f cs es owners : List ℕ) (c : ℕ) (r : ReleaseAnswer) → ShowsPlainly t f cs es owners c r → r.number ≡ n → DeskAnswered n

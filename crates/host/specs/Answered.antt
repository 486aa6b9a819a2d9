-- The numbers that the C functions answer: one case for each function that has an answer number. The two lookups have none: they give a
-- row or an author.
-- Assumes nothing.
use Rattle.std.specs.Prelude.{ℕ, ◌≡◌, List}
use Rattle.item.specs.Layout.{layout_of}
use Rattle.store.specs.Table.{Table}
use Rattle.writing.specs.Message.{Message}
use Rattle.plain.specs.declared.states.State.{State}
use Rattle.plain.specs.declared.PrefixAnswer.{PrefixAnswer}
use Rattle.plain.specs.declared.StateAnswer.{StateAnswer}
use Rattle.plain.specs.declared.YesAnswer.{YesAnswer}
use Rattle.plain.specs.declared.CountAnswer.{CountAnswer}
use Rattle.plain.specs.declared.AdmitAnswer.{AdmitAnswer}
use Rattle.plain.specs.declared.OriginAnswer.{OriginAnswer}
use Rattle.plain.specs.declared.backsteps.BackstepAnswer.{BackstepAnswer}
use Rattle.plain.specs.declared.ItemAnswer.{ItemAnswer}
use Rattle.plain.specs.declared.StretchAnswer.{StretchAnswer}
use Rattle.plain.specs.Plain.{item_answer, stretch_answer}
use Rattle.host.specs.Calls.{PrefixesPlainly, AppendsPlainly, MergesPlainly, ComparesPlainly, ChecksPlainly, FrontiersComparePlainly}
use Rattle.host.specs.Calls.{MergesIntoPlainly, AppendsEntryPlainly, PacksPlainly, ListsPlainly, AdmitsPlainly, ReportsPlainly, Inspects, WritesId}
use Rattle.host.specs.Standing.{SendsPlainly, ReceivesPlainly}
use Rattle.host.specs.Writing.{WritesPlainly}
use Rattle.morning.specs.Intake.{Kept}
use Rattle.plain.specs.declared.taking.IntakeAnswer.{IntakeAnswer}
use Rattle.host.specs.Taking.{TakesInPlainly}
use Rattle.host.specs.Catalogue.{TellsPlainly, NamesPlainly, CataloguesPlainly}
use Rattle.rescue.specs.Salvaging.{Lent}
use Rattle.host.specs.declared.rescuing.SalvageAnswer.{SalvageAnswer}
use Rattle.host.specs.Rescuing.{SalvagesPlainly}

-- Some C function, by its promise, may answer the number `n`: over whatever it is lent.
pub data Answered (n : ℕ) : Type 0 where
  layout : (s : List ℕ) (r : ItemAnswer) → r ≡ item_answer (layout_of s) → r.number ≡ n → Answered n
  payload : (s : List ℕ) (r : StretchAnswer) → r ≡ stretch_answer (layout_of s) → r.number ≡ n → Answered n
  id : (s id id' : List ℕ) → WritesId s id id' n → Answered n
  well_formed : (t : Table) → Inspects t n → Answered n
  -- `snowknoll_admit` and `snowknoll_admit_at`
  admit : (t : Table) (o : List ℕ) (g : ℕ) (s : List ℕ) (u : Table) (o' : List ℕ) (r : AdmitAnswer) → AdmitsPlainly t o g s u o' r → r.number ≡ n → Answered n
  origin : (t : Table) (o : List ℕ) (x : ℕ) (r : OriginAnswer) → ReportsPlainly t o x r → r.number ≡ n → Answered n
  prefix : (t : Table) (a b : ℕ) (r : PrefixAnswer) → PrefixesPlainly t a b r → r.number ≡ n → Answered n
  append : (t : Table) (s : State) (x : ℕ) (r : StateAnswer) → AppendsPlainly t s x r → r.number ≡ n → Answered n
  merge : (t : Table) (a b : State) (r : StateAnswer) → MergesPlainly t a b r → r.number ≡ n → Answered n
  at_or_below : (t : Table) (a b : State) (r : YesAnswer) → ComparesPlainly t a b r → r.number ≡ n → Answered n
  valid_frontier : (t : Table) (f : List ℕ) (r : YesAnswer) → ChecksPlainly t f r → r.number ≡ n → Answered n
  frontier_at_or_below : (t : Table) (f g : List ℕ) (r : YesAnswer) → FrontiersComparePlainly t f g r → r.number ≡ n → Answered n
  merge_frontiers : (t : Table) (f g out out' : List ℕ) (r : CountAnswer) → MergesIntoPlainly t f g out out' r → r.number ≡ n → Answered n
  append_entry : (t : Table) (f : List ℕ) (used x : ℕ) (f' : List ℕ) (r : CountAnswer) → AppendsEntryPlainly t f used x f' r → r.number ≡ n → Answered n
  packing_list : (t : Table) (f out out' : List ℕ) (r : CountAnswer) → PacksPlainly t f out out' r → r.number ≡ n → Answered n
  write_standing : (t : Table) (f out out' : List ℕ) (r : CountAnswer) → SendsPlainly t f out out' r → r.number ≡ n → Answered n
  read_standing : (u : Table) (s out out' : List ℕ) (r : CountAnswer) → ReceivesPlainly u s out out' r → r.number ≡ n → Answered n
  write_item : (m : Message) (out out' : List ℕ) (r : CountAnswer) → WritesPlainly m out out' r → r.number ≡ n → Answered n
  branches : (t : Table) (s : State) (out out' : List ℕ) (r : CountAnswer) → ListsPlainly t s out out' r → r.number ≡ n → Answered n
  take_in : (k : Kept) (g : ℕ) (s l : List ℕ) (k' : Kept) (l' : List ℕ) (r : IntakeAnswer) → TakesInPlainly k g s l k' l' r → r.number ≡ n → Answered n
  steady : (t : Table) (r : YesAnswer) → TellsPlainly t r → r.number ≡ n → Answered n
  backstep : (t : Table) (r : BackstepAnswer) → NamesPlainly t r → r.number ≡ n → Answered n
  admit_catalogue : (t : Table) (o : List ℕ) (g : ℕ) (s : List ℕ) (u : Table) (o' : List ℕ) (r : AdmitAnswer) → CataloguesPlainly t o g s u o' r
      → r.number ≡ n → Answered n
  salvage : (stick : List ℕ) (l l' : Lent) (r : SalvageAnswer) → SalvagesPlainly stick l l' r → r.number ≡ n → Answered n

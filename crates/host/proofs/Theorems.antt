-- What is certain of the plain answers: each call has one, a state is given exactly on 0, and numbers that are no state are 17.
-- Assumes nothing.
use Rattle.std.specs.Prelude.{Result, Ok, Err}
use Rattle.answers.specs.declared.Refusal.{Refusal}
use Prim.Native.Nat.{ℕ}
use mathlib.Core.Path.{◌≡◌, sym, ap, ◌∙◌}
use mathlib.Core.Logic.{◌⊎◌}
use mathlib.Core.List.{List}
use lib.ListN.{length}
use Rattle.answers.proofs.Distinct.{not_done}
use Rattle.basics.specs.Bytes.{Bytes}
use Rattle.store.specs.Table.{Table, WellFormed}
use Rattle.admission.specs.Answer.{answer_number, answer_row}
use Rattle.origins.proofs.Theorems.{one_admission, only_origins_differ, one_report}
use Rattle.logs.specs.Calls.{Merges, MergeDone, Appends, AppendDone}
use Rattle.logs.specs.declared.LogState.{LogState}
use Rattle.logs.proofs.Agreement.{one_prefix, one_append, one_merge, one_order}
use Rattle.frontiers.proofs.Answers.{merge_answers_once}
use Rattle.frontiers.proofs.Once.{append_answers_once, check_answers_once, compare_answers_once}
use Rattle.packing.proofs.Checked.{answers_unique}
use Rattle.review.proofs.Theorems.{one_answer as one-review}
use Rattle.plain.specs.declared.states.State.{State}
use Rattle.plain.specs.declared.PrefixAnswer.{PrefixAnswer}
use Rattle.plain.specs.declared.StateAnswer.{StateAnswer}
use Rattle.plain.specs.declared.YesAnswer.{YesAnswer}
use Rattle.plain.specs.declared.CountAnswer.{CountAnswer}
use Rattle.plain.specs.declared.AdmitAnswer.{AdmitAnswer}
use Rattle.plain.specs.declared.OriginAnswer.{OriginAnswer}
use Rattle.plain.specs.Plain.{log_of, five_of, state_answer, written_answer, IsState}
use Rattle.rescue.specs.Salvaging.{Lent}
use Rattle.rescue.proofs.Calls.{one_salvage}
use Rattle.host.specs.declared.rescuing.SalvageAnswer.{SalvageAnswer}
use Rattle.host.specs.Rescuing.{salvage_answer, SalvagesPlainly}
use Rattle.host.specs.Calls.{Plainly, PrefixesPlainly, AppendsPlainly, MergesPlainly, ComparesPlainly, ChecksPlainly}
use Rattle.host.specs.Calls.{FrontiersComparePlainly, MergesIntoPlainly, AppendsEntryPlainly, PacksPlainly, AdmitsPlainly, ReportsPlainly}
use Rattle.host.specs.Calls.{ListsPlainly}
use Rattle.plain.proofs.Theorems.{no_state_17}

-- ONE ANSWER

-- Where a promise has one answer, its plain form has one.
pub plainly_once : {A B : Type 0} {P : A → Type 0} {plain : A → B} {r q : B} → ((x y : A) → P x → P y → x ≡ y) → Plainly B A P plain r → Plainly B A P
    plain q → r ≡ q
plainly_once {plain = plain} o p s = p.plainly ∙ ap plain (o p.answer s.answer p.promised s.promised) ∙ sym s.plainly

module _ (t : Table) (y : Bytes t.ids) where
  pub one_plain_prefix : (a b : ℕ) (r q : PrefixAnswer) → PrefixesPlainly t a b r → PrefixesPlainly t a b q → r ≡ q
  one_plain_prefix a b r q = plainly_once (one_prefix t y a b)

  pub one_plain_append : (s : State) (x : ℕ) (r q : StateAnswer) → AppendsPlainly t s x r → AppendsPlainly t s x q → r ≡ q
  one_plain_append s x r q = plainly_once (one_append t y (log_of s) x)

  pub one_plain_merge : (a b : State) (r q : StateAnswer) → MergesPlainly t a b r → MergesPlainly t a b q → r ≡ q
  one_plain_merge a b r q = plainly_once (one_merge t y (log_of a) (log_of b))

  pub one_plain_order : (a b : State) (r q : YesAnswer) → ComparesPlainly t a b r → ComparesPlainly t a b q → r ≡ q
  one_plain_order a b r q = plainly_once (one_order t y (log_of a) (log_of b))

  -- A merged frontier has one count, and leaves one output.
  pub one_plain_frontier : (f g out x z : List ℕ) (r q : CountAnswer) → MergesIntoPlainly t f g out x r → MergesIntoPlainly t f g out z q → (r ≡ q) × (x ≡ z)
  one_plain_frontier f g out x z r q p s =
      let e = merge_answers_once t y f g out x z p.answer s.answer p.promised s.promised in
      (p.plainly ∙ ap written_answer e.0 ∙ sym s.plainly, e.1)

  -- An appended entry has one count, and leaves one list.
  pub one_plain_entry : (f : List ℕ) (used x : ℕ) (g h : List ℕ) (r q : CountAnswer) → AppendsEntryPlainly t f used x g r → AppendsEntryPlainly t f used x h q
      → (r ≡ q) × (g ≡ h)
  one_plain_entry f used x g h r q p s =
      let e = append_answers_once t y f used x g h p.answer s.answer p.promised s.promised in
      (p.plainly ∙ ap written_answer e.0 ∙ sym s.plainly, e.1)

-- Whether a list is a valid frontier has one answer.
pub one_plain_check : (t : Table) (f : List ℕ) (r q : YesAnswer) → ChecksPlainly t f r → ChecksPlainly t f q → r ≡ q
one_plain_check t f r q = plainly_once (check_answers_once t f)

-- So has the order of two frontiers.
pub one_plain_frontier_order : (t : Table) (f g : List ℕ) (r q : YesAnswer) → FrontiersComparePlainly t f g r → FrontiersComparePlainly t f g q → r ≡ q
one_plain_frontier_order t f g r q = plainly_once (compare_answers_once t f g)

-- A packing list has one count, and leaves one output.
pub one_plain_packing : (t : Table) (f out x z : List ℕ) (r q : CountAnswer) → PacksPlainly t f out x r → PacksPlainly t f out z q → (r ≡ q) × (x ≡ z)
one_plain_packing t f out x z r q p s =
    let e = answers_unique p.promised s.promised in
    (p.plainly ∙ ap written_answer e.0 ∙ sym s.plainly, e.1)

-- A list of branches has one count, and leaves one output.
pub one_plain_review : (t : Table) (s : State) (out x z : List ℕ) (r q : CountAnswer) → ListsPlainly t s out x r → ListsPlainly t s out z q → (r ≡ q) × (x ≡ z)
one_plain_review t s out x z r q p o =
    let e = one-review t (log_of s) out p.answer o.answer x z p.promised o.promised in
    (p.plainly ∙ ap written_answer e.0 ∙ sym o.plainly, e.1)

-- A salvage has one answer, and leaves one of all that is lent.
pub one_plain_salvage : (stick : List ℕ) (l x z : Lent) (r q : SalvageAnswer) → SalvagesPlainly stick l x r → SalvagesPlainly stick l z q → (r ≡ q) × (x ≡ z)
one_plain_salvage stick l x z r q p o =
    let e = one_salvage stick l x z p.answer o.answer p.promised o.promised in
    (p.plainly ∙ ap salvage_answer e.0 ∙ sym o.plainly, e.1)

-- Of two admissions with one answer: one number and one row.
same_plainly : (t : Table) (o p : List ℕ) (g h : ℕ) (s : List ℕ) (u v : Table) (o' p' : List ℕ) (r q : AdmitAnswer) (a : AdmitsPlainly t o g s u o' r)
    (b : AdmitsPlainly t p h s v p' q) → a.answer ≡ b.answer → (r.number ≡ q.number) × (r.row ≡ q.row)
same_plainly t o p g h s u v o' p' r q a b e =
    (a.number ∙ ap answer_number e ∙ sym b.number, a.row ∙ ap answer_row e ∙ sym b.row)

-- An admission has one number and one row, and leaves one store, counts included, and one list of origins.
pub one_plain_admission : (t : Table) (o : List ℕ) (g : ℕ) (s : List ℕ) (u v : Table) (o' p' : List ℕ) (r q : AdmitAnswer)
    → AdmitsPlainly t o g s u o' r → AdmitsPlainly t o g s v p' q → ((r.number ≡ q.number) × (r.row ≡ q.row)) × ((u ≡ v) × (o' ≡ p'))
one_plain_admission t o g s u v o' p' r q a b =
    let e = one_admission t o g s u v o' p' a.answer b.answer a.admits b.admits in
    (same_plainly t o o g g s u v o' p' r q a b e.0, e.1)

-- Document 02, §9: "Two stores that differ only in origins give the same answer", and leave the same other parts: whatever the origins hold
-- and whichever is given.
pub plain_origins_differ : (t : Table) (o p : List ℕ) (g h : ℕ) (s : List ℕ) (u v : Table) (o' p' : List ℕ) (r q : AdmitAnswer) → length o ≡ length p
    → AdmitsPlainly t o g s u o' r → AdmitsPlainly t p h s v p' q → ((r.number ≡ q.number) × (r.row ≡ q.row)) × (u ≡ v)
plain_origins_differ t o p g h s u v o' p' r q l a b =
    let e = only_origins_differ t o p g h s u v o' p' a.answer b.answer l a.admits b.admits in
    (same_plainly t o p g h s u v o' p' r q a b e.0, e.1)

-- The report of a row's origin has one answer.
pub one_plain_origin : (t : Table) (o : List ℕ) (x : ℕ) (r q : OriginAnswer) → ReportsPlainly t o x r → ReportsPlainly t o x q → r ≡ q
one_plain_origin t o x r q = plainly_once (one_report t o x)

-- A STATE EXACTLY ON 0

-- The merge that an answer with the number 0 gives.
pub record MergedPlain (t : Table) (a b : State) (r : StateAnswer) : Type 0 where
  pub merged : LogState
  pub done : MergeDone t (log_of a) (log_of b) merged
  pub five : r.state ≡ five_of merged

-- The number 0 is given with the merge.
pub merge_on_zero : (t : Table) (a b : State) (r : StateAnswer) → MergesPlainly t a b r → r.number ≡ 0 → MergedPlain t a b r
unfolding state_answer
merge_on_zero t a b r p e = given p.answer p.promised p.plainly
  where
    given : (m : Result LogState Refusal) → Merges t (log_of a) (log_of b) m → r ≡ state_answer m → MergedPlain t a b r
    given (Ok k) d f = record { merged = k; done = d; five = ap (λ x. x.state) f }
    given (Err why) d f = absurd (not_done why (sym (ap (λ x. x.number) f) ∙ e))

-- The append that an answer with the number 0 gives.
pub record AppendedPlain (t : Table) (s : State) (x : ℕ) (r : StateAnswer) : Type 0 where
  pub appended : LogState
  pub done : AppendDone t (log_of s) x appended
  pub five : r.state ≡ five_of appended

-- The number 0 is given with the append.
pub append_on_zero : (t : Table) (s : State) (x : ℕ) (r : StateAnswer) → AppendsPlainly t s x r → r.number ≡ 0 → AppendedPlain t s x r
unfolding state_answer
append_on_zero t s x r p e = given p.answer p.promised p.plainly
  where
    given : (m : Result LogState Refusal) → Appends t (log_of s) x m → r ≡ state_answer m → AppendedPlain t s x r
    given (Ok k) d f = record { appended = k; done = d; five = ap (λ x. x.state) f }
    given (Err why) d f = absurd (not_done why (sym (ap (λ x. x.number) f) ∙ e))

-- NUMBERS THAT ARE NO STATE

-- A merge with five numbers that are no state is answered 17.
pub no_state_merge_17 : (t : Table) (a b : State) (r : StateAnswer) → WellFormed t → (IsState a → ⊥) ⊎ (IsState b → ⊥) → MergesPlainly t a b r → r.number ≡ 17
no_state_merge_17 t a b r w h p = ap (λ x. x.number) p.plainly ∙ no_state_17 t a b p.answer w h p.promised

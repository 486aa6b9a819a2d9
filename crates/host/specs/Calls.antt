-- What each C function promises: the promise of the call that it is thin over, of an answer whose plain form it returns.
-- Assumes nothing.
use Rattle.answers.specs.declared.Refusal.{Refusal}
use Rattle.item.specs.declared.Fields.{Fields}
use Rattle.std.specs.Prelude.{ℕ, ◌/◌, min, ◌≡◌, List, length, Result, Ok, Err}
use Rattle.basics.specs.Chunk.{chunk_size}
use Rattle.chunks.specs.Lookup.{place_of}
use Rattle.item.specs.Layout.{layout_of}
use Rattle.item.specs.Answers.{layout_number}
use Rattle.item.specs.Id.{id_of}
use Rattle.store.specs.Table.{Table, WellFormed}
use Rattle.admission.specs.Answer.{answer_number, answer_row}
use Rattle.admission.specs.declared.Admitted.{Admitted}
use Rattle.origins.specs.Origins.{AdmitsFrom, Reports}
use Rattle.logs.specs.Calls.{Prefixes, Appends, Merges, ComparesStates}
use Rattle.frontiers.specs.Calls.{ChecksFrontier, MergesInto, ComparesFrontiers}
use Rattle.frontiers.specs.Appending.{AppendsEntry}
use Rattle.packing.specs.Packing.{Answers}
use Rattle.review.specs.Calls.{ListsBranches}
use Rattle.plain.specs.declared.states.State.{State}
use Rattle.plain.specs.declared.PrefixAnswer.{PrefixAnswer}
use Rattle.plain.specs.declared.StateAnswer.{StateAnswer}
use Rattle.plain.specs.declared.YesAnswer.{YesAnswer}
use Rattle.plain.specs.declared.CountAnswer.{CountAnswer}
use Rattle.plain.specs.declared.AdmitAnswer.{AdmitAnswer}
use Rattle.plain.specs.declared.OriginAnswer.{OriginAnswer}
use Rattle.plain.specs.Plain.{log_of, prefix_answer, state_answer, choice_answer, written_answer, origin_answer}

-- `r` is the plain form of an answer of which `P` holds.
pub record Plainly (B : Type 0) (A : Type 0) (P : A → Type 0) (plain : A → B) (r : B) : Type 0 where
  pub answer : A
  pub promised : P answer
  pub plainly : r ≡ plain answer

-- STATES

-- What `snowknoll_prefix` promises.
abbrev pub PrefixesPlainly : Table → ℕ → ℕ → PrefixAnswer → Type 0
PrefixesPlainly t a b r = Plainly _ _ (Prefixes t a b) prefix_answer r

-- What `snowknoll_append` promises.
abbrev pub AppendsPlainly : Table → State → ℕ → StateAnswer → Type 0
AppendsPlainly t s x r = Plainly _ _ (Appends t (log_of s) x) state_answer r

-- What `snowknoll_merge` promises.
abbrev pub MergesPlainly : Table → State → State → StateAnswer → Type 0
MergesPlainly t a b r = Plainly _ _ (Merges t (log_of a) (log_of b)) state_answer r

-- What `snowknoll_at_or_below` promises.
abbrev pub ComparesPlainly : Table → State → State → YesAnswer → Type 0
ComparesPlainly t a b r = Plainly _ _ (ComparesStates t (log_of a) (log_of b)) choice_answer r

-- FRONTIERS AND PACKING LISTS: `out` is the output before the call, `out'` after it.

-- What `snowknoll_valid_frontier` promises.
abbrev pub ChecksPlainly : Table → List ℕ → YesAnswer → Type 0
ChecksPlainly t f r = Plainly _ _ (ChecksFrontier t f) choice_answer r

-- What `snowknoll_frontier_at_or_below` promises.
abbrev pub FrontiersComparePlainly : Table → List ℕ → List ℕ → YesAnswer → Type 0
FrontiersComparePlainly t f g r = Plainly _ _ (ComparesFrontiers t f g) choice_answer r

-- What `snowknoll_merge_frontiers` promises.
abbrev pub MergesIntoPlainly : Table → List ℕ → List ℕ → List ℕ → List ℕ → CountAnswer → Type 0
MergesIntoPlainly t f g out out' r = Plainly _ _ (MergesInto t f g out out') written_answer r

-- What `snowknoll_append_entry` promises of a list `f` before the call and `f'` after it.
abbrev pub AppendsEntryPlainly : Table → List ℕ → ℕ → ℕ → List ℕ → CountAnswer → Type 0
AppendsEntryPlainly t f used x f' r = Plainly _ _ (AppendsEntry t f used x f') written_answer r

-- What `snowknoll_packing_list` promises.
abbrev pub PacksPlainly : Table → List ℕ → List ℕ → List ℕ → CountAnswer → Type 0
PacksPlainly t f out out' r = Plainly _ _ (Answers t f out out') written_answer r

-- What `snowknoll_branches` promises.
abbrev pub ListsPlainly : Table → State → List ℕ → List ℕ → CountAnswer → Type 0
ListsPlainly t s out out' r = Plainly _ _ (ListsBranches t (log_of s) out out') written_answer r

-- ADMISSION

-- What `snowknoll_admit` promises of the store `t` and the origins `o` before, the origin `g` that is given, the item `s`, and the store `u`,
-- which has the answer's counts, and the origins `o'` after.
pub record AdmitsPlainly (t : Table) (o : List ℕ) (g : ℕ) (s : List ℕ) (u : Table) (o' : List ℕ) (r : AdmitAnswer) : Type 0 where
  pub answer : Admitted
  pub admits : AdmitsFrom t o g s u o' answer
  pub number : r.number ≡ answer_number answer
  pub row : r.row ≡ answer_row answer

-- What `snowknoll_origin` promises of the store `t`, the origins `o` and the row `x`.
abbrev pub ReportsPlainly : Table → List ℕ → ℕ → OriginAnswer → Type 0
ReportsPlainly t o x r = Plainly _ _ (Reports t o x) origin_answer r

-- THE STORE

-- What `snowknoll_well_formed` promises: 0 exactly where the store is well formed, 1 exactly where it is not.
pub data Inspects (t : Table) (n : ℕ) : Type 0 where
  sound : n ≡ 0 → WellFormed t → Inspects t n
  damaged : n ≡ 1 → (WellFormed t → ⊥) → Inspects t n

-- The first of the first `count` pieces of 32 bytes, or of as many as the part holds whole, that is `x`; 0 where none is.
abbrev pub place_among : List ℕ → ℕ → List ℕ → ℕ
place_among part count x = place_of part (min count (length part / chunk_size)) x

-- ITEMS

-- The 32 bytes after a reading: the item's id, or what they were where it is refused.
abbrev pub id_then : Result Fields Refusal → List ℕ → List ℕ → List ℕ
id_then (Ok f) s id = id_of s
id_then (Err r) s id = id

-- What `snowknoll_id` promises of the item `s`, and of the 32 bytes before and after.
pub record WritesId (s id id' : List ℕ) (n : ℕ) : Type 0 where
  pub number : n ≡ layout_number (layout_of s)
  pub written : id' ≡ id_then (layout_of s) s id

-- One item judged against the store, and its row appended to its author's entry: "It appends each admitted row to its author's entry."
-- Assumes nothing.
use Rattle.std.specs.Prelude.{ℕ, ◌*◌, ◌≤◌, ◌≡◌, List, length, replicate, Ok, Err}
use Rattle.answers.specs.declared.Refusal.{Refusal}
use Rattle.basics.specs.Bytes.{Bytes}
use Rattle.store.specs.declared.lent.Counts.{Counts}
use Rattle.store.specs.Limits.{author_limit, row_limit}
use Rattle.store.specs.Table.{Table}
use Rattle.admission.specs.declared.Admitted.{Admitted}
use Rattle.admission.specs.declared.Admitted.TheVariants.{Done, Held, Refused}
use Rattle.morning.specs.Intake.{Kept, Sound, answer_to, kept_after}
use Rattle.frontiers.specs.Numbers.{entry_width}
use Rattle.frontiers.specs.Appending.{Appendable, AppendsTo, HoldsFrontier, AppendsEntry}

-- Document 02, §9: "the program gives 0".
abbrev pub origin : ℕ
origin = 0

-- The origins that the program lends: a byte for each row that a store may have, each 0.
abbrev pub no_origins : List ℕ
no_origins = replicate row_limit origin

-- The counts of an empty store.
abbrev pub none_counted : Counts
none_counted = record { rows = 0; authors = 0; deps = 0 }

-- How the intake stands between two items: the store is well formed, its ids are bytes as a lent part's are, its origins are those that the
-- program gives, the first `used` numbers of the list are a valid frontier over it, and the list has room for an entry of each author that a
-- store may have.
pub record InOrder (k : Kept) (f : List ℕ) (used : ℕ) : Type 0 where
  pub sound : Sound k
  pub bytes : Bytes k.store.ids
  pub origins : k.origins ≡ no_origins
  pub frontier : HoldsFrontier k.store f used
  pub room : author_limit * entry_width ≤ length f

-- The row may be appended to the frontier with no check of either, and for want of room it is not refused.
pub record MayAppend (ids rows : List ℕ) (counts : Counts) (f : List ℕ) (used x : ℕ) : Type 0 where
  pub ready : Appendable ids rows counts f used x
  pub never_refused : (f' : List ℕ) (why : Refusal) → AppendsTo ids rows counts f used x f' (Err why) → ⊥

-- The new row may be appended, where there is one.
abbrev pub MayEnter : List ℕ → List ℕ → Counts → List ℕ → ℕ → Admitted → Type 0
MayEnter ids rows counts f used a = (x : ℕ) → a ≡ Done x → MayAppend ids rows counts f used x

-- What becomes of a frontier after an admission's answer: a new row is appended, and any other answer changes nothing.
abbrev pub EnteredBy : (ℕ → List ℕ → ℕ → Type 0) → List ℕ → ℕ → Admitted → List ℕ → ℕ → Type 0
EnteredBy appended f used (Done x) f' used' = appended x f' used'
EnteredBy appended f used (Held x) f' used' = (f' ≡ f) × (used' ≡ used)
EnteredBy appended f used (Refused why) f' used' = (f' ≡ f) × (used' ≡ used)

-- The same of the lent parts, by what the inner function of the append promises: its answer is done, with how many numbers there are then.
abbrev pub EnteredTo : List ℕ → List ℕ → Counts → List ℕ → ℕ → Admitted → List ℕ → ℕ → Type 0
EnteredTo ids rows counts f used = EnteredBy (λ x f' used'. AppendsTo ids rows counts f used x f' (Ok used')) f used

-- The same of a store, by what the append promises that checks it.
abbrev pub Entered : Table → List ℕ → ℕ → Admitted → List ℕ → ℕ → Type 0
Entered u f used = EnteredBy (λ x f' used'. AppendsEntry u f used x f' (Ok used')) f used

-- The item is judged and entered: what is kept, the frontier's list and how many numbers it has, before and after. What is kept is what a
-- morning's intake keeps after the item, its row is entered by the same answer, and the intake stands then as it should between two items.
pub record JudgedAndEntered (k : Kept) (s f : List ℕ) (used : ℕ) (l : Kept) (f' : List ℕ) (used' : ℕ) : Type 0 where
  pub kept : l ≡ kept_after k origin s
  pub entered : Entered l.store f used (answer_to k s) f' used'
  pub in_order : InOrder l f' used'

-- What holds of how many numbers the frontier has, where an error is answered in its place.
pub record Untold (P : ℕ → Type 0) : Type 0 where
  pub used : ℕ
  pub holds : P used

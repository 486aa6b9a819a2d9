-- The promises of the calls on frontiers: for each answer why it is given, and what the output holds afterwards.
-- "Calls on frontiers: 1, 20 for the first then the second, 21."
-- Assumes nothing.
use Rattle.answers.specs.declared.Refusal.{Refusal}
use Rattle.std.specs.Prelude.{ℕ, ◌≤◌, ◌<◌, ◌≡◌, List, length, Bool, Result, Ok, Err}
use Rattle.std.proofs.Math.Seq.{paste}
use Rattle.basics.specs.Decides.{Decides}
use Rattle.answers.specs.Number.{number_of}
use Rattle.answers.specs.Answers.{checked_number}
use Rattle.store.specs.Table.{Table, WellFormed}
use Rattle.logs.specs.Held.{chain_of}
use Rattle.frontiers.specs.Entries.{Entry, flat, IsMerged, FrontierBelow}
use Rattle.frontiers.specs.Numbers.{entries_of, ValidFrontier}

-- A valid frontier over the table.
abbrev pub FrontierOf : Table → List ℕ → Type 0
FrontierOf t f = ValidFrontier (chain_of t) t.counts.authors f

-- `r` are the entries of the merged frontier of `f` and `g` over the table.
abbrev pub MergedOf : Table → List ℕ → List ℕ → List Entry → Type 0
MergedOf t f g r = IsMerged (chain_of t) (entries_of f) (entries_of g) r

-- The merged frontier stands at the start of the output, `n` numbers; "Room beyond it stays."
pub record MergedInto (t : Table) (f g out out' : List ℕ) (n : ℕ) : Type 0 where
  pub result : List Entry
  pub merged : MergedOf t f g result
  pub count : n ≡ length (flat result)
  pub fits : n ≤ length out
  pub content : out' ≡ paste out 0 (flat result) n

-- "output shorter than the result".
pub record NoRoomFor (t : Table) (f g out : List ℕ) : Type 0 where
  pub result : List Entry
  pub merged : MergedOf t f g result
  pub short : length out < length (flat result)

-- Two valid frontiers over a well_formed table.
pub record TwoFrontiers (t : Table) (f g : List ℕ) : Type 0 where
  pub well_formed : WellFormed t
  pub first : FrontierOf t f
  pub second : FrontierOf t g

-- WHY A CALL GIVES NOTHING: document 01's numbers, each with what holds where it is given, and that no earlier line held.

-- A frontier is not judged, with number `n`.
pub data NotChecked (t : Table) (n : ℕ) : Type 0 where
  not_well_formed : n ≡ 1 → (WellFormed t → ⊥) → NotChecked t n

-- Two frontiers are not compared, with number `n`.
pub data NotCompared (t : Table) (f g : List ℕ) (n : ℕ) : Type 0 where
  not_well_formed : n ≡ 1 → (WellFormed t → ⊥) → NotCompared t f g n
  first_not_valid : n ≡ 20 → WellFormed t → (FrontierOf t f → ⊥) → NotCompared t f g n
  second_not_valid : n ≡ 20 → WellFormed t → FrontierOf t f → (FrontierOf t g → ⊥) → NotCompared t f g n

-- Two frontiers are not merged, with number `n`: as they are not compared, or for want of room.
pub data NotMerged (t : Table) (f g out : List ℕ) (n : ℕ) : Type 0 where
  not_sound : NotCompared t f g n → NotMerged t f g out n
  no_room : n ≡ 21 → TwoFrontiers t f g → NoRoomFor t f g out → NotMerged t f g out n

-- THE PROMISES

-- What the tests of a call on two frontiers answer.
abbrev pub ChecksTwo : Table → List ℕ → List ℕ → Result (Unit {0}) Refusal → Type 0
ChecksTwo t f g (Ok tt) = TwoFrontiers t f g
ChecksTwo t f g (Err why) = NotCompared t f g (checked_number (Err why))

-- Whether a lent list is a valid frontier.
abbrev pub ChecksFrontier : Table → List ℕ → Result Bool Refusal → Type 0
ChecksFrontier t f (Ok b) = WellFormed t × Decides (FrontierOf t f) b
ChecksFrontier t f (Err why) = NotChecked t (number_of why)

-- Whether a frontier is at or below another.
abbrev pub ComparesFrontiers : Table → List ℕ → List ℕ → Result Bool Refusal → Type 0
ComparesFrontiers t f g (Ok b) = TwoFrontiers t f g × Decides (FrontierBelow (chain_of t) (entries_of f) (entries_of g)) b
ComparesFrontiers t f g (Err why) = NotCompared t f g (number_of why)

-- The merged frontier in the output; a refusal leaves the output as it was.
abbrev pub MergesInto : Table → List ℕ → List ℕ → List ℕ → List ℕ → Result ℕ Refusal → Type 0
MergesInto t f g out out' (Ok n) = TwoFrontiers t f g × MergedInto t f g out out' n
MergesInto t f g out out' (Err why) = NotMerged t f g out (number_of why) × (out' ≡ out)

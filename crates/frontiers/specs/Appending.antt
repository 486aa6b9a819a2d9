-- One row appended to its author's entry: "Append of a row is a merge with growing at that row."
-- Assumes nothing.
use Rattle.answers.specs.declared.Refusal.{Refusal}
use Rattle.std.specs.Prelude.{ℕ, ◌≤◌, ◌<◌, ◌≡◌, List, length, take, Result, Ok, Err}
use Rattle.answers.specs.Number.{number_of}
use Rattle.store.specs.declared.lent.Counts.{Counts}
use Rattle.store.specs.Limits.{author_limit}
use Rattle.store.specs.Table.{Table, WellFormed, row_at}
use Rattle.chains.specs.Chain.{growing}
use Rattle.logs.specs.Held.{chain, Sound}
use Rattle.frontiers.specs.Entries.{numbers}
use Rattle.frontiers.specs.Found.{PutBehind}
use Rattle.frontiers.specs.Merging.{merged_numbers}
use Rattle.frontiers.specs.Ready.{ValidOver}
use Rattle.frontiers.specs.Calls.{FrontierOf, MergedInto, NoRoomFor}

-- The frontier of one row alone: growing at that row.
abbrev pub row_frontier : List ℕ → ℕ → List ℕ
row_frontier rows x = numbers (row_at rows x).author (growing x)

-- What the inner function needs: a sound store, a valid frontier in the first `used` numbers, and a row.
pub record Appendable (ids rows : List ℕ) (counts : Counts) (f : List ℕ) (used x : ℕ) : Type 0 where
  pub sound : Sound ids rows counts.rows
  pub authors : counts.authors ≤ author_limit
  pub within : used ≤ length f
  pub few : used ≤ 320
  pub frontier : ValidOver ids rows counts (take used f)
  pub author : (row_at rows x).author ≤ counts.authors
  pub row : ValidOver ids rows counts (row_frontier rows x)

-- The merge with the row's frontier in place of the old one, or 21 where it does not fit.
abbrev pub AppendsTo : List ℕ → List ℕ → Counts → List ℕ → ℕ → ℕ → List ℕ → Result ℕ Refusal → Type 0
AppendsTo ids rows counts f used x f' (Ok n) =
    (length (merged_numbers (chain ids rows counts.rows) counts.authors (take used f) (row_frontier rows x)) ≤ length f)
    × PutBehind f 0 (merged_numbers (chain ids rows counts.rows) counts.authors (take used f) (row_frontier rows x)) f' n
AppendsTo ids rows counts f used x f' (Err why) =
    (number_of why ≡ 21) × ((length f < length (merged_numbers (chain ids rows counts.rows) counts.authors (take used f) (row_frontier rows x))) × (f' ≡ f))

-- The first `used` numbers are a valid frontier.
pub record HoldsFrontier (t : Table) (f : List ℕ) (used : ℕ) : Type 0 where
  pub within : used ≤ length f
  pub valid : FrontierOf t (take used f)

-- A row of the store.
pub record Held (t : Table) (x : ℕ) : Type 0 where
  pub some : 1 ≤ x
  pub counted : x ≤ t.counts.rows

-- Why a row is not appended, with number `n`: 1, 20, 19 ("message row 0, above the row count"), 21.
pub data NotAppended (t : Table) (f : List ℕ) (used x n : ℕ) : Type 0 where
  not_well_formed : n ≡ 1 → (WellFormed t → ⊥) → NotAppended t f used x n
  not_valid : n ≡ 20 → WellFormed t → (HoldsFrontier t f used → ⊥) → NotAppended t f used x n
  not_a_row : n ≡ 19 → WellFormed t → HoldsFrontier t f used → (Held t x → ⊥) → NotAppended t f used x n
  no_room : n ≡ 21 → WellFormed t → HoldsFrontier t f used → Held t x → NoRoomFor t (take used f) (row_frontier t.rows x) f → NotAppended t f used x n

-- What holds where a row is appended.
pub record AppendAccepted (t : Table) (f : List ℕ) (used x : ℕ) : Type 0 where
  pub well_formed : WellFormed t
  pub frontier : HoldsFrontier t f used
  pub row : Held t x

-- The promise of the append: the merge with growing at that row, from the start of the list; a refusal leaves the list as it was.
abbrev pub AppendsEntry : Table → List ℕ → ℕ → ℕ → List ℕ → Result ℕ Refusal → Type 0
AppendsEntry t f used x f' (Ok n) = AppendAccepted t f used x × MergedInto t (take used f) (row_frontier t.rows x) f f' n
AppendsEntry t f used x f' (Err why) = NotAppended t f used x (number_of why) × (f' ≡ f)

-- What the call promises, by the answer. Document 02, §13: "For a valid forked state, list every branch that the store knows"; "Refusals: 1,
-- 17, then 24 WHOLE for a growing state, then 21 when the list doesn't fit."
-- Assumes nothing.
use Rattle.answers.specs.declared.Refusal.{Refusal}
use Rattle.std.specs.Prelude.{ℕ, ◌*◌, ◌≤◌, ◌<◌, ◌≡◌, List, length, Result, Ok, Err}
use Rattle.answers.specs.Answers.{written_number, written_count}
use Rattle.store.specs.Table.{Table, WellFormed}
use Rattle.chains.specs.Chain.{IsForked}
use Rattle.logs.specs.declared.Phase.TheVariants.{Growing}
use Rattle.logs.specs.declared.LogState.{LogState}
use Rattle.logs.specs.States.{state_of}
use Rattle.logs.specs.Refusals.{ValidIn}
use Rattle.review.specs.Review.{branch_width, WroteBranches, NoRoom}
use Rattle.review.specs.Children.{Listed, kids_in}

-- "a valid forked state" over a well_formed store.
pub record Reviewed (t : Table) (k : LogState) : Type 0 where
  pub well_formed : WellFormed t
  pub state : ValidIn t k
  pub forked : IsForked (state_of k)

-- The branches of a state are not listed, with number `n`. The lines stand in the document's order, and each says that no earlier one held.
pub data NotListed (t : Table) (k : LogState) (out : List ℕ) (n : ℕ) : Type 0 where
  not_well_formed : n ≡ 1 → (WellFormed t → ⊥) → NotListed t k out n
  not_valid : n ≡ 17 → WellFormed t → (ValidIn t k → ⊥) → NotListed t k out n
  whole : n ≡ 24 → WellFormed t → ValidIn t k → k.phase ≡ Growing → NotListed t k out n
  no_room : n ≡ 21 → Reviewed t k → NoRoom t.rows t.ids t.counts.rows k.author k.last out → NotListed t k out n

-- The list stands at the start of the output, so many numbers.
pub record BranchesDone (t : Table) (k : LogState) (out out' : List ℕ) (n : ℕ) : Type 0 where
  pub accepted : Reviewed t k
  pub wrote : WroteBranches t.rows t.ids t.counts.rows k.author k.last out out' n

-- What `branches_of` promises of its answer; a refusal leaves the output as it was.
abbrev pub ListsBranches : Table → LogState → List ℕ → List ℕ → Result ℕ Refusal → Type 0
ListsBranches t k out out' (Ok n) = BranchesDone t k out out' (written_count (Ok n))
ListsBranches t k out out' (Err why) = NotListed t k out (written_number (Err why)) × (out' ≡ out)

-- What listing the branches behind a row answers.
abbrev pub WritesBranches : List ℕ → List ℕ → ℕ → ℕ → ℕ → List ℕ → List ℕ → Result ℕ Refusal → Type 0
WritesBranches rows ids n a last out out' (Ok w) = WroteBranches rows ids n a last out out' (written_count (Ok w))
WritesBranches rows ids n a last out out' (Err why) = (written_number (Err why) ≡ 21) × (NoRoom rows ids n a last out × (out' ≡ out))

-- What listing the rows that have a child in the table answers.
abbrev pub WritesKids : List ℕ → List ℕ → ℕ → List ℕ → List ℕ → Result ℕ Refusal → Type 0
WritesKids ids kids n out out' (Ok w) =
    (written_count (Ok w) ≡ branch_width * kids_in kids n) × ((branch_width * kids_in kids n ≤ length out) × Listed ids kids n (kids_in kids n) out out')
WritesKids ids kids n out out' (Err why) = (written_number (Err why) ≡ 21) × ((length out < branch_width * kids_in kids n) × (out' ≡ out))

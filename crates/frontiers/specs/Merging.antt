-- The merged frontier of two lent ones, and how many numbers it takes.
-- Assumes nothing.
use Rattle.std.specs.Prelude.{ℕ, ◌≡◌, List, length}
use Rattle.std.proofs.Math.Option.{Option}
use Rattle.chains.specs.Chain.{Store, State}
use Rattle.frontiers.specs.Entries.{entry_of, flat, slot, joined, merged_entries}
use Rattle.frontiers.specs.Numbers.{entries_of}

-- The join of an author's entries in two lent frontiers.
unfoldable pub joined_at : Store → List ℕ → List ℕ → ℕ → Option State
joined_at s f g a = joined s (entry_of (entries_of f) a) (entry_of (entries_of g) a)

-- The merged frontier as numbers, over a store with `n` authors.
unfoldable pub merged_numbers : Store → ℕ → List ℕ → List ℕ → List ℕ
merged_numbers s n f g = flat (merged_entries s n (entries_of f) (entries_of g))

-- `r` numbers hold the merged frontier, whatever the rows say.
abbrev pub MergedLength : ℕ → List ℕ → List ℕ → ℕ → Type 0
MergedLength n f g r = (s : Store) → r ≡ length (merged_numbers s n f g)

-- `r` numbers hold the joined entry of author `a`, whatever the rows say.
abbrev pub JoinedLength : List ℕ → List ℕ → ℕ → ℕ → Type 0
JoinedLength f g a r = (s : Store) → r ≡ length (flat (slot a (joined_at s f g a)))

-- Document 01, "Frontiers and packing lists": the numbers of a frontier, and when they are one.
-- Assumes nothing.
use Rattle.std.specs.Prelude.{ℕ, zero, suc, ◌+◌, ◌-◌, ◌*◌, ◌/◌, ◌%◌, ◌≤◌, ◌<◌, ◌≡◌, ◌⊎◌, List, [], ◌∷◌, length, get_or, eqb}
use Rattle.basics.specs.Pick.{pick}
use Rattle.chains.specs.Chain.{Store, State, growing, forked, ValidState}
use Rattle.frontiers.specs.Entries.{Entry}

-- "entries of five numbers": how many numbers an entry has.
abbrev pub entry_width : ℕ
entry_width = 5

-- "entries of five numbers (author, phase 0 growing or 1 forked, last, low, high ..)": those of entry `i`, counted from 0.
abbrev pub author_at : List ℕ → ℕ → ℕ
author_at f i = get_or f (i * entry_width) 0

abbrev pub phase_at : List ℕ → ℕ → ℕ
phase_at f i = get_or f (i * entry_width + 1) 0

abbrev pub last_at : List ℕ → ℕ → ℕ
last_at f i = get_or f (i * entry_width + 2) 0

abbrev pub low_at : List ℕ → ℕ → ℕ
low_at f i = get_or f (i * entry_width + 3) 0

abbrev pub high_at : List ℕ → ℕ → ℕ
high_at f i = get_or f (i * entry_width + 4) 0

-- The log state of entry `i`.
abbrev pub state_at : List ℕ → ℕ → State
state_at f i = pick (eqb (phase_at f i) 0) (growing (last_at f i)) (forked (last_at f i) (low_at f i) (high_at f i))

-- The `k` entries from entry `i` on.
unfoldable pub entries_at : List ℕ → ℕ → ℕ → List Entry
entries_at f zero i = []
entries_at f (suc k) i = record { author = author_at f i; state = state_at f i } ∷ entries_at f k (suc i)

-- The entries of a frontier.
unfoldable pub entries_of : List ℕ → List Entry
entries_of f = entries_at f (length f / entry_width) 0

-- "low and high are 0 when growing": the phase is 0 with both 0, or it is 1.
abbrev pub PhaseKept : List ℕ → ℕ → Type 0
PhaseKept f i = ((phase_at f i ≡ 0) × ((low_at f i ≡ 0) × (high_at f i ≡ 0))) ⊎ (phase_at f i ≡ 1)

-- What holds of entry `i` over a store with `n` authors: "phase, low and high keep this, authors rise strictly and each state is valid".
-- "Valid (CL1 to FL7): the author exists".
pub record EntryValid (s : Store) (n : ℕ) (f : List ℕ) (i : ℕ) : Type 0 where
  pub phase : PhaseKept f i
  pub rises : 1 ≤ i → author_at f (i - 1) < author_at f i
  pub exists : 1 ≤ author_at f i
  pub known : author_at f i ≤ n
  pub state : ValidState s (author_at f i) (state_at f i)

-- A frontier is "valid when its length is a multiple of five," and each entry is as above.
pub record ValidFrontier (s : Store) (n : ℕ) (f : List ℕ) : Type 0 where
  pub whole : length f % entry_width ≡ 0
  pub entries : (i : ℕ) → i < length f / entry_width → EntryValid s n f i

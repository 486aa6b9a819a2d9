-- The answers of the calls on log states: document 01's number of each case, and the values that it gives.
-- "A refusal returns its number and row 0 .. and no state".
-- Assumes nothing.
use Rattle.answers.specs.declared.Refusal.{Refusal}
use Rattle.std.specs.Prelude.{ℕ, Result, Ok, Err}
use Rattle.answers.specs.Number.{number_of}
use Rattle.logs.specs.declared.Phase.{Phase}
use Rattle.logs.specs.declared.Phase.TheVariants.{Growing, Forked}
use Rattle.logs.specs.declared.LogState.{LogState}
use Rattle.logs.specs.declared.Nearest.{Nearest}

-- The number of a prefix: 0, or the refusal's.
abbrev pub prefixed_number : Result Nearest Refusal → ℕ
prefixed_number (Ok w) = 0
prefixed_number (Err why) = number_of why

-- No prefix: three zeros.
abbrev pub no_prefix : Nearest
no_prefix = record { row = 0; first = 0; second = 0 }

-- The prefix with the two children: zeros on a refusal.
abbrev pub prefixed_nearest : Result Nearest Refusal → Nearest
prefixed_nearest (Ok w) = w
prefixed_nearest (Err why) = no_prefix

-- So it gives a row, 0 where it is none,
abbrev pub prefixed_row : Result Nearest Refusal → ℕ
prefixed_row r = (prefixed_nearest r).row

-- The child toward the first, 0 where that one stands at the prefix itself,
abbrev pub prefixed_first : Result Nearest Refusal → ℕ
prefixed_first r = (prefixed_nearest r).first

-- And the child toward the second.
abbrev pub prefixed_second : Result Nearest Refusal → ℕ
prefixed_second r = (prefixed_nearest r).second

-- The number of an append or a merge: 0, or the refusal's.
abbrev pub merged_number : Result LogState Refusal → ℕ
merged_number (Ok m) = 0
merged_number (Err why) = number_of why

-- No state: author 0, which no store has, and zeros.
abbrev pub no_state : LogState
no_state = record { author = 0; last = 0; phase = Growing }

-- The state of an append or a merge: none on a refusal.
abbrev pub merged_state : Result LogState Refusal → LogState
merged_state (Ok m) = m
merged_state (Err why) = no_state

-- The values of a state are "five numbers (author, phase 0 growing or 1 forked, last, low, high; low and high are 0 when growing)":
-- the phase,
abbrev pub phase_number : Phase → ℕ
phase_number Growing = 0
phase_number (Forked low high) = 1

-- The lower evidence row,
abbrev pub low_row : Phase → ℕ
low_row Growing = 0
low_row (Forked low high) = low

-- And the higher one.
abbrev pub high_row : Phase → ℕ
high_row Growing = 0
high_row (Forked low high) = high

-- So an append or a merge gives an author,
abbrev pub merged_author : Result LogState Refusal → ℕ
merged_author r = (merged_state r).author

-- A phase,
abbrev pub merged_phase : Result LogState Refusal → ℕ
merged_phase r = phase_number (merged_state r).phase

-- A last row,
abbrev pub merged_last : Result LogState Refusal → ℕ
merged_last r = (merged_state r).last

-- A lower evidence row,
abbrev pub merged_low : Result LogState Refusal → ℕ
merged_low r = low_row (merged_state r).phase

-- And a higher one: five zeros on a refusal.
abbrev pub merged_high : Result LogState Refusal → ℕ
merged_high r = high_row (merged_state r).phase

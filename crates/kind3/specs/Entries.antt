-- The entries of an item of kind 3, as they stand in its bytes: "per entry author key 32, phase 1, last id 32, and two evidence ids of 32.
-- Last carries one byte before it, 1 present or 0 none; ids that don't apply are zero bytes. Entries rise by key."
-- Assumes nothing.
use Rattle.std.specs.Prelude.{ℕ, ◌+◌, ◌-◌, ◌≤◌, ◌<◌, ◌≡◌, true, List, length, get_or}
use Rattle.basics.specs.Chunk.{chunk_at}
use Rattle.chunks.specs.Bytes.{comes_before, all_zero}
use Rattle.kind3.specs.Offsets.{entry_size, entry_place, to_phase, to_presence, to_last, to_low, to_high}

-- Entry `i` lies inside the item, counted from 0.
abbrev pub HasEntry : List ℕ → ℕ → Type 0
HasEntry s i = entry_place i + entry_size ≤ length s

-- The first `n` entries lie inside the item.
abbrev pub HasEntries : List ℕ → ℕ → Type 0
HasEntries s n = entry_place n ≤ length s

-- The byte of entry `i` at a place in it,
abbrev pub byte_in : List ℕ → ℕ → ℕ → ℕ
byte_in s i to = get_or s (entry_place i + to) 0

-- and the 32 bytes from a place in it on.
abbrev pub chunk_in : List ℕ → ℕ → ℕ → List ℕ
chunk_in s i to = chunk_at (entry_place i + to) s

-- "author key 32,"
abbrev pub key_in : List ℕ → ℕ → List ℕ
key_in s i = chunk_in s i 0

-- "phase 1," as in a frontier "0 growing or 1 forked",
abbrev pub phase_in : List ℕ → ℕ → ℕ
phase_in s i = byte_in s i to_phase

-- "one byte before it, 1 present or 0 none",
abbrev pub presence_in : List ℕ → ℕ → ℕ
presence_in s i = byte_in s i to_presence

-- "last id 32, and two evidence ids of 32".
abbrev pub last_id_in : List ℕ → ℕ → List ℕ
last_id_in s i = chunk_in s i to_last

abbrev pub low_id_in : List ℕ → ℕ → List ℕ
low_id_in s i = chunk_in s i to_low

abbrev pub high_id_in : List ℕ → ℕ → List ℕ
high_id_in s i = chunk_in s i to_high

-- "phase or presence byte not 0 or 1, FLAG": not so for entry `i`,
abbrev pub FlagsAt : List ℕ → ℕ → Type 0
FlagsAt s i = (phase_in s i ≤ 1) × (presence_in s i ≤ 1)

-- and for no entry of the first `n`.
abbrev pub FlagsKept : List ℕ → ℕ → Type 0
FlagsKept s n = (i : ℕ) → i < n → FlagsAt s i

-- "ids that don't apply are zero bytes": the last id where there is no last row,
abbrev pub LastZero : List ℕ → ℕ → Type 0
LastZero s i = presence_in s i ≡ 0 → all_zero (last_id_in s i) ≡ true

-- the evidence ids where the phase is growing;
abbrev pub EvidenceZero : List ℕ → ℕ → Type 0
EvidenceZero s i = phase_in s i ≡ 0 → (all_zero (low_id_in s i) ≡ true) × (all_zero (high_id_in s i) ≡ true)

-- both so in entry `i`,
abbrev pub ZerosAt : List ℕ → ℕ → Type 0
ZerosAt s i = EvidenceZero s i × LastZero s i

-- and in each of the first `n` entries.
abbrev pub ZerosKept : List ℕ → ℕ → Type 0
ZerosKept s n = (i : ℕ) → i < n → ZerosAt s i

-- "Entries rise by key", as 32 unsigned bytes, first byte first: entry `i` above the one before it, if there is one,
abbrev pub RisesAt : List ℕ → ℕ → Type 0
RisesAt s i = 1 ≤ i → comes_before (key_in s (i - 1)) (key_in s i) ≡ true

-- and each of the first `n` entries.
abbrev pub RisesIn : List ℕ → ℕ → Type 0
RisesIn s n = (i : ℕ) → i < n → RisesAt s i

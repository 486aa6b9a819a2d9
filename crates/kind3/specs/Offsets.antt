-- Document 02, §3: where the fields of an item of kind 3 stand, and its limits.
-- "Add an item of kind 3: length, kind, entry count 2 bytes, then per entry author key 32, phase 1, last id 32, and two evidence ids of
-- 32. Last carries one byte before it, 1 present or 0 none". "At most 64 entries of 130 bytes, so the length limit for this kind is 8,324."
-- Assumes nothing.
use Rattle.std.specs.Prelude.{ℕ, ◌+◌, ◌*◌}

-- The kind.
abbrev pub standing_kind : ℕ
standing_kind = 3

-- Where the entry count stands, after length 4 and kind 2: the body begins with it.
abbrev pub at_count : ℕ
at_count = 6

-- Where the entries begin.
abbrev pub at_entries : ℕ
at_entries = 8

-- How many bytes an entry has.
abbrev pub entry_size : ℕ
entry_size = 130

-- Where in an entry its phase stands, after the author key 32.
abbrev pub to_phase : ℕ
to_phase = 32

-- Where the presence byte of last stands.
abbrev pub to_presence : ℕ
to_presence = 33

-- Where the last id stands.
abbrev pub to_last : ℕ
to_last = 34

-- Where the two evidence ids stand, the lower first.
abbrev pub to_low : ℕ
to_low = 66

abbrev pub to_high : ℕ
to_high = 98

-- The most entries.
abbrev pub entry_limit : ℕ
entry_limit = 64

-- The smallest body: the entry count alone.
abbrev pub smallest_body : ℕ
smallest_body = 2

-- The largest length.
abbrev pub length_limit : ℕ
length_limit = 8324

-- Where entry `i` begins, counted from 0.
abbrev pub entry_place : ℕ → ℕ
entry_place i = at_entries + entry_size * i

-- The lines of the table "Answer numbers" of document 01 that speak of one item of kind 3 alone: 2, 3, 4 and 5.
-- Assumes nothing.
use Rattle.std.specs.Prelude.{ℕ, ◌+◌, ◌≤◌, ◌<◌, ◌≡◌, List, length}
use Rattle.answers.specs.declared.Refusal.{Refusal}
use Rattle.answers.specs.declared.Refusal.TheVariants.{Short, Size, Long, Kind}
use Rattle.item.specs.Layout.{length_of, kind_of}
use Rattle.kind3.specs.Offsets.{standing_kind, at_count, at_entries, entry_limit, entry_place, length_limit}
use Rattle.kind3.specs.Layout.{count_of}

-- "bytes missing": the item ends before its length field does, before its length says, or before the fields of its body do.
pub data Missing (s : List ℕ) : Type 0 where
  no_length : length s < 4 → Missing s
  incomplete : length s < 4 + length_of s → Missing s
  body_short : length s < at_entries → Missing s
  entries_short : length s < entry_place (count_of s) → Missing s

-- "length .. above limit", and "entry count above 64 is 3", each in a field that lies inside the item.
pub data Above (s : List ℕ) : Type 0 where
  length_above : 4 ≤ length s → length_limit < length_of s → Above s
  count_above_lem : at_entries ≤ length s → entry_limit < count_of s → Above s

-- "bytes left over": after the item, by its length, or after the entries, by their count.
pub data LeftOver (s : List ℕ) : Type 0 where
  after_item : 4 + length_of s < length s → LeftOver s
  after_entries : entry_place (count_of s) < length s → LeftOver s

-- The line of a refusal; no other refusal is given for an item alone.
pub data Line (s : List ℕ) : Refusal → Type 0 where
  missing : Missing s → Line s Short
  length_under_2 : 4 ≤ length s → length_of s < 2 → Line s Short
  above_limit : Above s → Line s Size
  left_over : LeftOver s → Line s Long
  kind_not_3 : at_count ≤ length s → (kind_of s ≡ standing_kind → ⊥) → Line s Kind

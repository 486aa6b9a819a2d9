-- The lines of the table "Answer numbers" of document 01 that speak of one item alone: 2, 3, 4 and 5.
-- Assumes nothing.
use Rattle.std.specs.Prelude.{ℕ, ◌+◌, ◌*◌, ◌≤◌, ◌<◌, ◌≡◌, List, length}
use Rattle.answers.specs.declared.Refusal.{Refusal}
use Rattle.answers.specs.declared.Refusal.TheVariants.{Short, Size, Long, Kind}
use Rattle.item.specs.Offsets.{at_mark, at_payload, at_dependencies, smallest_body, payload_limit, count_limit, length_limit}
use Rattle.item.specs.Layout.{length_of, kind_of, payload_size, count_after}

-- "bytes missing": the item ends before its length field does, before its length says, or before the fields of its body do.
pub data Missing (s : List ℕ) : Type 0 where
  no_length : length s < 4 → Missing s
  incomplete : length s < 4 + length_of s → Missing s
  body_short : length s < at_mark + smallest_body → Missing s
  payload_short : length s < at_mark + smallest_body + payload_size s → Missing s
  dependencies_short : length s < at_mark + smallest_body + payload_size s + 32 * count_after (payload_size s) s → Missing s

-- "length, payload or dependencies above limit", each in a field that lies inside the item.
pub data Above (s : List ℕ) : Type 0 where
  length_above : 4 ≤ length s → length_limit < length_of s → Above s
  payload_above : at_payload ≤ length s → payload_limit < payload_size s → Above s
  dependencies_above : at_dependencies + payload_size s ≤ length s → count_limit < count_after (payload_size s) s → Above s

-- "bytes left over": after the item, by its length, or after the signature, by the fields of its body.
pub data LeftOver (s : List ℕ) : Type 0 where
  after_item : 4 + length_of s < length s → LeftOver s
  after_signature : at_mark + smallest_body + payload_size s + 32 * count_after (payload_size s) s < length s → LeftOver s

-- The line of a refusal; no other refusal is given for an item alone.
pub data Line (s : List ℕ) : Refusal → Type 0 where
  missing : Missing s → Line s Short
  length_under_2 : 4 ≤ length s → length_of s < 2 → Line s Short
  above_limit : Above s → Line s Size
  left_over : LeftOver s → Line s Long
  kind_not_1 : at_mark ≤ length s → (kind_of s ≡ 1 → ⊥) → Line s Kind

-- What an item of kind 3 is, as document 02, §3, writes it: its fields laid one after the other.
-- Assumes nothing.
use Rattle.std.specs.Prelude.{ℕ, ◌+◌, ◌*◌, ◌≤◌, ◌≡◌, List, ◌++◌, length}
use Rattle.item.specs.Little.{le16, le32}
use Rattle.kind3.specs.Offsets.{standing_kind, entry_size, entry_limit}

-- "length, kind, entry count 2 bytes, then per entry .." 130 bytes. "At most 64 entries". The length counts all that follows it, as in kind 1.
pub record IsStandingItem (s : List ℕ) (n : ℕ) : Type 0 where
  pub len : List ℕ
  pub kind : List ℕ
  pub count : List ℕ
  pub entries : List ℕ
  pub laid : s ≡ len ++ (kind ++ (count ++ entries))
  pub len_4 : length len ≡ 4
  pub kind_2 : length kind ≡ 2
  pub count_2 : length count ≡ 2
  pub entries_130_each : length entries ≡ entry_size * n
  pub len_says : length s ≡ 4 + le32 len 0
  pub kind_says : le16 kind 0 ≡ standing_kind
  pub count_says : le16 count 0 ≡ n
  pub count_limit_lem : n ≤ entry_limit

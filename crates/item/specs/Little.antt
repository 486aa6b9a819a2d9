-- Document 01, "The item": "Numbers are little-endian."
-- Assumes nothing.
use Rattle.std.specs.Prelude.{ℕ, ◌+◌, ◌*◌, List, get_or}

-- The number that the two bytes from place `i` on say, the low byte first.
unfoldable pub le16 : List ℕ → ℕ → ℕ
le16 s i = get_or s i 0 + 256 * get_or s (i + 1) 0

-- The number that the four bytes from place `i` on say, the low byte first.
unfoldable pub le32 : List ℕ → ℕ → ℕ
le32 s i = le16 s i + 65536 * le16 s (i + 2)

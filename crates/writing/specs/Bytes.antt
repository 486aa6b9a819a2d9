-- Document 01, "The item": "Numbers are little-endian." Here, the bytes of a number.
-- Assumes nothing.
use Rattle.std.specs.Prelude.{ℕ, ◌/◌, ◌%◌, List, [], ◌∷◌, ◌++◌}

-- A number in two bytes, the low byte first.
unfoldable pub bytes16 : ℕ → List ℕ
bytes16 n = n % 256 ∷ n / 256 % 256 ∷ []

-- A number in four bytes, the low byte first.
unfoldable pub bytes32 : ℕ → List ℕ
bytes32 n = bytes16 n ++ bytes16 (n / 65536)

-- What a byte slice holds.
-- Assumes nothing.
use Rattle.std.specs.Prelude.{ℕ, ◌<◌, List, get_or}

-- Each number is below 256.
abbrev pub Bytes : List ℕ → Type 0
Bytes s = (i : ℕ) → get_or s i 0 < 256

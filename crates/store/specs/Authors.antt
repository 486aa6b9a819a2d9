-- Marks of the authors of a list of rows: 64 of them, one for all authors that are alike modulo 64.
-- Assumes nothing.
use Rattle.std.specs.Prelude.{ℕ, ◌%◌, ◌≡◌, false, List, get_or}
use Rattle.store.specs.Table.{has_author}

-- An author whose mark is not set has no row in the list.
abbrev pub Marked : List ℕ → List ℕ → List ℕ → Type 0
Marked rows marks ds = (a : ℕ) → get_or marks (a % 64) 0 ≡ 0 → has_author rows a ds ≡ false

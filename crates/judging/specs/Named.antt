-- What looking for an item's dependencies gives.
-- Assumes nothing.
use Rattle.std.specs.Prelude.{ℕ, ◌≤◌, ◌<◌, ◌≡◌, true, false, List, length, take, get_or, Result, Ok, Err}
use Rattle.item.specs.Offsets.{count_limit}
use Rattle.chunks.specs.Lookup.{place_of}
use Rattle.item.specs.Layout.{dependency_of}
use Rattle.item.specs.declared.Fields.{Fields}
use Rattle.judging.specs.Message.{lacks, named}

-- The array that is answered, whether one is missing or not.
abbrev pub rows_answered : Result (List ℕ) (List ℕ) → List ℕ
rows_answered (Ok rows) = rows
rows_answered (Err rows) = rows

-- Whether all dependencies of the item are among the first `n` ids; and the rows of all, or of those before the first that is missing,
-- in the item's order. What is left of the array is 0.
pub record Names (ids : List ℕ) (n : ℕ) (s : List ℕ) (f : Fields) (r : Result (List ℕ) (List ℕ)) : Type 0 where
  pub sized : length (rows_answered r) ≡ count_limit
  pub held : (rows : List ℕ) → r ≡ Ok rows → lacks ids n s f f.count ≡ false
  pub missing : (rows : List ℕ) → r ≡ Err rows → lacks ids n s f f.count ≡ true
  -- how many were found before the search ended
  pub found : ℕ
  pub found_each : lacks ids n s f found ≡ false
  pub found_all : (rows : List ℕ) → r ≡ Ok rows → found ≡ f.count
  pub found_end : (rows : List ℕ) → r ≡ Err rows → (found < f.count) × (place_of ids n (dependency_of f found s) ≡ 0)
  pub rows_are : take found (rows_answered r) ≡ named ids n s f found
  pub rest_zero : (k : ℕ) → found ≤ k → get_or (rows_answered r) k 0 ≡ 0

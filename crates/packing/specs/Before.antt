-- Document 01, "Frontiers and packing lists": "One message happened before another when a path leads back through a row's
-- previous link or through its dependency list, turn about, one or more steps in any mix."
-- The paths go through two of the lent parts: the rows and the dependencies.
-- Assumes nothing.
use Rattle.std.specs.Prelude.{ℕ, ◌≤◌, ◌≡◌, ◌⊎◌}
use mathlib.Core.List.{List, Memᴰ}
use Rattle.store.specs.Table.{row_at, deps_in}

-- One step back from row `y` to row `x`.
pub data Step (rows deps : List ℕ) (x y : ℕ) : Type 0 where
  -- "through a row's previous link"
  by_link : 1 ≤ x → x ≡ (row_at rows y).prev → Step rows deps x y
  -- "or through its dependency list"
  by_list : Memᴰ x (deps_in rows deps y) → Step rows deps x y

-- Row `x` happened before row `y`: "one or more steps in any mix".
pub data HappenedBefore (rows deps : List ℕ) (x : ℕ) : ℕ → Type 0 where
  one : {y : ℕ} → Step rows deps x y → HappenedBefore rows deps x y
  more : {z y : ℕ} → HappenedBefore rows deps x z → Step rows deps z y → HappenedBefore rows deps x y

-- Row `x` is row `last`, which is not none, or happened before it.
abbrev pub Within : List ℕ → List ℕ → ℕ → ℕ → Type 0
Within rows deps last x = ((1 ≤ last) × (x ≡ last)) ⊎ HappenedBefore rows deps x last

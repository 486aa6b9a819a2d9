-- What the inner functions need: a sound store, with as many authors as a store may have, and valid frontiers.
-- Assumes nothing.
use Rattle.std.specs.Prelude.{ℕ, ◌≤◌, List}
use Rattle.store.specs.declared.lent.Counts.{Counts}
use Rattle.store.specs.Limits.{author_limit}
use Rattle.logs.specs.Held.{chain, Sound}
use Rattle.frontiers.specs.Numbers.{ValidFrontier}

-- A valid frontier over lent parts.
abbrev pub ValidOver : List ℕ → List ℕ → Counts → List ℕ → Type 0
ValidOver ids rows counts f = ValidFrontier (chain ids rows counts.rows) counts.authors f

-- Two valid frontiers over a sound store.
pub record Frontiers (ids rows : List ℕ) (counts : Counts) (f g : List ℕ) : Type 0 where
  pub sound : Sound ids rows counts.rows
  pub authors : counts.authors ≤ author_limit
  pub first : ValidOver ids rows counts f
  pub second : ValidOver ids rows counts g

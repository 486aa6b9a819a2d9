-- The order of frontiers, by what the searches found of each author.
-- Assumes nothing.
use Prim.Native.Nat.{ℕ, ◌<◌}
use mathlib.Core.List.{List}
use native.Mathlib.Omega.{arith}
use Rattle.basics.proofs.Tests.{by_ltb}
use Rattle.chains.specs.Chain.{Store}
use Rattle.frontiers.specs.Entries.{entry_of, BelowAt, FrontierBelow}
use Rattle.frontiers.specs.Numbers.{entries_of, ValidFrontier}
use Rattle.frontiers.proofs.Entries.{absent}
use Rattle.frontiers.proofs.Numbers.{valid_entries}
use Rattle.frontiers.proofs.Merged.{unknown}

-- Every author before `a`, none included, has its entry in `f` at or below that in `g`.
abbrev pub BelowBefore : Store → List ℕ → List ℕ → ℕ → Type 0
BelowBefore s f g a = (b : ℕ) → b < a → BelowAt s (entry_of (entries_of f) b) (entry_of (entries_of g) b)

module _ (s : Store) (n : ℕ) (f g : List ℕ) (v : ValidFrontier s n f) where
  -- None is nobody's author.
  pub below_start : BelowBefore s f g 1
  below_start b h = rw (absent (valid_entries s n f v).rising b (omega arith)) tt

  -- Before a number past the last author is all there is.
  pub below_all : (a : ℕ) → n < a → BelowBefore s f g a → FrontierBelow s (entries_of f) (entries_of g)
  below_all a h w b =
      by_ltb (λ t. BelowAt s (entry_of (entries_of f) b) (entry_of (entries_of g) b)) n b
      (λ k. rw (unknown s n b (entry_of (entries_of f) b) k ((valid_entries s n f v).each b)) tt)
      (λ k. w b (omega arith))

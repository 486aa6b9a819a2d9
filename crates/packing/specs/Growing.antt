-- Frontiers whose entries are all growing: what the laws of larger and merged frontiers speak of.
-- Assumes nothing.
use Rattle.std.specs.Prelude.{ℕ, List}
use Rattle.std.proofs.Math.Option.{Option, none, some}
use Rattle.chains.specs.Chain.{State, growing, forked}
use Rattle.frontiers.specs.Entries.{entry_of}
use Rattle.frontiers.specs.Numbers.{entries_of}

-- An absence, or a state that is growing.
abbrev pub Grows : Option State → Type 0
Grows none = Unit {0}
Grows (some (growing l)) = Unit {0}
Grows (some (forked l lo hi)) = ⊥

-- Every entry of the frontier is growing.
pub record AllGrowing (f : List ℕ) : Type 0 where
  pub each : (a : ℕ) → Grows (entry_of (entries_of f) a)

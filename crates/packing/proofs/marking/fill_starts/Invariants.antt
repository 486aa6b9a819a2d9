-- `packing::marking::fill_starts` meets its contract: up to a row the table is right, and the sum is that of the rows so far.
-- Assumes nothing.
use Rattle.packing.proofs.Filling.{Filled}
use Prim.Native.Nat.{ℕ, ◌+◌}
use mathlib.Core.Path.{◌≡◌}
use Rattle.packing.proofs.marking.fill_starts.Given as goal

abbrev pub invariant-loop-row : goal.invariant-loop-row
invariant-loop-row l = (last : ℕ) × (l.row ≡ last + 1) × Filled l.rows l.initial.starts l.starts l.count l.sum last

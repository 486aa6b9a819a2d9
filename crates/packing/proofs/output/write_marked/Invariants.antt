-- `packing::output::write_marked` meets its contract: at the front of `out` stands the list of the marked rows so far, and behind it what `out` held.
-- Assumes nothing.
use Rattle.packing.proofs.Listing.{Put}
use Prim.Native.Nat.{ℕ, ◌+◌}
use mathlib.Core.Path.{◌≡◌}
use Rattle.packing.proofs.output.write_marked.Given as goal

abbrev pub invariant-loop-row : goal.invariant-loop-row
invariant-loop-row l = (last : ℕ) × (l.row ≡ last + 1) × Put l.marks l.initial.out l.out l.count l.used last

-- `salvage::names::first_missing` meets its contract: none of the places passed is missing.
-- Assumes nothing.
use Prim.Native.Nat.{ℕ, ◌<◌}
use mathlib.Core.Path.{◌≡◌}
use mathlib.Core.Bool.{false}
use Rattle.salvage.specs.Names.{lacks_at}
use Rattle.salvage.proofs.names.first_missing.Given as goal

abbrev pub invariant-loop-place : goal.invariant-loop-place
invariant-loop-place l =
    (p : ℕ) → p < l.place → l.after < p → lacks_at l.ids l.n l.item l.f p ≡ false

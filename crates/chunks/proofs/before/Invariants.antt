-- `chunks::before` meets its contract: what is left of the two lists decides.
-- Assumes nothing.
use mathlib.Core.Path.{◌≡◌}
use lib.ListN.{drop}
use Rattle.chunks.specs.Bytes.{comes_before}
use Rattle.chunks.proofs.before.Given as goal

abbrev pub invariant-loop-i : goal.invariant-loop-i
invariant-loop-i l = comes_before l.a l.b ≡ comes_before (drop l.i l.a) (drop l.i l.b)

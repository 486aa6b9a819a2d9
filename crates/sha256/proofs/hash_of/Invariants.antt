-- `hash_of` meets its contract. The loop's invariant: the hash value is the one after i blocks.
-- Assumes nothing.
use Rattle.std.proofs.Common.{◌≡◌}
use Rattle.sha256.specs.Sha256.{padded, H⁽ⁱ⁾}
use Rattle.sha256.proofs.hash_of.Given as goal

abbrev pub invariant-loop-i : goal.invariant-loop-i
invariant-loop-i l = l.h ≡ H⁽ⁱ⁾ (padded l.s) l.i

-- `chunks::buckets::by_pairs` meets its contract: the pieces passed are distinct.
-- Assumes nothing.
use Rattle.chunks.specs.Lookup.{Distinct}
use Rattle.chunks.proofs.buckets.by_pairs.Given as goal

abbrev pub invariant-loop-i : goal.invariant-loop-i
invariant-loop-i l = Distinct l.s l.i

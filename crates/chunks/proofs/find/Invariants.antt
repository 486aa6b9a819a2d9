-- `chunks::find` meets its contract: nothing before the piece at hand is the one looked for.
-- Assumes nothing.
use Rattle.chunks.proofs.Finding.{NoneBefore}
use Rattle.chunks.proofs.find.Given as goal

abbrev pub invariant-loop-r : goal.invariant-loop-r
invariant-loop-r l = NoneBefore l.s l.x l.r

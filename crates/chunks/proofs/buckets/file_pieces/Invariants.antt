-- `chunks::buckets::file_pieces` meets its contract: the pieces passed are filed.
-- Assumes nothing.
use Rattle.chunks.specs.Buckets.{Filed}
use Rattle.chunks.proofs.buckets.file_pieces.Given as goal

abbrev pub invariant-loop-i : goal.invariant-loop-i
invariant-loop-i l = Filed l.s l.heads l.next l.i

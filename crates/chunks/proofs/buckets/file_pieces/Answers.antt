-- `chunks::buckets::file_pieces` meets its contract: the pieces passed are filed.
-- Assumes nothing.
use Rattle.std.proofs.Common.{rules}
use mathlib.Core.Path.{ap, ◌∙◌}
use Rattle.chunks.specs.Buckets.{bucket_of}
use Rattle.chunks.proofs.Filing.{filed_more}
use Rattle.chunks.proofs.buckets.file_pieces.Goals as goal

pub loop-i-preserved : goal.loop-i-preserved
loop-i-preserved c =
    let l = c.loop-i in
    let a = c.args in
    filed_more a.s.now l.heads l.next l.i l.invariant c.bucket_of-bucket.result (search rules) (search rules)
    (c.bucket_of-bucket.ensures.0 ∙ ap bucket_of c.piece_at.ensures)

-- `chunks::buckets::by_pairs` meets its contract: the pieces passed are distinct.
-- Assumes nothing.
use Rattle.std.proofs.Common.{rules}
use Rattle.basics.proofs.Decisions.{decided_no}
use Rattle.chunks.proofs.Finding.{found_some, found_nothing, distinct_more, distinct_broken}
use Rattle.chunks.proofs.buckets.by_pairs.Goals as goal

pub returns-then-is_some : goal.returns-then-is_some
returns-then-is_some c =
    let a = c.args in
    let found = found_some a.s.now _ c.loop-i.i _ (rw c.piece_at.ensures at c.find.ensures) (rw c.is_some.ensures at c.if-is_some.true) in
    decided_no (distinct_broken a.s.now c.loop-i.i a.n (search rules) found)

pub loop-i-preserved : goal.loop-i-preserved
loop-i-preserved c =
    let a = c.args in
    let none = found_nothing a.s.now _ c.loop-i.i _ (rw c.piece_at.ensures at c.find.ensures) (rw c.is_some.ensures at c.if-is_some.false) in
    distinct_more a.s.now c.loop-i.i c.loop-i.invariant none

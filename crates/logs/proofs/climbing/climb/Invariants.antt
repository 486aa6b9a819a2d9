-- `logs::climbing::climb` meets its contract. The loop's invariant: the prefix of the two places is that of `a` and `b`, and each side
-- has the last row that it left. The measure is the sum of the two row numbers. Assumes nothing.
use Prim.Native.Nat.{◌+◌}
use Rattle.logs.proofs.Links.{Standing}
use Rattle.logs.proofs.climbing.climb.Given as goal

abbrev pub invariant-loop-first : goal.invariant-loop-first
invariant-loop-first l = Standing l.rows l.a l.b l.first l.second l.left_first l.left_second

abbrev pub decreases-loop-first : goal.decreases-loop-first
decreases-loop-first l = l.first + l.second

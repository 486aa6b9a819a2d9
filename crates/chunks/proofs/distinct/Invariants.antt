-- `chunks::distinct` meets its contract: in the buckets passed no piece is found twice.
-- Assumes nothing.
use Prim.Native.Nat.{◌≤◌}
use Rattle.chunks.specs.Buckets.{Filed}
use Rattle.chunks.proofs.Filing.{OnceBelow}
use Rattle.chunks.proofs.distinct.Given as goal

abbrev pub invariant-loop-head : goal.invariant-loop-head
invariant-loop-head l = (l.n ≤ 1024) × (Filed l.s l.head-items l.next l.n × OnceBelow l.s l.head-items l.next l.head-index)

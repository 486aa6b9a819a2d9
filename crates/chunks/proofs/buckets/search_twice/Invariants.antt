-- `chunks::buckets::search_twice` meets its contract: what is on the chain twice is still to come.
-- Assumes nothing.
use Prim.Native.Nat.{◌≤◌}
use Rattle.chunks.proofs.Filing.{TwiceToCome}
use Rattle.chunks.proofs.buckets.search_twice.Given as goal

abbrev pub invariant-loop-h : goal.invariant-loop-h
invariant-loop-h l = (l.h ≤ l.head) × TwiceToCome l.s l.next l.head l.h

abbrev pub decreases-loop-h : goal.decreases-loop-h
decreases-loop-h l = l.h

-- `chunks::buckets::search_chain` meets its contract: what is on the chain and is the piece looked for is still to come.
-- Assumes nothing.
use Prim.Native.Nat.{◌≤◌}
use mathlib.Core.Path.{◌≡◌}
use Rattle.chunks.specs.Buckets.{linked}
use Rattle.chunks.proofs.Filing.{ToCome}
use Rattle.chunks.proofs.buckets.search_chain.Given as goal

abbrev pub invariant-loop-h : goal.invariant-loop-h
invariant-loop-h l = ((l.h ≤ l.head) × (l.passed ≤ 256)) × ((l.h ≡ linked l.next l.passed l.head) × ToCome l.s l.next l.head l.x l.h)

abbrev pub decreases-loop-h : goal.decreases-loop-h
decreases-loop-h l = l.h

-- `frontiers::comparing::frontier_below` meets its contract.
-- Assumes nothing.
use Rattle.logs.specs.Held.{chain}
use Rattle.frontiers.proofs.Below.{BelowBefore}
use Rattle.frontiers.proofs.comparing.frontier_below.Given as goal

abbrev pub invariant-loop-a : goal.invariant-loop-a
invariant-loop-a l = BelowBefore (chain l.store.ids.now l.store.rows.now l.store.counts.rows) l.f l.g l.a

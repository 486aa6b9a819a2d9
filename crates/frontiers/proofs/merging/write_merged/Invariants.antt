-- `frontiers::merging::write_merged` meets its contract.
-- Assumes nothing.
use Prim.Native.Nat.{◌-◌}
use Rattle.logs.specs.Held.{chain}
use Rattle.frontiers.specs.Merging.{joined_at}
use Rattle.frontiers.proofs.Progress.{Progress}
use Rattle.frontiers.proofs.merging.write_merged.Given as goal

abbrev pub invariant-loop-a : goal.invariant-loop-a
invariant-loop-a l = Progress (joined_at (chain l.store.ids.now l.store.rows.now l.store.counts.rows) l.f l.g) l.store.counts.authors l.initial.out (l.a - 1) l.used l.out

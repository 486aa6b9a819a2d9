-- `standing::receiving::read_entries` meets its contract: the authors so far are written.
-- Assumes nothing.
use Prim.Native.Nat.{◌-◌}
use Rattle.frontiers.proofs.Progress.{Progress}
use Rattle.standing.specs.Finding.{read_at}
use Rattle.standing.proofs.receiving.read_entries.Given as goal

abbrev pub invariant-loop-a : goal.invariant-loop-a
invariant-loop-a l = Progress (read_at l.store.keys.now l.store.ids.now l.store.counts l.item l.n) l.store.counts.authors l.initial.out (l.a - 1) l.used l.out

-- `standing::sending::put_entries` meets its contract: the entry with the least key above the last one, again and again.
-- Assumes nothing.
use Prim.Native.Nat.{◌/◌}
use mathlib.Core.Path.{◌≡◌}
use lib.ListN.{length}
use Rattle.standing.proofs.Putting.{Putting}
use Rattle.standing.proofs.sending.put_entries.Given as goal

abbrev pub invariant-loop-k : goal.invariant-loop-k
invariant-loop-k l = (l.n ≡ length l.f / 5) × ((length l.out ≡ length l.initial.out) × Putting l.keys l.ids l.f (length l.f / 5) l.initial.out l.k l.last l.out)

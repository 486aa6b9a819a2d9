-- `standing::sending::next_entry` meets its contract: the best of the entries so far.
-- Assumes nothing.
use Prim.Native.Nat.{◌/◌, ◌≤◌}
use mathlib.Core.Path.{◌≡◌}
use lib.ListN.{length}
use Rattle.chunks.specs.Piece.{piece_at}
use Rattle.standing.specs.Selecting.{next_after}
use Rattle.standing.proofs.sending.next_entry.Given as goal

abbrev pub invariant-loop-i : goal.invariant-loop-i
invariant-loop-i l = (l.n ≡ length l.f / 5) × ((l.i ≤ l.n) × ((l.best ≤ l.i) × (l.best ≡ next_after l.keys l.f (piece_at l.keys l.last) l.i)))

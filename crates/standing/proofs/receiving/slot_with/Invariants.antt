-- `standing::receiving::slot_with` meets its contract: the rest of the entries decides.
-- Assumes nothing.
use Prim.Native.Nat.{◌-◌, ◌≤◌}
use mathlib.Core.Path.{◌≡◌}
use Rattle.chunks.specs.Piece.{piece_at}
use Rattle.standing.specs.Finding.{read_at, rows_for}
use Rattle.standing.proofs.receiving.slot_with.Given as goal

abbrev pub invariant-loop-i : goal.invariant-loop-i
invariant-loop-i l =
    (l.i ≤ l.n) × (read_at l.keys l.ids l.counts l.item l.n l.author ≡ rows_for l.ids l.counts.rows l.item (piece_at l.keys l.author) (l.n - l.i) l.i)

-- `block::turns` meets its contract. The loop's invariant: the working words are those after 16 * q turns, and the sixteen
-- words, until the last quarter is done, those at that place of the schedule.
-- Assumes nothing.
use Rattle.std.proofs.Common.{◌≡◌, ◌*◌, ◌≤◌, drop}
use Rattle.sha256.specs.Sha256.{W, rounds}
use Rattle.sha256.proofs.block.turns.Given as goal

abbrev pub invariant-loop-q : goal.invariant-loop-q
invariant-loop-q l = (l.v ≡ rounds (W l.initial.w 48) l.initial.v (16 * l.q)) × (l.q ≤ 3 → l.w ≡ drop (16 * l.q) (W l.initial.w (16 * l.q)))

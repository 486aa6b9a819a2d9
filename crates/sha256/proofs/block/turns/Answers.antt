-- `block::turns` meets its contract. The loop's invariant: the working words are those after 16 * q turns, and the sixteen
-- words, until the last quarter is done, those at that place of the schedule.
-- Assumes nothing.
use Rattle.std.proofs.Common.{◌≡◌, ℕ, ◌+◌, ◌*◌, ◌≤◌, length, drop, ap, ◌∙◌, arith}
use Rattle.sha256.specs.Sha256.{W, rounds}
use Rattle.sha256.proofs.Steps.{rounds_none, W_none, W_on, W_window}
use Rattle.sha256.proofs.block.turns.Goals.{then-q-lt3, else-q-lt3}
use Rattle.sha256.proofs.block.turns.Goals as goal

pub loop-q-init : goal.loop-q-init
loop-q-init c = (rounds_none _ _, λ h. W_none _)

pub loop-q-preserved : goal.loop-q-preserved
loop-q-preserved c =
    let a = c.args in
    let l = c.loop-q in
    let n : length a.block ≡ 16 = omega arith in
    let k : 16 * l.q ≤ 48 = omega arith in
    let e : 16 * l.q + 16 ≡ 16 * (l.q + 1) = omega arith in
    let w = l.invariant.1 (omega arith) in (
      c.sixteen_turns-next.ensures (W a.block 48) a.h (16 * l.q) c.quarter.ensures
          (W_window a.block l.w (16 * l.q) n k w) l.invariant.0
          ∙ ap (rounds (W a.block 48) a.h) e,
      λ h.
          elim c.if-q-lt3.branch [
            | then-q-lt3 t ↦
                t.w-is
                ∙ W_on a.block l.w t.next_words-after.result (16 * l.q) 16 w t.next_words-after.ensures
                ∙ ap (λ (i : ℕ). drop i (W a.block i)) e
            | else-q-lt3 t ↦ absurd (omega (arith, t.if-q-lt3, h))
          ],
    )

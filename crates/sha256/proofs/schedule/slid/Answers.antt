-- `schedule::slid` meets its contract: the last fifteen words, spelled, and the next one.
-- Assumes nothing.
use Rattle.std.proofs.Common.{◌≡◌, length, arith}
use Rattle.sha256.proofs.Steps.{spelled, W_one}
use Rattle.sha256.proofs.schedule.slid.Goals as goal

pub returns : goal.returns
unfolding spelled
returns c =
    let w = c.args.w in
    let n : length w ≡ 16 = omega arith in
    W_one w c.next_word-next.result n c.next_word-next.ensures

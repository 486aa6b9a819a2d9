-- `schedule::next_words` meets its contract. The loop's invariant: the words are the sixteen at the place that was counted to.
-- Assumes nothing.
use Rattle.sha256.proofs.Steps.{W_none, W_on}
use Rattle.sha256.proofs.schedule.next_words.Goals as goal

pub loop-init : goal.loop-init
loop-init c = W_none _

pub loop-preserved : goal.loop-preserved
loop-preserved c =
    let l = c.loop in
    W_on c.args.words l.w c.slid-next.result l.counter 1 l.invariant c.slid-next.ensures

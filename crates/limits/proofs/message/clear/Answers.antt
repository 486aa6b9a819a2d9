-- `limits::message::clear` meets its contract.
-- Assumes nothing.
use Rattle.std.proofs.Common.{◌∙◌}
use Rattle.limits.proofs.Laws.{zeroed_all}
use Rattle.limits.proofs.message.clear.Goals as goal

pub returns : goal.returns
returns c = c.fill.ensures.after (λ y e. e) ∙ zeroed_all c.args.item.now

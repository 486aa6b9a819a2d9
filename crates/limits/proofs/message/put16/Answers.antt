-- `limits::message::put16` meets its contract.
-- Assumes nothing.
use Rattle.limits.proofs.Laws.{number_put_lem}
use Rattle.limits.proofs.message.put16.Goals as goal

pub returns : goal.returns
returns c =
    let a = c.args in
    number_put_lem a.item.now a.at a.n _ _ c.put.ensures c.put-2.ensures

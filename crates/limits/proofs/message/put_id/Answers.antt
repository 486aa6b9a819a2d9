-- `limits::message::put_id` meets its contract.
-- Assumes nothing.
use Rattle.limits.proofs.Laws.{bytes_put_lem}
use Rattle.limits.proofs.message.put_id.Goals as goal

pub returns : goal.returns
returns c =
    let a = c.args in
    bytes_put_lem a.item.now a.at _ _ _ _ c.put.ensures c.id_at.ensures

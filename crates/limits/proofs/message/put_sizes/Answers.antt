-- `limits::message::put_sizes` meets its contract.
-- Assumes nothing.
use Rattle.limits.proofs.Laws.{sizes_put_lem}
use Rattle.limits.proofs.message.put_sizes.Goals as goal

pub returns : goal.returns
returns c =
    let a = c.args in
    sizes_put_lem a.item.now a.payload a.count _ _ _ _ c.put16.ensures c.put16-2.ensures
    c.put16-3.ensures c.put16-4.ensures

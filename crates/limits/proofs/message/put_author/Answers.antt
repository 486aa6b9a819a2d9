-- `limits::message::put_author` meets its contract.
-- Assumes nothing.
use Rattle.limits.proofs.Laws.{author_put_lem}
use Rattle.limits.proofs.message.put_author.Goals as goal

pub returns : goal.returns
returns c =
    let a = c.args in
    author_put_lem a.item.now a.author a.index _ _ _
    c.put.ensures
    c.put16.ensures c.put16-2.ensures

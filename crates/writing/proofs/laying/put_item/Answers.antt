-- `writing::laying::put_item` meets its contract: the four parts lie one behind the other, and are the item.
-- Assumes nothing.
use native.Mathlib.Omega.{arith}
use Rattle.writing.specs.Message.{message_of}
use Rattle.writing.proofs.Items.{item_laid}
use Rattle.writing.proofs.laying.put_item.Goals as goal

pub returns : goal.returns
returns c =
    let a = c.args in
    let m = message_of a.mark a.key.now a.previous.now a.index a.payload.now a.dependencies.now a.signature.now in
    item_laid m _ a.out.now _ _ _ _ c.requires (omega arith) c.put_head.ensures c.put_author.ensures
    c.put_payload.ensures c.put_end.ensures

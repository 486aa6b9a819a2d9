-- `item::hashed_of` meets its contract: the part is all that follows the mark.
-- Assumes nothing.
use Rattle.basics.proofs.Prefixes.{rest_none, rest_all}
use Rattle.item.proofs.hashed_of.Goals as goal

pub returns-then-item-le-AT_KEY : goal.returns-then-item-le-AT_KEY
returns-then-item-le-AT_KEY c = rest_none 7 c.args.item.now c.if-item-le-AT_KEY.true

pub returns : goal.returns
returns c = rest_all 7 c.args.item.now

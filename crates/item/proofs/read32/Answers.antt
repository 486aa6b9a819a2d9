-- `item::read32` meets its contract: two numbers of two bytes, the low one first.
-- Assumes nothing.
use Rattle.item.specs.Little.{le32}
use Rattle.std.proofs.Common.{rules}
use Rattle.item.proofs.read32.Goals as goal

pub returns : goal.returns
unfolding le32
returns c = search rules

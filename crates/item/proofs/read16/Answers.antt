-- `item::read16` meets its contract: each byte is below 256 and stands for itself.
-- Assumes nothing.
use Rattle.item.specs.Little.{le16}
use Rattle.std.proofs.Common.{rules}
use Rattle.item.proofs.read16.Goals as goal

pub returns : goal.returns
unfolding le16
returns c = search rules

-- `salvage::salvage_few` meets its contract.
-- Assumes nothing.
use Rattle.salvage.proofs.Ending.{begins_in}
use Rattle.salvage.proofs.salvage_few.Goals as goal

pub salvage_items-requires : goal.salvage_items-requires
salvage_items-requires c = (
  (begins_in c.args.stick.now _ c.args.n c.requires.0.0.0 c.fill_begins.ensures, c.requires.0.1),
  c.requires.1,
)

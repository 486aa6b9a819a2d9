-- `salvage::names::lacks` meets its contract.
-- Assumes nothing.
use Rattle.salvage.proofs.Naming.{lacks_none}
use Rattle.salvage.proofs.names.lacks.Goals as goal

pub returns : goal.returns
returns c = let a = c.args in lacks_none a.ids.now a.id.now a.n c.find_id.result c.is_none.result c.find_id.ensures c.is_none.ensures

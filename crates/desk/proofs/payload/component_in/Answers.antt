-- `desk::payload::component_in` meets its contract.
-- Assumes nothing.
use Rattle.desk.proofs.Steps.{component_said}
use Rattle.desk.proofs.payload.component_in.Goals as goal

pub returns : goal.returns
returns c = component_said c.args.payload.now _ _ c.from.ensures c.from-2.ensures

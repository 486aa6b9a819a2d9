-- `host::tables::snowknoll_well_formed` meets its contract: by the decision.
-- Assumes nothing.
use Rattle.std.proofs.Common.{rules}
use mathlib.Core.Path.{refl}
use Rattle.host.specs.Calls.{sound, damaged}
use Rattle.host.proofs.tables.snowknoll_well_formed.Goals as goal

pub returns-then-well_formed : goal.returns-then-well_formed
returns-then-well_formed c = sound refl (c.well_formed-2.ensures.yes c.if-well_formed.true)

pub returns : goal.returns
returns c = damaged refl (c.well_formed-2.ensures.no c.if-well_formed.false)

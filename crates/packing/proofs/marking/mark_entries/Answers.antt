-- `packing::marking::mark_entries` meets its contract: after some entries what they pack is marked, and from each root a walk may begin.
-- Assumes nothing.
use Rattle.packing.proofs.Filling.{entered_more}
use Rattle.packing.proofs.marking.mark_entries.Goals as goal

pub loop-entry-preserved : goal.loop-entry-preserved
loop-entry-preserved c =
    let p = c.mark_entry in
    entered_more c.loop-entry.invariant c.loop-entry-test.true p.auto.marks p.ensures

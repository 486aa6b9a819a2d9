-- `frontiers::comparing::below_entry` meets its contract.
-- Assumes nothing.
use Rattle.frontiers.proofs.Slots.{entries_pair}
use Rattle.frontiers.proofs.comparing.below_entry.Goals as goal

pub below_states-requires : goal.below_states-requires
below_states-requires c =
    let a = c.args in
    entries_pair a.store.now.ids.now a.store.now.rows.now a.store.now.counts a.f.now a.g.now
    c.requires a.a _ _ _ _
    c.in-Some.is c.in-Some-find_entry.is
    c.find_entry.ensures c.find_entry-2.ensures

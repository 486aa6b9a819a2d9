-- `frontiers::merging::write_merged` meets its contract.
-- Assumes nothing.
use Prim.Native.Nat.{◌+◌}
use native.Mathlib.Omega.{arith}
use Rattle.logs.specs.Held.{chain}
use Rattle.frontiers.specs.Merging.{joined_at}
use Rattle.frontiers.proofs.Progress.{progress_room, progress_more, merged_start, merged_end}
use Rattle.frontiers.proofs.merging.write_merged.Goals as goal

pub loop-a-init : goal.loop-a-init
loop-a-init c =
    let a = c.args in
    merged_start (chain a.store.now.ids.now a.store.now.rows.now a.store.now.counts.rows) a.store.now.counts.authors a.f.now a.g.now a.out.now c.requires.1

pub write_slot-used-requires : goal.write_slot-used-requires
write_slot-used-requires c =
    let a = c.args in
    let l = c.loop-a in
    progress_room (joined_at (chain a.store.now.ids.now a.store.now.rows.now a.store.now.counts.rows) a.f.now a.g.now) a.store.now.counts.authors a.out.now l.a l.used
    l.out l.invariant c.joined_entry-slot.result (omega arith) (omega arith) c.joined_entry-slot.ensures

pub loop-a-preserved : goal.loop-a-preserved
loop-a-preserved c =
    let a = c.args in
    let l = c.loop-a in
    progress_more (joined_at (chain a.store.now.ids.now a.store.now.rows.now a.store.now.counts.rows) a.f.now a.g.now) a.store.now.counts.authors a.out.now l.a
    l.used l.out l.invariant c.joined_entry-slot.result (omega arith) (omega arith)
    c.joined_entry-slot.ensures _ _ c.write_slot-used.ensures

pub returns : goal.returns
returns c =
    let a = c.args in
    let l = c.loop-a in
    merged_end (chain a.store.now.ids.now a.store.now.rows.now a.store.now.counts.rows) a.store.now.counts.authors a.f.now a.g.now a.out.now l.a l.used
    l.out l.invariant (omega arith)

pub returns-2 : goal.returns-2
returns-2 c =
    let a = c.args in
    let l = c.loop-a in
    merged_end (chain a.store.now.ids.now a.store.now.rows.now a.store.now.counts.rows) a.store.now.counts.authors a.f.now a.g.now a.out.now (l.a + 1) _ _
    (progress_more (joined_at (chain a.store.now.ids.now a.store.now.rows.now a.store.now.counts.rows) a.f.now a.g.now) a.store.now.counts.authors a.out.now l.a
    l.used l.out l.invariant c.joined_entry-slot.result (omega arith) (omega arith)
    c.joined_entry-slot.ensures _ _ c.write_slot-used.ensures) (omega arith)

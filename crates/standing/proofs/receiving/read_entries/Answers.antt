-- `standing::receiving::read_entries` meets its contract: the authors so far are written.
-- Assumes nothing.
use Prim.Native.Nat.{◌+◌}
use native.Mathlib.Omega.{arith}
use Rattle.frontiers.proofs.Progress.{progress_room, progress_more}
use Rattle.standing.specs.Finding.{read_at}
use Rattle.standing.proofs.Authors.{reading_start, reading_end}
use Rattle.standing.proofs.receiving.read_entries.Goals as goal

pub loop-a-init : goal.loop-a-init
loop-a-init c = let a = c.args in reading_start a.store.now.keys.now a.store.now.ids.now a.store.now.counts a.item.now a.n a.out.now c.requires.1.1.1

pub slot_with-slot-requires : goal.slot_with-slot-requires
slot_with-slot-requires c = let p = c.requires in (p.0, p.1.1.0)

pub write_slot-used-requires : goal.write_slot-used-requires
write_slot-used-requires c =
    let a = c.args in
    let l = c.loop-a in
    progress_room (read_at a.store.now.keys.now a.store.now.ids.now a.store.now.counts a.item.now a.n) a.store.now.counts.authors a.out.now l.a l.used l.out
    l.invariant c.slot_with-slot.result (omega arith) (omega arith) c.slot_with-slot.ensures

pub loop-a-preserved : goal.loop-a-preserved
loop-a-preserved c =
    let a = c.args in
    let l = c.loop-a in
    progress_more (read_at a.store.now.keys.now a.store.now.ids.now a.store.now.counts a.item.now a.n) a.store.now.counts.authors a.out.now l.a l.used l.out
    l.invariant c.slot_with-slot.result (omega arith) (omega arith) c.slot_with-slot.ensures _ _ c.write_slot-used.ensures

pub returns : goal.returns
returns c =
    let a = c.args in
    let l = c.loop-a in
    reading_end a.store.now.keys.now a.store.now.ids.now a.store.now.counts a.item.now a.n a.out.now l.a l.used l.out l.invariant (omega arith)

pub returns-2 : goal.returns-2
returns-2 c =
    let a = c.args in
    let l = c.loop-a in
    reading_end a.store.now.keys.now a.store.now.ids.now a.store.now.counts a.item.now a.n a.out.now (l.a + 1) _ _
    (progress_more (read_at a.store.now.keys.now a.store.now.ids.now a.store.now.counts a.item.now a.n) a.store.now.counts.authors a.out.now l.a l.used l.out
    l.invariant c.slot_with-slot.result (omega arith) (omega arith) c.slot_with-slot.ensures _ _ c.write_slot-used.ensures) (omega arith)

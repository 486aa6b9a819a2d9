-- The cycle of calls of `pack_list` and `pack_row` meets its contracts.
-- Assumes nothing.
use Rattle.std.proofs.Common.{refl, ap, arith}
use Rattle.store.specs.declared.Row.{Row}
use Rattle.packing.proofs.Marks.{none_marked}
use Rattle.packing.proofs.Calls.{done_none, done_more, dependency_call, list_call, both_called}
use Rattle.packing.proofs.walk.+pack_list_pack_row.Goals as goal

pub pack_list-loop-place-init : goal.pack_list-loop-place-init
pack_list-loop-place-init t c = done_none c.requires.0 c.requires.1 refl refl

pub pack_list-pack_row-requires : goal.pack_list-pack_row-requires
pack_list-pack_row-requires t c = dependency_call c.requires.0 c.decreases c.loop-place.invariant c.loop-place-test.true c.wide.ensures

pub pack_list-loop-place-preserved : goal.pack_list-loop-place-preserved
pack_list-loop-place-preserved t c = done_more c.loop-place.invariant c.loop-place-test.true c.pack_row.auto.marks c.wide.ensures c.pack_row.ensures

pub pack_row-returns-then-row-eq0 : goal.pack_row-returns-then-row-eq0
pack_row-returns-then-row-eq0 t c = none_marked _ _ c.if-row-eq0.true

pub pack_row-pack_list-requires : goal.pack_row-pack_list-requires
pack_row-pack_list-requires t c = list_call (omega arith) c.decreases c.requires c.pack_row.auto.marks c.pack_row.ensures

pub pack_row-returns : goal.pack_row-returns
pack_row-returns t c =
    both_called (omega arith) c.requires (ap (λ (r : Row). r.prev) c.row_at-this.ensures) c.pack_row.ensures c.pack_list.ensures
    c.pack_list.auto.marks c.pack_row.auto.marks

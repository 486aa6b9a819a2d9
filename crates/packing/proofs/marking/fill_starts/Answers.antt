-- `packing::marking::fill_starts` meets its contract: up to a row the table is right, and the sum is that of the rows so far.
-- Assumes nothing.
use mathlib.Core.Path.{refl, ap}
use native.Mathlib.Omega.{arith}
use lib.ListN.{length-set}
use Rattle.store.specs.declared.Row.{Row}
use Rattle.packing.proofs.Filling.{filled_none, filled_at, sum_fits, filled_all}
use Rattle.packing.proofs.marking.fill_starts.Goals as goal

pub loop-row-init : goal.loop-row-init
loop-row-init c = let a = c.args in (0, refl, filled_none a.rows.now a.starts.now a.count (omega arith))

pub overflow_add-sum : goal.overflow_add-sum
overflow_add-sum c =
    let p = c.loop-row.invariant in
    let h = sum_fits p.2 (omega arith) (rw p.1 at (ap (λ (r : Row). r.deps) c.row_at-this.ensures)) in omega arith

pub loop-row-preserved : goal.loop-row-preserved
loop-row-preserved c =
    let p = c.loop-row.invariant in
    (c.loop-row.row, refl, filled_at p.2 p.1 c.loop-row-test.true (simp length-set (omega arith)) (ap (λ (r : Row). r.deps) c.row_at-this.ensures))

pub returns-2 : goal.returns-2
returns-2 c =
    let p = c.loop-row.invariant in
    filled_all (filled_at p.2 p.1 c.loop-row-test.true (simp length-set (omega arith)) (ap (λ (r : Row). r.deps) c.row_at-this.ensures)) (omega arith) (simp length-set (omega arith))

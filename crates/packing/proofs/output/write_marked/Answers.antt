-- `packing::output::write_marked` meets its contract: at the front of `out` stands the list of the marked rows so far, and behind it what `out` held.
-- Assumes nothing.
use mathlib.Core.Path.{refl}
use native.Mathlib.Omega.{arith}
use Rattle.packing.proofs.Listing.{put_none, room_at, marked_at, skipped_at, put_all}
use Rattle.packing.proofs.output.write_marked.Goals as goal
use Rattle.packing.proofs.output.write_marked.Goals.{then-marks-row-eq1, else-marks-row-eq1}

pub loop-row-init : goal.loop-row-init
loop-row-init c = (0, refl, put_none _ _ _)

pub bounds-out-used : goal.bounds-out-used
bounds-out-used c = let p = c.loop-row.invariant in room_at p.2 p.1 c.loop-row-test.true c.if-marks-row-eq1.true c.requires.1.1

pub loop-row-preserved : goal.loop-row-preserved
loop-row-preserved c =
    let p = c.loop-row.invariant in (
      c.loop-row.row,
      refl,
      elim c.if-marks-row-eq1.branch [
        | then-marks-row-eq1 w ↦ rw (w.out-is, w.used-is) (marked_at p.2 p.1 c.loop-row-test.true w.if-marks-row-eq1.true c.requires.1.1)
        | else-marks-row-eq1 w ↦ rw (w.out-is, w.used-is) (skipped_at p.2 p.1 c.loop-row-test.true w.if-marks-row-eq1.false)
      ],
    )

pub returns-after-marks-row-eq1 : goal.returns-after-marks-row-eq1
returns-after-marks-row-eq1 c =
    let p = c.loop-row.invariant in
    elim c.if-marks-row-eq1.branch [
      | then-marks-row-eq1 w ↦ rw w.out-is (put_all (marked_at p.2 p.1 c.loop-row-test.true w.if-marks-row-eq1.true c.requires.1.1) (omega arith))
      | else-marks-row-eq1 w ↦ rw w.out-is (put_all (skipped_at p.2 p.1 c.loop-row-test.true w.if-marks-row-eq1.false) (omega arith))
    ]

-- `catalogue::looking::same_or_before` meets its contract: in the log, or by a walk from nothing marked.
-- Assumes nothing.
use native.Mathlib.Omega.{arith}
use Rattle.basics.proofs.Decisions.{decided_yes, decided_no}
use Rattle.packing.proofs.Result.{zeros_blank}
use Rattle.catalogue.proofs.Back.{later_not, log_before, blank_closed, walk_decides}
use Rattle.catalogue.proofs.looking.same_or_before.Goals as goal

pub returns-then-row-earlier : goal.returns-then-row-earlier
returns-then-row-earlier c =
    decided_no (later_not c.args.rows.now c.args.deps.now c.args.earlier c.args.row c.requires.1.orderly.falling c.if-row-earlier.true)

pub returns-then-climbs_to : goal.returns-then-climbs_to
returns-then-climbs_to c =
    decided_yes (log_before c.requires.1.orderly.falling (omega arith) (c.climbs_to.ensures.yes c.if-climbs_to.true))

pub pack_row-requires : goal.pack_row-requires
pack_row-requires c =
    let l = c.requires.1.limit in
    record {
      falling = c.requires.1.orderly.falling;
      starts_right = c.requires.1.begins;
      closed = blank_closed c.args.rows.now c.args.deps.now _ (zeros_blank 1025);
      marks_held = omega arith;
    }

pub bounds-marks-earlier : goal.bounds-marks-earlier
bounds-marks-earlier c =
    let l = c.requires.1.limit in
    omega (arith, c.if-row-earlier.false)

pub returns : goal.returns
returns c =
    walk_decides c.args.rows.now c.args.deps.now _ _ c.args.earlier c.args.row c.requires.0
    (omega (arith, c.if-row-earlier.false)) (zeros_blank 1025)
    c.pack_row.ensures

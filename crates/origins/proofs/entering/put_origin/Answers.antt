-- `origins::entering::put_origin` meets its contract.
-- Assumes nothing.
use native.Mathlib.Omega.{arith}
use lib.ListN.{length}
use Rattle.origins.proofs.Placing.{placed_row}
use Rattle.origins.proofs.entering.put_origin.Goals as goal

pub overflow_sub-origins : goal.overflow_sub-origins
overflow_sub-origins c =
    omega (arith, c.wide.ensures, (placed_row (length c.args.origins.now) c.args.answer c.in-Done.row c.in-Done.is c.requires).0)

pub bounds-origins-wide : goal.bounds-origins-wide
bounds-origins-wide c =
    let p = placed_row (length c.args.origins.now) c.args.answer c.in-Done.row c.in-Done.is c.requires in
    omega (arith, c.wide.ensures, p.0, p.1)

pub returns-in-Done : goal.returns-in-Done
returns-in-Done c = rw (c.in-Done.is, c.wide.ensures)

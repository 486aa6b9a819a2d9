-- `catalogue::entering::admit_item` meets its contract: what the verdict gives is written, and every other verdict leaves the parts.
-- Assumes nothing.
use native.Mathlib.Omega.{arith}
use Rattle.store.specs.Clauses.{table_held}
use Rattle.admission.proofs.Writing.{held_within}
use Rattle.catalogue.specs.Profile.{judged}
use Rattle.catalogue.proofs.Judged.{under_fits, under_holds, under_breaks, on_all, held}
use Rattle.catalogue.proofs.entering.admit_item.Goals as goal

pub write_placed-requires : goal.write_placed-requires
write_placed-requires c =
    let a = c.args in
    let t = table_held a.store.now in
    record {
      store = c.requires.store;
      laid = c.requires.laid;
      id_is = c.id_of-id.ensures;
      given = (under_fits t a.item.now a.f _ c.in-Fits.row
          (rw c.read.ensures at c.judge_under-verdict.ensures) c.in-Fits.is).1;
    }

pub narrow-requires : goal.narrow-requires
narrow-requires c =
    let a = c.args in
    let t = table_held a.store.now in
    let h = held_within t a.item.now a.f c.requires.store c.requires.laid c.in-Holds.r
    (under_holds t a.item.now a.f _ c.in-Holds.r (rw c.read.ensures at c.judge_under-verdict.ensures) c.in-Holds.is).1 in
    omega (arith, h, c.requires.store.rows_limit)

pub returns-in-Fits-clause-judged : goal.returns-in-Fits-clause-judged
returns-in-Fits-clause-judged c =
    let a = c.args in
    let t = table_held a.store.now in
    judged (on_all t a.item.now a.f c.requires.laid
    (under_fits t a.item.now a.f _ c.in-Fits.row
    (rw c.read.ensures at c.judge_under-verdict.ensures) c.in-Fits.is).0)
    c.write_placed.ensures.judged

pub returns-in-Holds-clause-judged : goal.returns-in-Holds-clause-judged
returns-in-Holds-clause-judged c =
    let a = c.args in
    let t = table_held a.store.now in
    let u = under_holds t a.item.now a.f _ c.in-Holds.r (rw c.read.ensures at c.judge_under-verdict.ensures) c.in-Holds.is in
    judged (on_all t a.item.now a.f c.requires.laid u.0)
    (held t a.origins.now a.origin a.item.now a.f c.requires.laid c.in-Holds.r _ u.1 c.narrow.ensures)

pub returns-in-Breaks-clause-judged : goal.returns-in-Breaks-clause-judged
returns-in-Breaks-clause-judged c =
    let a = c.args in
    let t = table_held a.store.now in
    under_breaks t a.origins.now a.origin a.item.now a.f c.requires.laid _ c.in-Breaks.r (rw c.read.ensures at c.judge_under-verdict.ensures)
    c.in-Breaks.is

-- `admission::admit_item` meets its contract: what the verdict gives is written, and every other verdict leaves the parts.
-- Assumes nothing.
use mathlib.Core.Path.{sym, ◌∙◌}
use native.Mathlib.Omega.{arith}
use Rattle.store.specs.Clauses.{table_held}
use Rattle.admission.proofs.Writing.{writable, held_within, row_free, item_done, item_held, item_refused}
use Rattle.admission.proofs.admit_item.Goals as goal

pub narrow-next-requires : goal.narrow-next-requires
narrow-next-requires c =
    let a = c.args in
    let h =
    row_free (table_held a.store.now) a.item.now a.f
    c.requires.1 c.requires.0 c.in-Fits.row (sym (rw c.read.ensures at c.judge-verdict.ensures) ∙ c.in-Fits.is) in
    omega (arith, h)

pub write_row-requires : goal.write_row-requires
write_row-requires c =
    let a = c.args in
    writable (table_held a.store.now) a.item.now a.f
    c.requires.1 c.requires.0 c.in-Fits.row c.id_of-id.result
    c.id_of-id.ensures (sym (rw c.read.ensures at c.judge-verdict.ensures) ∙ c.in-Fits.is)

pub narrow-requires : goal.narrow-requires
narrow-requires c =
    let a = c.args in
    let h =
    held_within (table_held a.store.now) a.item.now a.f
    c.requires.1 c.requires.0 c.in-Holds.r (sym (rw c.read.ensures at c.judge-verdict.ensures) ∙ c.in-Holds.is) in
    omega (arith, h, c.requires.1.rows_limit)

pub returns-in-Fits-clause-judged : goal.returns-in-Fits-clause-judged
returns-in-Fits-clause-judged c =
    let a = c.args in
    item_done (table_held a.store.now) a.item.now a.f
    c.judge-verdict.result (rw c.read.ensures at c.judge-verdict.ensures) c.in-Fits.row _
    c.narrow-next.result c.in-Fits.is c.write_row.ensures.judged
    c.narrow-next.ensures

pub returns-in-Holds-clause-judged : goal.returns-in-Holds-clause-judged
returns-in-Holds-clause-judged c =
    let a = c.args in
    item_held (table_held a.store.now) a.item.now a.f
    c.judge-verdict.result (rw c.read.ensures at c.judge-verdict.ensures) c.in-Holds.r c.narrow.result c.in-Holds.is c.narrow.ensures

pub returns-in-Breaks-clause-judged : goal.returns-in-Breaks-clause-judged
returns-in-Breaks-clause-judged c =
    let a = c.args in
    item_refused (table_held a.store.now) a.item.now a.f
    c.judge-verdict.result (rw c.read.ensures at c.judge-verdict.ensures) c.in-Breaks.r c.in-Breaks.is

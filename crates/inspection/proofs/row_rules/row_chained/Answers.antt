-- `inspection::row_chained` meets its contract: each answer by the tests that led there.
-- Assumes nothing.
use mathlib.Core.Path.{sym, ap, ◌∙◌}
use borrow.Author.Tests.{ne_eqb}
use native.Mathlib.Omega.{arith}
use Rattle.store.proofs.Bytes.{row_two_bytes}
use Rattle.inspection.proofs.Turns.{chained_first, chained_late, chained_other, chained_own}
use Rattle.inspection.proofs.row_rules.row_chained.Goals as goal

pub returns-then-row-eq0 : goal.returns-then-row-eq0
returns-then-row-eq0 c =
    let a = c.args in
    sym (chained_first a.rows.now a.r c.row_at-row.result c.row_at-row.ensures c.if-row-eq0.true)

pub returns-then-r-row : goal.returns-then-r-row
returns-then-r-row c =
    let a = c.args in
    sym (chained_late a.rows.now a.r c.row_at-row.result c.row_at-row.ensures c.if-row-eq0.false (omega (arith, c.if-r-row.true)))

pub overflow_add-result : goal.overflow_add-result
overflow_add-result c =
    let a = c.args in
    let s = (row_two_bytes a.rows.now (λ i. (c.type_inv.rows i).fits) c.row_at-row.result.prev).index in
    let e = ap (λ x. x.index) c.row_at-prev.ensures in
    omega (arith, s, e)

pub returns-then-prev-row : goal.returns-then-prev-row
returns-then-prev-row c =
    let a = c.args in
    sym (chained_own a.rows.now a.r c.row_at-row.result c.row_at-row.ensures c.if-row-eq0.false c.row_at-prev.result
    c.row_at-prev.ensures (omega (arith, c.if-r-row.false)) c.if-prev-row.true)

pub returns-else-prev-row : goal.returns-else-prev-row
returns-else-prev-row c =
    let a = c.args in
    ne_eqb _ _ c.if-prev-row.false
    ∙ sym (chained_other a.rows.now a.r c.row_at-row.result c.row_at-row.ensures c.if-row-eq0.false c.row_at-prev.result
    c.row_at-prev.ensures (omega (arith, c.if-r-row.false)) c.if-prev-row.false)

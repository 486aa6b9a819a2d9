-- `inspection::deps_add_up` meets its contract: the sum of the rows passed is at hand, and stays within the total.
-- Assumes nothing.
use Rattle.std.proofs.Common.{rules}
use Prim.Native.Nat.{◌+◌}
use mathlib.Core.Path.{◌≡◌, sym, ap}
use native.Mathlib.Omega.{arith}
use lib.Dec.{eqb}
use Rattle.store.specs.Table.{row_at, dep_sum}
use Rattle.store.proofs.Rows.{sum_none, sum_more}
use Rattle.inspection.proofs.Turns.{sum_over}
use Rattle.inspection.proofs.dep_rules.deps_add_up.Goals as goal

pub loop-i-init : goal.loop-i-init
loop-i-init c =
    let e : 0 ≡ dep_sum c.args.rows.now 0 = sum_none c.args.rows.now in
    (search rules, e)

pub returns-then-total-sum : goal.returns-then-total-sum
returns-then-total-sum c =
    let a = c.args in
    sym (sum_over a.rows.now a.n c.loop-i.i a.total c.row_at-row.result c.row_at-row.ensures
    (search rules) (omega (arith, c.loop-i.invariant.1)) (omega (arith, c.loop-i.invariant.1)))

pub loop-i-preserved : goal.loop-i-preserved
loop-i-preserved c =
    let a = c.args in
    let q = c.row_at-row in
    let e : q.result.deps ≡ (row_at a.rows.now (c.loop-i.i + 1)).deps = ap (λ x. x.deps) q.ensures in
    (search rules, omega (arith, e, c.loop-i.invariant.1, sum_more a.rows.now c.loop-i.i))

pub returns : goal.returns
returns c =
    let l = c.loop-i in
    let a = c.args in
    let e : l.i ≡ a.n = omega arith in
    let f : l.sum ≡ dep_sum a.rows.now a.n = rw e at l.invariant.1 in
    ap (λ s. eqb s a.total) f

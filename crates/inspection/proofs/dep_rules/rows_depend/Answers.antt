-- `inspection::rows_depend` meets its contract: all rows passed keep the rule, and the dependencies of the next begin at `start`.
-- Assumes nothing.
use Rattle.std.proofs.Common.{rules}
use Prim.Native.Nat.{◌≤◌, ◌+◌}
use mathlib.Core.Path.{◌≡◌, refl, sym, ap, ◌∙◌}
use mathlib.Core.Bool.{true, false}
use lib.ListN.{length}
use native.Mathlib.Omega.{arith}
use Rattle.basics.proofs.Tests.{not_both_ways}
use Rattle.store.specs.Table.{row_at, deps_in, depends}
use Rattle.store.proofs.Rows.{sum_none, sum_more}
use Rattle.inspection.proofs.Turns.{up_to_more, part_within, part_deps}
use Rattle.inspection.proofs.dep_rules.rows_depend.Goals as goal
use Rattle.inspection.proofs.dep_rules.rows_depend.Goals.{After-struct_known-1}

pub loop-i-init : goal.loop-i-init
loop-i-init c =
    let a = c.args in
    (sum_none a.rows.now, (c.requires, λ r h k. absurd (omega arith)))

-- The dependencies of the row at hand lie within the part.
room : (c : After-struct_known-1) → c.loop-i.start + c.row_at-row.result.deps ≤ length c.args.deps.now
room c =
    let a = c.args in
    part_within a.rows.now c.loop-i.i c.loop-i.start c.row_at-row.result c.loop-i.invariant.0 c.row_at-row.ensures
    a.n (length a.deps.now) (search rules) c.loop-i.invariant.1.0

pub overflow_add-end : goal.overflow_add-end
overflow_add-end c = omega (arith, room c)

pub offset_bounds-deps-start : goal.offset_bounds-deps-start
offset_bounds-deps-start c = omega (arith, room c)

pub slice_bounds-row_depends-end : goal.slice_bounds-row_depends-end
slice_bounds-row_depends-end c = omega (arith, room c)

pub returns-then-not-row_depends : goal.returns-then-not-row_depends
returns-then-not-row_depends c =
    let a = c.args in
    let q = c.row_at-row in
    let e : depends a.rows.now (c.loop-i.i + 1) (deps_in a.rows.now a.deps.now (c.loop-i.i + 1)) ≡ false =
    ap (depends a.rows.now (c.loop-i.i + 1)) (sym (part_deps a.rows.now c.loop-i.i c.loop-i.start q.result c.loop-i.invariant.0
    q.ensures a.deps.now))
    ∙ sym c.row_depends.ensures ∙ c.if-not-row_depends.true
    in
    record {
      yes = λ t. absurd (not_both_ways true refl (sym t));
      no = λ _ w. not_both_ways _ (w (c.loop-i.i + 1) (search rules) (omega arith)) e;
    }

pub loop-i-preserved : goal.loop-i-preserved
loop-i-preserved c =
    let a = c.args in
    let q = c.row_at-row in
    let e : depends a.rows.now (c.loop-i.i + 1) (deps_in a.rows.now a.deps.now (c.loop-i.i + 1)) ≡ true =
    ap (depends a.rows.now (c.loop-i.i + 1)) (sym (part_deps a.rows.now c.loop-i.i c.loop-i.start q.result c.loop-i.invariant.0
    q.ensures a.deps.now))
    ∙ sym c.row_depends.ensures ∙ c.if-not-row_depends.false
    in
    let f : q.result.deps ≡ (row_at a.rows.now (c.loop-i.i + 1)).deps = ap (λ x. x.deps) q.ensures in (
      omega (arith, f, c.loop-i.invariant.0, sum_more a.rows.now c.loop-i.i),
      (
        c.loop-i.invariant.1.0,
        up_to_more (λ r. depends a.rows.now r (deps_in a.rows.now a.deps.now r) ≡ true) c.loop-i.i c.loop-i.invariant.1.1 e,
      ),
    )

pub returns : goal.returns
returns c =
    let l = c.loop-i in
    let a = c.args in
    let e : l.i ≡ a.n = omega arith in
    record { yes = λ t. rw e at l.invariant.1.1; no = λ t w. not_both_ways true refl t }

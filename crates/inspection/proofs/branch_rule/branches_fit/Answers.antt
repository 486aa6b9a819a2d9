-- `inspection::branches_fit` meets its contract: the table counts the rows passed at each place, and is compared at the end.
-- Assumes nothing.
use Prim.Native.Nat.{ℕ, ◌+◌}
use mathlib.Core.Path.{◌≡◌, refl, ap, ◌∙◌}
use lib.ListN.{get_or, length-set}
use native.Mathlib.Omega.{arith}
use Rattle.basics.proofs.Tests.{not_both_ways}
use Rattle.store.specs.Branches.{counted_at, counted_in}
use Rattle.store.proofs.Counting.{counted_few, counts_turn}
use Rattle.inspection.proofs.Numbers.{counts_none, firsts_same, branches_same, fit_of}
use Rattle.inspection.proofs.branch_rule.branches_fit.Goals as goal
use Rattle.inspection.proofs.branch_rule.branches_fit.Goals.{After-loop-i}

pub loop-i-init : goal.loop-i-init
loop-i-init c = (refl, counts_none c.args.rows.now 1089)

pub overflow_add-counts : goal.overflow_add-counts
overflow_add-counts c =
    let a = c.args in
    let e = c.loop-i.invariant.1 c.counted_at-at.result in
    let f = counted_few a.rows.now c.loop-i.i c.counted_at-at.result in
    let g = c.requires.0.0 in
    omega (arith, e, f, g, c.loop-i.auto.i-end)

pub loop-i-preserved : goal.loop-i-preserved
loop-i-preserved c =
    let a = c.args in
    let x = c.counted_at-at in
    let v = get_or c.loop-i.counts x.result 0 + 1 in
    let turn =
    counts_turn a.rows.now c.loop-i.counts c.loop-i.i x.result v c.loop-i.invariant.1 (omega (arith, x.ensures.1, c.loop-i.invariant.0))
    (x.ensures.0 ∙ ap counted_at c.row_at.ensures) refl in
    (simp length-set c.loop-i.invariant.0, turn)

-- The table counts all rows.
all-counted : (c : After-loop-i) → let a = c.args in (p : ℕ) → get_or c.loop-i.counts p 0 ≡ counted_in a.rows.now a.n p
all-counted c =
    let l = c.loop-i in
    let a = c.args in
    let e : l.i ≡ a.n = omega arith in
    rw e at l.invariant.1

pub returns-then-same_numbers : goal.returns-then-same_numbers
returns-then-same_numbers c =
    let a = c.args in
    let p = c.requires in
    record {
      yes = λ t.
          fit_of a.rows.now a.branches.now c.loop-i.counts a.n a.authors (all-counted ((goal.at.returns-then-same_numbers c).After-loop-i)) p.0.0 p.0.1
          (c.same_numbers.ensures.yes c.if-same_numbers.true)
          (c.same_numbers-then-same_numbers.ensures.yes t);
      no = λ t w. c.same_numbers-then-same_numbers.ensures.no t
          (branches_same a.rows.now a.branches.now c.loop-i.counts a.n a.authors (all-counted ((goal.at.returns-then-same_numbers c).After-loop-i)) p.0.0 p.0.1 w);
    }

pub returns-else-same_numbers : goal.returns-else-same_numbers
returns-else-same_numbers c =
    let a = c.args in
    let p = c.requires in
    record {
      yes = λ t. absurd (not_both_ways _ t c.if-same_numbers.false);
      no = λ _ w. c.same_numbers.ensures.no c.if-same_numbers.false
          (firsts_same a.rows.now a.branches.now c.loop-i.counts a.n a.authors (all-counted ((goal.at.returns-else-same_numbers c).After-loop-i)) p.0.0 p.0.1 w);
    }

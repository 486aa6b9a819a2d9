-- `inspection::authors_appear` meets its contract: the largest author number of the rows passed is at hand, and they keep the rule.
-- Assumes nothing.
use Rattle.std.proofs.Common.{rules}
use Prim.Native.Nat.{◌-◌, ◌+◌}
use mathlib.Core.Path.{◌≡◌, refl, sym, ap, ◌∙◌}
use mathlib.Core.Bool.{true}
use native.Mathlib.Omega.{arith}
use borrow.Author.Tests.{eqb-true, eqb-false}
use Rattle.basics.proofs.Tests.{not_both_ways}
use Rattle.store.specs.Table.{row_at, authors_in, numbered}
use Rattle.store.proofs.Rows.{authors_none, authors_more}
use Rattle.store.proofs.Links.{numbered_says}
use Rattle.inspection.proofs.Turns.{up_to_more, numbered_here}
use Rattle.inspection.proofs.row_rules.authors_appear.Goals as goal

pub loop-i-init : goal.loop-i-init
loop-i-init c = (search rules, (authors_none c.args.rows.now, λ r h k. absurd (omega arith)))

pub returns-then-row-eq0 : goal.returns-then-row-eq0
returns-then-row-eq0 c =
    let a = c.args in
    let q = c.row_at-row in
    let e : q.result.author ≡ (row_at a.rows.now (c.loop-i.i + 1)).author = ap (λ x. x.author) q.ensures in
    record {
      yes = λ t. absurd (not_both_ways true refl (sym t));
      no = λ _ w. omega (
        arith,
        e,
        c.if-row-eq0.true,
        (numbered_says a.rows.now (c.loop-i.i + 1)
            (w.in_order (c.loop-i.i + 1) (search rules) (omega arith))).some,
      );
    }

pub returns-then-most-row : goal.returns-then-most-row
returns-then-most-row c =
    let a = c.args in
    let q = c.row_at-row in
    let e : q.result.author ≡ (row_at a.rows.now (c.loop-i.i + 1)).author = ap (λ x. x.author) q.ensures in
    let f : c.loop-i.i + 1 - 1 ≡ c.loop-i.i = omega arith in
    record {
      yes = λ t. absurd (not_both_ways true refl (sym t));
      no = λ _ w. let p = (numbered_says a.rows.now (c.loop-i.i + 1) (w.in_order (c.loop-i.i + 1) (search rules) (omega arith))).next in let g =
          rw f at p in omega (arith, e, g, c.if-most-row.true, c.loop-i.invariant.1.0);
    }

pub loop-i-preserved : goal.loop-i-preserved
loop-i-preserved c =
    let a = c.args in
    let q = c.row_at-row in
    let e : q.result.author ≡ (row_at a.rows.now (c.loop-i.i + 1)).author = ap (λ x. x.author) q.ensures in
    let f : c.max-most.result ≡ authors_in a.rows.now (c.loop-i.i + 1) = omega
    (arith, e, c.max-most.ensures, c.loop-i.invariant.1.0, authors_more a.rows.now c.loop-i.i) in
    let g : numbered a.rows.now (c.loop-i.i + 1) ≡ true = numbered_here a.rows.now c.loop-i.i q.result q.ensures
    c.if-row-eq0.false (omega (arith, c.if-most-row.false, c.loop-i.invariant.1.0)) in (
      omega (arith, c.max-most.ensures, c.if-most-row.false, c.loop-i.invariant.0),
      (f, up_to_more (λ r. numbered a.rows.now r ≡ true) c.loop-i.i c.loop-i.invariant.1.1 g),
    )

pub returns : goal.returns
returns c =
    let l = c.loop-i in
    let a = c.args in
    let e : l.i ≡ a.n = omega arith in
    let f : l.most ≡ authors_in a.rows.now a.n = rw e at l.invariant.1.0 in
    record {
      yes = λ t. record { in_order = rw e at l.invariant.1.1; appear = sym f ∙ eqb-true l.most a.authors t };
      no = λ t w. eqb-false l.most a.authors t (f ∙ w.appear);
    }

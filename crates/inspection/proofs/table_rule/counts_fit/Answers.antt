-- `inspection::counts_fit` meets its contract: each answer by the tests that led there.
-- Assumes nothing.
use Rattle.std.proofs.Common.{rules}
use mathlib.Core.Path.{refl, sym}
use mathlib.Core.Bool.{true}
use native.Mathlib.Omega.{arith}
use borrow.Author.Tests.{leb-true, leb-false}
use Rattle.basics.proofs.Tests.{not_both_ways}
use Rattle.inspection.proofs.table_rule.counts_fit.Goals as goal

pub returns-then-counts-gt-ROW_LIMIT : goal.returns-then-counts-gt-ROW_LIMIT
returns-then-counts-gt-ROW_LIMIT c = record { yes = λ t. absurd (not_both_ways true refl (sym t)); no = λ _ w. omega (arith, w.rows_limit, c.if-counts-gt-ROW_LIMIT.true) }

pub returns-then-counts-gt-AUTHOR_LIMIT : goal.returns-then-counts-gt-AUTHOR_LIMIT
returns-then-counts-gt-AUTHOR_LIMIT c = record { yes = λ t. absurd (not_both_ways true refl (sym t)); no = λ _ w. omega (arith, w.authors_limit, c.if-counts-gt-AUTHOR_LIMIT.true) }

pub returns-then-counts-gt-DEP_LIMIT : goal.returns-then-counts-gt-DEP_LIMIT
returns-then-counts-gt-DEP_LIMIT c = record { yes = λ t. absurd (not_both_ways true refl (sym t)); no = λ _ w. omega (arith, w.deps_limit, c.if-counts-gt-DEP_LIMIT.true) }

pub returns-then-rows-counts : goal.returns-then-rows-counts
returns-then-rows-counts c = record { yes = λ t. absurd (not_both_ways true refl (sym t)); no = λ _ w. omega (arith, w.rows_held, c.if-rows-counts.true) }

pub returns-then-ids-counts : goal.returns-then-ids-counts
returns-then-ids-counts c = record { yes = λ t. absurd (not_both_ways true refl (sym t)); no = λ _ w. omega (arith, w.ids_held, c.if-ids-counts.true) }

pub returns-then-keys-counts : goal.returns-then-keys-counts
returns-then-keys-counts c = record { yes = λ t. absurd (not_both_ways true refl (sym t)); no = λ _ w. omega (arith, w.keys_held, c.if-keys-counts.true) }

pub returns-then-deps-counts : goal.returns-then-deps-counts
returns-then-deps-counts c = record { yes = λ t. absurd (not_both_ways true refl (sym t)); no = λ _ w. omega (arith, w.deps_held, c.if-deps-counts.true) }

pub returns-then-branches-counts : goal.returns-then-branches-counts
returns-then-branches-counts c = record { yes = λ t. absurd (not_both_ways true refl (sym t)); no = λ _ w. omega (arith, w.firsts_held, c.if-branches-counts.true) }

pub returns : goal.returns
returns c =
    let h = c.rows_held in
    record {
      yes = λ t.
          record {
            rows_limit = search rules;
            authors_limit = search rules;
            deps_limit = search rules;
            rows_held = search rules;
            ids_held = search rules;
            keys_held = search rules;
            deps_held = search rules;
            firsts_held = search rules;
            branches_held = omega (arith, h.ensures, leb-true _ h.result t);
          };
      no = λ t w. omega (arith, h.ensures, leb-false _ h.result t, w.branches_held);
    }

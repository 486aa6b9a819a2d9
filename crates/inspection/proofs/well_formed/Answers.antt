-- `inspection::well_formed` meets its contract: each group of clauses is decided by its own function.
-- Assumes nothing.
use mathlib.Core.Path.{◌≡◌, refl, sym, ◌∙◌}
use mathlib.Core.Bool.{true}
use native.Mathlib.Omega.{arith}
use borrow.Author.Tests.{eqb-true, eqb-false}
use Rattle.basics.proofs.Tests.{not_both_ways}
use Rattle.store.specs.Table.{dep_sum}
use Rattle.store.specs.Clauses.{table_in, CountsFit}
use Rattle.inspection.proofs.Whole.{whole_counts, whole_rows, whole_branches, whole_of}
use Rattle.inspection.proofs.well_formed.Goals as goal
use Rattle.inspection.proofs.well_formed.Goals.{Else-not-counts_fit}

pub returns-then-not-counts_fit : goal.returns-then-not-counts_fit
returns-then-not-counts_fit c =
    let a = c.args in
    record {
      yes = λ t. absurd (not_both_ways true refl (sym t));
      no = λ _ w. c.counts_fit.ensures.no c.if-not-counts_fit.true
          (whole_counts (table_in a.store.now) w);
    }

pub returns-then-not-deps_add_up : goal.returns-then-not-deps_add_up
returns-then-not-deps_add_up c =
    let a = c.args in
    record {
      yes = λ t. absurd (not_both_ways true refl (sym t));
      no = λ _ w. eqb-false (dep_sum a.store.now.rows.now a.store.now.counts.rows) a.store.now.counts.deps
          (sym c.deps_add_up.ensures ∙ c.if-not-deps_add_up.true) w.deps_sum;
    }

pub returns-then-not-distinct : goal.returns-then-not-distinct
returns-then-not-distinct c =
    let a = c.args in
    record { yes = λ t. absurd (not_both_ways true refl (sym t)); no = λ _ w. c.distinct.ensures.no c.if-not-distinct.true w.keys_distinct }

pub returns-then-not-distinct-2 : goal.returns-then-not-distinct-2
returns-then-not-distinct-2 c =
    let a = c.args in
    record { yes = λ t. absurd (not_both_ways true refl (sym t)); no = λ _ w. c.distinct-2.ensures.no c.if-not-distinct-2.true w.ids_distinct }

-- What the first test says where it lets pass.
fit : (c : Else-not-counts_fit) → let a = c.args in CountsFit (table_in a.store.now)
fit c = c.counts_fit.ensures.yes c.if-not-counts_fit.false

pub branches_fit-requires : goal.branches_fit-requires
branches_fit-requires c =
    let f = fit ((goal.at.branches_fit-requires c).Else-not-counts_fit) in
    ((f.rows_limit, f.authors_limit), (f.firsts_held, f.branches_held))

pub returns-then-not-branches_fit : goal.returns-then-not-branches_fit
returns-then-not-branches_fit c =
    let a = c.args in
    record {
      yes = λ t. absurd (not_both_ways true refl (sym t));
      no = λ _ w. c.branches_fit.ensures.no c.if-not-branches_fit.true
          (whole_branches (table_in a.store.now) w);
    }

pub rows_fit-requires : goal.rows_fit-requires
rows_fit-requires c =
    let a = c.args in
    let e : dep_sum a.store.now.rows.now a.store.now.counts.rows ≡ a.store.now.counts.deps = eqb-true _ _
    (sym c.deps_add_up.ensures ∙ c.if-not-deps_add_up.false) in
    omega (arith, e, (fit ((goal.at.rows_fit-requires c).Else-not-counts_fit)).deps_held)

pub returns : goal.returns
returns c =
    let a = c.args in
    record {
      yes = λ t.
          whole_of (table_in a.store.now)
          (fit ((goal.at.returns c).Else-not-counts_fit))
          (eqb-true _ _ (sym c.deps_add_up.ensures ∙ c.if-not-deps_add_up.false))
          (c.distinct.ensures.yes c.if-not-distinct.false)
          (c.distinct-2.ensures.yes c.if-not-distinct-2.false)
          (c.branches_fit.ensures.yes c.if-not-branches_fit.false)
          (c.rows_fit.ensures.yes t);
      no = λ t w. c.rows_fit.ensures.no t (whole_rows (table_in a.store.now) w);
    }

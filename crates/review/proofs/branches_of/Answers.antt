-- `review::branches_of` meets its contract: each refusal where its test failed, and every branch where all held.
-- Assumes nothing.
use mathlib.Core.Path.{refl}
use Rattle.std.proofs.Common.{rules}
use Rattle.store.specs.Clauses.{table_in}
use Rattle.logs.proofs.Tables.{table_sound}
use Rattle.review.specs.Calls.{NotListed}
use Rattle.review.proofs.Result.{may_review, lists_of}
use Rattle.review.proofs.branches_of.Goals as goal

pub returns-then-not-well_formed : goal.returns-then-not-well_formed
returns-then-not-well_formed c = (NotListed.not_well_formed refl (c.well_formed-2.ensures.no c.if-not-well_formed.true), refl)

pub valid_state-requires : goal.valid_state-requires
valid_state-requires c =
    let a = c.args in
    let t = table_in a.store.now in
    table_sound t (c.well_formed-2.ensures.yes c.if-not-well_formed.false) c.args.store.now.bytes

pub returns-then-not-valid_state : goal.returns-then-not-valid_state
returns-then-not-valid_state c =
    (NotListed.not_valid refl (c.well_formed-2.ensures.yes c.if-not-well_formed.false) (c.valid_state.ensures.no c.if-not-valid_state.true), refl)

pub returns-in-Growing : goal.returns-in-Growing
returns-in-Growing c =
    (NotListed.whole refl (c.well_formed-2.ensures.yes c.if-not-well_formed.false) (c.valid_state.ensures.yes c.if-not-valid_state.false) c.in-Growing.is, refl)

pub list_branches-requires : goal.list_branches-requires
list_branches-requires c =
    let a = c.args in
    let t = table_in a.store.now in
    may_review t (c.well_formed-2.ensures.yes c.if-not-well_formed.false)

pub returns : goal.returns
returns c =
    let a = c.args in
    let t = table_in a.store.now in
    lists_of t a.state (c.well_formed-2.ensures.yes c.if-not-well_formed.false) (c.valid_state.ensures.yes c.if-not-valid_state.false) _ _ c.in_default.is c.wide.result c.wide-2.result (search rules) (search rules)
    a.out.now _ c.list_branches.result c.list_branches.ensures

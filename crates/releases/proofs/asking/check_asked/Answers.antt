-- `releases::asking::check_asked` meets its contract: each test decides its line, in the document's order.
-- Assumes nothing.
use mathlib.Core.Path.{refl}
use mathlib.Core.Logic.{inl, inr}
use native.Mathlib.Omega.{arith}
use Rattle.store.specs.Clauses.{table_in}
use Rattle.logs.proofs.Tables.{table_sound}
use Rattle.releases.specs.Calls.{NotAsked}
use Rattle.releases.proofs.asking.check_asked.Goals as goal

pub returns-then-not-well_formed : goal.returns-then-not-well_formed
returns-then-not-well_formed c = NotAsked.not_well_formed refl (c.well_formed-2.ensures.no c.if-not-well_formed.true)

pub frontier_valid-requires : goal.frontier_valid-requires
frontier_valid-requires c =
    let a = c.args in
    table_sound (table_in a.store.now)
    (c.well_formed-2.ensures.yes c.if-not-well_formed.false)
    c.args.store.now.bytes

pub returns-then-not-frontier_valid : goal.returns-then-not-frontier_valid
returns-then-not-frontier_valid c =
    NotAsked.not_valid refl (c.well_formed-2.ensures.yes c.if-not-well_formed.false)
    (c.frontier_valid.ensures.no c.if-not-frontier_valid.true)

pub returns-then-not-columns_kept : goal.returns-then-not-columns_kept
returns-then-not-columns_kept c =
    NotAsked.not_kept refl (c.well_formed-2.ensures.yes c.if-not-well_formed.false)
    (c.frontier_valid.ensures.yes c.if-not-frontier_valid.false)
    (c.columns_kept.ensures.no c.if-not-columns_kept.true)

pub owners_known-requires : goal.owners_known-requires
owners_known-requires c = (c.columns_kept.ensures.yes c.if-not-columns_kept.false).table

pub returns-then-not-owners_known : goal.returns-then-not-owners_known
returns-then-not-owners_known c =
    NotAsked.ownerless refl (c.well_formed-2.ensures.yes c.if-not-well_formed.false)
    (c.frontier_valid.ensures.yes c.if-not-frontier_valid.false)
    (c.columns_kept.ensures.yes c.if-not-columns_kept.false)
    (c.owners_known.ensures.no c.if-not-owners_known.true)

pub returns-then-component-eq0 : goal.returns-then-component-eq0
returns-then-component-eq0 c =
    NotAsked.no_component refl (c.well_formed-2.ensures.yes c.if-not-well_formed.false)
    (c.frontier_valid.ensures.yes c.if-not-frontier_valid.false)
    (c.columns_kept.ensures.yes c.if-not-columns_kept.false)
    (c.owners_known.ensures.yes c.if-not-owners_known.false) (inl c.if-component-eq0.true)

pub returns-then-wide-gt-COMPONENTS : goal.returns-then-wide-gt-COMPONENTS
returns-then-wide-gt-COMPONENTS c =
    NotAsked.no_component refl (c.well_formed-2.ensures.yes c.if-not-well_formed.false)
    (c.frontier_valid.ensures.yes c.if-not-frontier_valid.false)
    (c.columns_kept.ensures.yes c.if-not-columns_kept.false)
    (c.owners_known.ensures.yes c.if-not-owners_known.false)
    (inr (omega (arith, c.wide.ensures, c.if-wide-gt-COMPONENTS.true)))

pub returns : goal.returns
returns c =
    record {
      well_formed = c.well_formed-2.ensures.yes c.if-not-well_formed.false;
      frontier = c.frontier_valid.ensures.yes c.if-not-frontier_valid.false;
      columns = c.columns_kept.ensures.yes c.if-not-columns_kept.false;
      owners_known = c.owners_known.ensures.yes c.if-not-owners_known.false;
      some = omega (arith, c.if-component-eq0.false);
      within = omega (arith, c.wide.ensures, c.if-wide-gt-COMPONENTS.false);
    }

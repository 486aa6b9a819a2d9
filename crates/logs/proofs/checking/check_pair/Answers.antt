-- `logs::checking::check_pair` meets its contract: each refusal where its test failed.
-- Assumes nothing.
use mathlib.Core.Path.{refl}
use Rattle.store.specs.Clauses.{table_in}
use Rattle.logs.specs.Refusals.{PairRefused}
use Rattle.logs.proofs.Tables.{table_sound}
use Rattle.logs.proofs.checking.check_pair.Goals as goal

pub returns-then-not-well_formed : goal.returns-then-not-well_formed
returns-then-not-well_formed c = PairRefused.not_well_formed refl (c.well_formed-2.ensures.no c.if-not-well_formed.true)

pub valid_state-requires : goal.valid_state-requires
valid_state-requires c =
    let a = c.args in
    let t = table_in a.store.now in
    table_sound t (c.well_formed-2.ensures.yes c.if-not-well_formed.false) c.args.store.now.bytes

pub returns-then-not-valid_state : goal.returns-then-not-valid_state
returns-then-not-valid_state c =
    PairRefused.first_not_valid refl (c.well_formed-2.ensures.yes c.if-not-well_formed.false)
    (c.valid_state.ensures.no c.if-not-valid_state.true)

pub valid_state-requires-2 : goal.valid_state-requires-2
valid_state-requires-2 c =
    let a = c.args in
    let t = table_in a.store.now in
    table_sound t (c.well_formed-2.ensures.yes c.if-not-well_formed.false) c.args.store.now.bytes

pub returns-then-not-valid_state-2 : goal.returns-then-not-valid_state-2
returns-then-not-valid_state-2 c =
    PairRefused.second_not_valid refl (c.well_formed-2.ensures.yes c.if-not-well_formed.false)
    (c.valid_state.ensures.yes c.if-not-valid_state.false)
    (c.valid_state-2.ensures.no c.if-not-valid_state-2.true)

pub returns-then-first-second : goal.returns-then-first-second
returns-then-first-second c =
    PairRefused.two_authors refl (c.well_formed-2.ensures.yes c.if-not-well_formed.false)
    (c.valid_state.ensures.yes c.if-not-valid_state.false)
    (c.valid_state-2.ensures.yes c.if-not-valid_state-2.false)
    c.if-first-second.true

pub returns : goal.returns
returns c =
    record {
      well_formed = (c.well_formed-2.ensures.yes c.if-not-well_formed.false);
      first = (c.valid_state.ensures.yes c.if-not-valid_state.false);
      second = (c.valid_state-2.ensures.yes c.if-not-valid_state-2.false);
      one = c.if-first-second.false;
    }

-- `logs::append` meets its contract: each refusal where its test failed, and the row added where all held.
-- Assumes nothing.
use mathlib.Core.Path.{refl}
use Rattle.store.specs.Clauses.{table_in}
use Rattle.logs.specs.Refusals.{AppendRefused}
use Rattle.logs.proofs.Tables.{table_sound}
use Rattle.logs.proofs.Dones.{append_ready, append_done}
use Rattle.logs.proofs.append.Goals as goal

pub returns-then-not-well_formed : goal.returns-then-not-well_formed
returns-then-not-well_formed c = AppendRefused.not_well_formed refl (c.well_formed-2.ensures.no c.if-not-well_formed.true)

pub valid_state-requires : goal.valid_state-requires
valid_state-requires c =
    let a = c.args in
    let t = table_in a.store.now in
    table_sound t (c.well_formed-2.ensures.yes c.if-not-well_formed.false) c.args.store.now.bytes

pub returns-then-not-valid_state : goal.returns-then-not-valid_state
returns-then-not-valid_state c =
    AppendRefused.not_valid refl (c.well_formed-2.ensures.yes c.if-not-well_formed.false)
    (c.valid_state.ensures.no c.if-not-valid_state.true)

pub returns-then-not-is_row : goal.returns-then-not-is_row
returns-then-not-is_row c =
    AppendRefused.not_a_row refl (c.well_formed-2.ensures.yes c.if-not-well_formed.false)
    (c.valid_state.ensures.yes c.if-not-valid_state.false)
    ((c.is_row.ensures c.args.store.now.ids.now).no c.if-not-is_row.true)

pub add_row-requires : goal.add_row-requires
add_row-requires c =
    let a = c.args in
    let t = table_in a.store.now in
    append_ready t (c.well_formed-2.ensures.yes c.if-not-well_formed.false) c.args.store.now.bytes
    a.state
    a.row
    (c.valid_state.ensures.yes c.if-not-valid_state.false)
    ((c.is_row.ensures a.store.now.ids.now).yes c.if-not-is_row.false)

pub returns : goal.returns
returns c =
    let a = c.args in
    let t = table_in a.store.now in
    append_done t (c.well_formed-2.ensures.yes c.if-not-well_formed.false) c.args.store.now.bytes
    a.state
    a.row
    c.add_row.result
    (c.valid_state.ensures.yes c.if-not-valid_state.false)
    ((c.is_row.ensures a.store.now.ids.now).yes c.if-not-is_row.false)
    c.add_row.ensures

-- `standing::write_standing` meets its contract: each answer is given where the tests before it were passed.
-- Assumes nothing.
use mathlib.Core.Path.{refl}
use Rattle.std.proofs.Common.{rules}
use Rattle.basics.specs.Bytes.{Bytes}
use Rattle.store.specs.Clauses.{table_in}
use Rattle.logs.proofs.Tables.{table_sound}
use Rattle.standing.specs.Calls.{MayWrite, NotSent}
use Rattle.standing.proofs.Answers.{sendable, send_short, send_done}
use Rattle.standing.proofs.write_standing.Goals as goal

pub returns-then-not-well_formed : goal.returns-then-not-well_formed
returns-then-not-well_formed c =
    (NotSent.not_well_formed refl (c.well_formed-2.ensures.no c.if-not-well_formed.true), refl)

pub frontier_valid-requires : goal.frontier_valid-requires
frontier_valid-requires c =
    let a = c.args in
    let t = table_in a.store.now in
    let well = c.well_formed-2.ensures.yes c.if-not-well_formed.false in
    let bytes : Bytes a.store.now.ids.now = c.args.store.now.bytes in
    table_sound t well bytes

pub returns-then-not-frontier_valid : goal.returns-then-not-frontier_valid
returns-then-not-frontier_valid c =
    let well = c.well_formed-2.ensures.yes c.if-not-well_formed.false in
    (NotSent.not_valid refl well (c.frontier_valid.ensures.no c.if-not-frontier_valid.true), refl)

pub overflow_mul-size : goal.overflow_mul-size
overflow_mul-size c =
    let a = c.args in
    let t = table_in a.store.now in
    let well = c.well_formed-2.ensures.yes c.if-not-well_formed.false in
    let bytes : Bytes a.store.now.ids.now = c.args.store.now.bytes in
    let may : MayWrite t a.f.now = record { well_formed = well; frontier = c.frontier_valid.ensures.yes c.if-not-frontier_valid.false } in
    let f = (sendable t bytes a.f.now may).few in
    search (rules, f)

pub overflow_add-size : goal.overflow_add-size
overflow_add-size c =
    let a = c.args in
    let t = table_in a.store.now in
    let well = c.well_formed-2.ensures.yes c.if-not-well_formed.false in
    let bytes : Bytes a.store.now.ids.now = c.args.store.now.bytes in
    let may : MayWrite t a.f.now = record { well_formed = well; frontier = c.frontier_valid.ensures.yes c.if-not-frontier_valid.false } in
    let f = (sendable t bytes a.f.now may).few in
    search (rules, f)

pub returns-then-out-size : goal.returns-then-out-size
returns-then-out-size c =
    let a = c.args in
    let t = table_in a.store.now in
    let well = c.well_formed-2.ensures.yes c.if-not-well_formed.false in
    let bytes : Bytes a.store.now.ids.now = c.args.store.now.bytes in
    let may : MayWrite t a.f.now = record { well_formed = well; frontier = c.frontier_valid.ensures.yes c.if-not-frontier_valid.false } in
    (NotSent.no_room refl may (send_short t bytes a.f.now may a.out.now c.if-out-size.true), refl)

pub put_standing-requires : goal.put_standing-requires
put_standing-requires c =
    let a = c.args in
    let t = table_in a.store.now in
    let well = c.well_formed-2.ensures.yes c.if-not-well_formed.false in
    let bytes : Bytes a.store.now.ids.now = c.args.store.now.bytes in
    let may : MayWrite t a.f.now = record { well_formed = well; frontier = c.frontier_valid.ensures.yes c.if-not-frontier_valid.false } in
    (sendable t bytes a.f.now may, c.if-out-size.false)

pub returns : goal.returns
returns c =
    let a = c.args in
    let t = table_in a.store.now in
    let well = c.well_formed-2.ensures.yes c.if-not-well_formed.false in
    let bytes : Bytes a.store.now.ids.now = c.args.store.now.bytes in
    let may : MayWrite t a.f.now = record { well_formed = well; frontier = c.frontier_valid.ensures.yes c.if-not-frontier_valid.false } in
    (may, send_done t bytes a.f.now may a.out.now _ c.if-out-size.false c.put_standing.ensures)

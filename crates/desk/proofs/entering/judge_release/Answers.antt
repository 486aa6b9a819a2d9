-- `desk::entering::judge_release` meets its contract: the payload, the places and the room decide on a row that 6 to 15 give, in this order;
-- every other verdict stands.
-- Assumes nothing.
use Rattle.item.proofs.Laid.{sound_item}
use Rattle.store.specs.Clauses.{table_in}
use Rattle.desk.proofs.Steps.{bad_payload, no_place, no_room, room_given, still_held, still_broken}
use Rattle.desk.proofs.entering.judge_release.Goals as goal

pub judge_rules-ruled-requires : goal.judge_rules-ruled-requires
judge_rules-ruled-requires c =
    (c.requires.0, ((sound_item c.args.item.now c.args.f c.requires.1.0).count_limit_lem, (c.requires.1.1.rows_limit, c.requires.1.1.authors_limit)))

pub is_full-requires : goal.is_full-requires
is_full-requires c =
    let w = c.requires.1.1 in (w.deps_limit, w.deps_held)

pub returns-then-not-is_release : goal.returns-then-not-is_release
returns-then-not-is_release c =
    let a = c.args in
    bad_payload (table_in a.store.now) a.places a.item.now a.f
    c.judge_rules-ruled.result (c.judge_rules-ruled.ensures a.store.now.deps.now a.store.now.branches.now) c.in-Fits.row c.in-Fits.is
    _ _ c.payload_of.ensures c.is_release.ensures c.if-not-is_release.true

pub returns-then-places-counts : goal.returns-then-places-counts
returns-then-places-counts c =
    let a = c.args in
    no_place (table_in a.store.now) a.places a.item.now a.f
    c.judge_rules-ruled.result (c.judge_rules-ruled.ensures a.store.now.deps.now a.store.now.branches.now) c.in-Fits.row c.in-Fits.is
    _ _ c.payload_of.ensures c.is_release.ensures c.if-not-is_release.false c.if-places-counts.true

pub returns-then-is_full : goal.returns-then-is_full
returns-then-is_full c =
    let a = c.args in
    no_room (table_in a.store.now) a.places a.item.now a.f
    c.judge_rules-ruled.result (c.judge_rules-ruled.ensures a.store.now.deps.now a.store.now.branches.now) c.in-Fits.row c.in-Fits.is
    _ _ c.payload_of.ensures c.is_release.ensures c.if-not-is_release.false c.if-places-counts.false
    c.is_full.result c.is_full.ensures c.if-is_full.true

pub returns-else-is_full : goal.returns-else-is_full
returns-else-is_full c =
    let a = c.args in
    room_given (table_in a.store.now) a.places a.item.now a.f
    c.judge_rules-ruled.result (c.judge_rules-ruled.ensures a.store.now.deps.now a.store.now.branches.now) c.in-Fits.row c.in-Fits.is
    _ _ c.payload_of.ensures c.is_release.ensures c.if-not-is_release.false c.if-places-counts.false
    c.is_full.result c.is_full.ensures c.if-is_full.false

pub returns-in-Holds : goal.returns-in-Holds
returns-in-Holds c =
    let a = c.args in
    still_held (table_in a.store.now) a.places a.item.now a.f
    c.judge_rules-ruled.result (c.judge_rules-ruled.ensures a.store.now.deps.now a.store.now.branches.now) c.in-Holds.r c.in-Holds.is

pub returns-in-Breaks : goal.returns-in-Breaks
returns-in-Breaks c =
    let a = c.args in
    still_broken (table_in a.store.now) a.places a.item.now a.f
    c.judge_rules-ruled.result (c.judge_rules-ruled.ensures a.store.now.deps.now a.store.now.branches.now) c.in-Breaks.r c.in-Breaks.is

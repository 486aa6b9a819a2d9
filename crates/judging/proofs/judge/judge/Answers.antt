-- `judging::judge::judge` meets its contract: the test 16 decides on a row that 6 to 15 give; every other verdict stands.
-- Assumes nothing.
use Rattle.store.specs.Clauses.{table_in}
use mathlib.Core.Path.{sym, ◌∙◌}
use Rattle.item.proofs.Laid.{sound_item}
use Rattle.judging.specs.Verdict.{rules_of}
use Rattle.judging.proofs.Judging.{room_none, room_some, room_holds, room_breaks}
use Rattle.judging.proofs.judge.judge.Goals as goal

pub judge_rules-ruled-requires : goal.judge_rules-ruled-requires
judge_rules-ruled-requires c =
    (c.requires.0, ((sound_item c.args.item.now c.args.f c.requires.1.0).count_limit_lem, (c.requires.1.1.rows_limit, c.requires.1.1.authors_limit)))

pub is_full-requires : goal.is_full-requires
is_full-requires c =
    let w = c.requires.1.1 in
    (w.deps_limit, w.deps_held)

pub returns-then-is_full : goal.returns-then-is_full
returns-then-is_full c =
    let a = c.args in
    room_none (table_in a.store.now) a.item.now a.f
    (rules_of (table_in a.store.now) a.item.now a.f) c.in-Fits.row
    (sym (c.judge_rules-ruled.ensures a.store.now.deps.now a.store.now.branches.now) ∙ c.in-Fits.is)
    c.is_full.result c.is_full.ensures c.if-is_full.true

pub returns-else-is_full : goal.returns-else-is_full
returns-else-is_full c =
    let a = c.args in
    room_some (table_in a.store.now) a.item.now a.f
    (rules_of (table_in a.store.now) a.item.now a.f) c.in-Fits.row
    (sym (c.judge_rules-ruled.ensures a.store.now.deps.now a.store.now.branches.now) ∙ c.in-Fits.is)
    c.is_full.result c.is_full.ensures c.if-is_full.false

pub returns-in-Holds : goal.returns-in-Holds
returns-in-Holds c =
    let a = c.args in
    room_holds (table_in a.store.now) a.item.now a.f
    (rules_of (table_in a.store.now) a.item.now a.f) c.in-Holds.r
    (sym (c.judge_rules-ruled.ensures a.store.now.deps.now a.store.now.branches.now) ∙ c.in-Holds.is)

pub returns-in-Breaks : goal.returns-in-Breaks
returns-in-Breaks c =
    let a = c.args in
    room_breaks (table_in a.store.now) a.item.now a.f
    (rules_of (table_in a.store.now) a.item.now a.f) c.in-Breaks.r
    (sym (c.judge_rules-ruled.ensures a.store.now.deps.now a.store.now.branches.now) ∙ c.in-Breaks.is)

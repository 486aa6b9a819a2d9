-- `catalogue::entering::judge_under` meets its contract: M7 decides on a row that 6 to 15 give, then 16; every other verdict stands.
-- Assumes nothing.
use mathlib.Core.Path.{refl, sym, ◌∙◌}
use Rattle.item.proofs.Laid.{sound_item}
use Rattle.store.specs.Clauses.{table_in}
use Rattle.judging.specs.Verdict.{rules_of}
use Rattle.judging.proofs.Judging.{room_none, room_some, room_holds, room_breaks}
use Rattle.catalogue.specs.Profile.{steps_back, steps_on}
use Rattle.catalogue.proofs.Judged.{on_held, on_broken}
use Rattle.catalogue.proofs.entering.judge_under.Goals as goal

pub judge_rules-ruled-requires : goal.judge_rules-ruled-requires
judge_rules-ruled-requires c =
    let a = c.args in
    (c.requires.0, ((sound_item a.item.now a.f c.requires.1.laid).count_limit_lem, (c.requires.1.store.rows_limit, c.requires.1.store.authors_limit)))

pub steps_on-requires : goal.steps_on-requires
steps_on-requires c =
    let a = c.args in
    (c.requires.1, sym (c.judge_rules-ruled.ensures a.store.now.deps.now a.store.now.branches.now) ∙ c.in-Fits.is)

pub returns-then-not-steps_on : goal.returns-then-not-steps_on
returns-then-not-steps_on c =
    let a = c.args in
    steps_back
    (record {
      row = c.in-Fits.row;
      through = sym
          (c.judge_rules-ruled.ensures a.store.now.deps.now
          a.store.now.branches.now) ∙ c.in-Fits.is;
      breaks = c.steps_on.ensures.no c.if-not-steps_on.true;
    }) refl

pub is_full-requires : goal.is_full-requires
is_full-requires c =
    let a = c.args in
    (c.requires.1.store.deps_limit, c.requires.1.store.deps_held)

pub returns-then-is_full : goal.returns-then-is_full
returns-then-is_full c =
    let a = c.args in
    let t = table_in a.store.now in
    steps_on (λ row e. c.steps_on.ensures.yes c.if-not-steps_on.false) (room_none t a.item.now a.f (rules_of t a.item.now a.f) c.in-Fits.row
    (sym (c.judge_rules-ruled.ensures a.store.now.deps.now a.store.now.branches.now) ∙ c.in-Fits.is) _
    c.is_full.ensures c.if-is_full.true)

pub returns-else-is_full : goal.returns-else-is_full
returns-else-is_full c =
    let a = c.args in
    let t = table_in a.store.now in
    steps_on (λ row e. c.steps_on.ensures.yes c.if-not-steps_on.false) (room_some t a.item.now a.f (rules_of t a.item.now a.f) c.in-Fits.row
    (sym (c.judge_rules-ruled.ensures a.store.now.deps.now a.store.now.branches.now) ∙ c.in-Fits.is) _
    c.is_full.ensures c.if-is_full.false)

pub returns-in-Holds : goal.returns-in-Holds
returns-in-Holds c =
    let a = c.args in
    let t = table_in a.store.now in
    steps_on (on_held t a.item.now a.f c.in-Holds.r (sym (c.judge_rules-ruled.ensures a.store.now.deps.now a.store.now.branches.now) ∙ c.in-Holds.is))
    (room_holds t a.item.now a.f (rules_of t a.item.now a.f) c.in-Holds.r
    (sym (c.judge_rules-ruled.ensures a.store.now.deps.now a.store.now.branches.now) ∙ c.in-Holds.is))

pub returns-in-Breaks : goal.returns-in-Breaks
returns-in-Breaks c =
    let a = c.args in
    let t = table_in a.store.now in
    steps_on (on_broken t a.item.now a.f c.in-Breaks.r (sym (c.judge_rules-ruled.ensures a.store.now.deps.now a.store.now.branches.now) ∙ c.in-Breaks.is))
    (room_breaks t a.item.now a.f (rules_of t a.item.now a.f) c.in-Breaks.r
    (sym (c.judge_rules-ruled.ensures a.store.now.deps.now a.store.now.branches.now) ∙ c.in-Breaks.is))

-- `intake::take_item` meets its contract.
-- Assumes nothing.
use Rattle.std.proofs.Common.{drop}
use Rattle.morning.specs.Intake.{kept_by}
use Rattle.cutting.specs.Cutting.{size_of, starts_whole}
use Rattle.intake.specs.Judging.{Untold}
use Rattle.intake.specs.Taking.{TakesFirst}
use Rattle.intake.specs.Window.{stretch}
use Rattle.intake.proofs.Turns.{taken_first}
use Rattle.intake.proofs.Failures.{on_err, take_untold}
use Rattle.intake.proofs.take_item.Goals as goal

pub returns-clause-ok : goal.returns-clause-ok
returns-clause-ok g c =
    let a = c.args in
    taken_first (kept_by a.store.now a.origins.now)
    a.frontier.now a.used _ _ _
    a.window.now a.span.at a.span.held c.cut_item-cut.result.size c.cut_item-cut.result.whole c.requires.within.0 c.requires.within.1 c.cut_item-cut.ensures
    c.in_ok-after.ensures.ok

pub returns-in_err-after-clause-err : goal.returns-in_err-after-clause-err
returns-in_err-after-clause-err g c =
    let a = c.args in
    let n = c.judge.new in
    let k = kept_by a.store.now a.origins.now in
    let l = kept_by n.store n.origins in
    let s = stretch a.window.now a.span.at a.span.held in
    let u : Untold (λ used. TakesFirst s k a.frontier.now a.used (drop (size_of s) s) l n.frontier used (starts_whole s)) =
    take_untold k a.frontier.now a.used l n.frontier a.window.now a.span.at a.span.held c.cut_item-cut.result.size c.cut_item-cut.result.whole
    c.requires.within.0 c.requires.within.1 c.cut_item-cut.ensures c.in_err-after.ensures.err in
    on_err c.from_residual.result u

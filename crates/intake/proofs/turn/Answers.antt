-- `intake::turn` meets its contract.
-- Assumes nothing.
use mathlib.Core.Path.{refl}
use Rattle.std.proofs.lemmas.Result.{IfOk-weaker, on_err_weaker}
use Rattle.morning.specs.Intake.{kept_by}
use Rattle.intake.specs.Taking.{TurnFailed}
use Rattle.intake.specs.Window.{stretch}
use Rattle.intake.proofs.Turns.{turned_took}
use Rattle.intake.proofs.Failures.{on_err, turn_unprinted}
use Rattle.intake.proofs.turn.Goals as goal

pub returns-in_err-span-clause-err : goal.returns-in_err-span-clause-err
returns-in_err-span-clause-err g c =
    let a = c.args in
    let l = kept_by a.store.now a.origins.now in
    let u : TurnFailed (stretch a.window.now a.stand.span.at a.stand.span.held) l a.frontier.now a.stand.used l a.frontier.now =
    TurnFailed.unread refl refl in
    on_err c.from_residual.result u

pub returns-clause-ok : goal.returns-clause-ok
returns-clause-ok g c =
    let a = c.args in
    let n = c.take_item.new in
    let r = c.in_ok-span in
    let k = kept_by a.store.now a.origins.now in
    IfOk-weaker c.take_item.result _ _
    (λ s t.
    turned_took k a.frontier.now a.stand.used (kept_by n.store n.origins) n.frontier s.used
    a.window.now a.stand.span.at a.stand.span.held c.refill.new.window r.span.at r.span.held s.span.at s.span.held s.going c.requires.within r.ensures.ok t)
    c.take_item.ensures.ok

pub returns-clause-err : goal.returns-clause-err
returns-clause-err g c =
    let a = c.args in
    let n = c.take_item.new in
    let r = c.in_ok-span in
    on_err_weaker c.take_item.result
    (turn_unprinted (kept_by a.store.now a.origins.now) a.frontier.now a.stand.used
    (kept_by n.store n.origins) n.frontier a.window.now a.stand.span.at a.stand.span.held c.refill.new.window r.span.at r.span.held
    c.requires.within r.ensures.ok)
    c.take_item.ensures.err

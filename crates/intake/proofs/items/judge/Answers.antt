-- `intake::items::judge` meets its contract.
-- Assumes nothing.
use mathlib.Core.Path.{sym, subst}
use Rattle.basics.specs.Bytes.{Bytes}
use Rattle.morning.specs.Intake.{kept_by}
use Rattle.intake.specs.Judging.{MayEnter, EnteredTo, Untold, JudgedAndEntered}
use Rattle.intake.proofs.Failures.{on_err}
use Rattle.intake.proofs.Keeping.{may_enter, judged_and_entered}
use Rattle.intake.proofs.items.judge.Goals as goal

pub enter-now-requires : goal.enter-now-requires
enter-now-requires g c =
    let a = c.args in
    let s = c.admit_sound-answer in
    let b = subst (λ t. Bytes t.ids) c.read.ensures c.read.result.bytes in
    subst (λ t. MayEnter t.ids t.rows t.counts a.frontier.now a.used s.result) (sym c.read.ensures)
    (may_enter (kept_by a.store.now a.origins.now) a.item.now a.frontier.now a.used (kept_by s.new.store s.new.origins) s.result c.requires b s.ensures.judged)

pub returns-clause-ok : goal.returns-clause-ok
returns-clause-ok g c =
    let a = c.args in
    let s = c.admit_sound-answer in
    let e = c.enter-now in
    let b = subst (λ t. Bytes t.ids) c.read.ensures c.read.result.bytes in
    judged_and_entered (kept_by a.store.now a.origins.now) a.item.now a.frontier.now a.used (kept_by s.new.store s.new.origins) s.result c.requires b
    s.ensures.judged e.new.frontier e.result
    (subst (λ t. EnteredTo t.ids t.rows t.counts a.frontier.now a.used s.result e.new.frontier e.result) c.read.ensures e.ensures)

pub returns-in_err-print_item-clause-err : goal.returns-in_err-print_item-clause-err
returns-in_err-print_item-clause-err g c =
    let a = c.args in
    let s = c.admit_sound-answer in
    let e = c.enter-now in
    let b = subst (λ t. Bytes t.ids) c.read.ensures c.read.result.bytes in
    let k = kept_by a.store.now a.origins.now in
    let l = kept_by s.new.store s.new.origins in
    let j : Untold (λ used. JudgedAndEntered k a.item.now a.frontier.now a.used l e.new.frontier used) =
    record {
      used = e.result;
      holds =
          judged_and_entered k a.item.now a.frontier.now a.used l s.result c.requires b s.ensures.judged e.new.frontier e.result
          (subst (λ t. EnteredTo t.ids t.rows t.counts a.frontier.now a.used s.result e.new.frontier e.result) c.read.ensures e.ensures);
    } in
    on_err c.from_residual.result j

-- `judging::judge::judge_step` meets its contract: each answer by the tests that led there.
-- Assumes nothing.
use Rattle.judging.proofs.Judging.{step_owner, step_step, step_fits}
use Rattle.judging.proofs.judge.judge_step.Goals as goal

pub returns-then-prev-author : goal.returns-then-prev-author
returns-then-prev-author c =
    let a = c.args in
    step_owner a.prev a.author a.f a.p c.if-prev-author.true

pub returns-then-prev-f : goal.returns-then-prev-f
returns-then-prev-f c =
    let a = c.args in
    step_step a.prev a.author a.f a.p c.if-prev-author.false c.requires c.if-prev-f.true

pub returns : goal.returns
returns c =
    let a = c.args in
    step_fits a.prev a.author a.f a.p c.if-prev-author.false c.requires c.if-prev-f.false

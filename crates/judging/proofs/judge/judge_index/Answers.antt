-- `judging::judge::judge_index` meets its contract: each answer by the tests that led there; above 1 the tests on the previous id decide.
-- Assumes nothing.
use Rattle.judging.proofs.Judging.{index_none, index_above, index_first, index_marked}
use Rattle.item.specs.Layout.{previous_of}
use Rattle.chunks.specs.Bytes.{all_zero}
use mathlib.Core.Path.{ap, ◌∙◌}
use Rattle.judging.proofs.judge.judge_index.Goals as goal

pub returns-then-index-eq0 : goal.returns-then-index-eq0
returns-then-index-eq0 c =
    let a = c.args in
    index_none a.ids.now a.rows.now a.n a.author (previous_of a.item.now) a.f c.if-index-eq0.true

pub returns-then-index-gt1 : goal.returns-then-index-gt1
returns-then-index-gt1 c =
    let a = c.args in
    index_above a.ids.now a.rows.now a.n a.author (previous_of a.item.now) a.f c.judge_prev.result c.if-index-gt1.true
    c.judge_prev.ensures

pub returns-then-is_zero : goal.returns-then-is_zero
returns-then-is_zero c =
    let a = c.args in
    index_first a.ids.now a.rows.now a.n a.author (previous_of a.item.now) a.f c.if-index-eq0.false c.if-index-gt1.false
    c.is_zero.result (c.is_zero.ensures ∙ ap all_zero c.previous_of.ensures) c.if-is_zero.true

pub returns : goal.returns
returns c =
    let a = c.args in
    index_marked a.ids.now a.rows.now a.n a.author (previous_of a.item.now) a.f c.if-index-eq0.false c.if-index-gt1.false
    c.is_zero.result (c.is_zero.ensures ∙ ap all_zero c.previous_of.ensures) c.if-is_zero.false

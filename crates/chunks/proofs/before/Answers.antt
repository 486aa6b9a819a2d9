-- `chunks::before` meets its contract: what is left of the two lists decides.
-- Assumes nothing.
use Rattle.std.proofs.Common.{rules, length, ◌≡◌, arith}
use mathlib.Core.Path.{sym, ◌∙◌}
use Rattle.chunks.proofs.Rest.{before_more, before_differ, before_longer, before_end}
use Rattle.chunks.proofs.before.Goals as goal

pub returns-then-b-i : goal.returns-then-b-i
returns-then-b-i c =
    let s = c.args in
    sym (c.loop-i.invariant ∙ before_longer s.a.now s.b.now c.loop-i.i (search rules) (search rules))

pub returns-then-x-y : goal.returns-then-x-y
returns-then-x-y c =
    let s = c.args in
    sym (c.loop-i.invariant ∙ before_differ s.a.now s.b.now c.loop-i.i (search rules) (search rules) c.if-x-y.true)

pub loop-i-preserved : goal.loop-i-preserved
loop-i-preserved c =
    let s = c.args in
    c.loop-i.invariant ∙ before_more s.a.now s.b.now c.loop-i.i (search rules) (search rules) c.if-x-y.false

pub returns : goal.returns
returns c =
    let s = c.args in
    let e : length s.a.now ≡ c.loop-i.i = omega arith in
    rw e (sym (c.loop-i.invariant ∙ before_end s.a.now s.b.now c.loop-i.i (omega arith)))

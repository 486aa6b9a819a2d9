-- `logs::ordering::beyond` meets its contract: each test is one of the definition's.
-- Assumes nothing.
use mathlib.Core.Path.{◌∙◌}
use Rattle.logs.proofs.Orders.{side_elsewhere, side_there, side_by_child, some_child}
use Rattle.logs.proofs.ordering.beyond.Goals as goal

pub returns-then-prefix-bound : goal.returns-then-prefix-bound
returns-then-prefix-bound c =
    let a = c.args in
    side_elsewhere a.ids.now a.prefix a.bound a.low a.high c.if-prefix-bound.true

pub returns-then-prefix-eq0 : goal.returns-then-prefix-eq0
returns-then-prefix-eq0 c =
    let a = c.args in
    side_there a.ids.now a.prefix a.bound a.low a.high c.if-prefix-eq0.true

pub admissible-requires : goal.admissible-requires
admissible-requires c =
    (c.requires.0, c.requires.1 (some_child c.args.prefix.first c.if-prefix-eq0.false))

pub returns : goal.returns
returns c =
    let a = c.args in
    c.admissible.ensures
    ∙ side_by_child a.ids.now a.prefix a.bound a.low a.high c.if-prefix-bound.false c.if-prefix-eq0.false

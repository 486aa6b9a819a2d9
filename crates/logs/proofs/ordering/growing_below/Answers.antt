-- `logs::ordering::growing_below` meets its contract: at or before the second's last row, or beyond it.
-- Assumes nothing.
use mathlib.Core.Path.{◌∙◌}
use Rattle.chains.specs.Chain.{growing}
use Rattle.logs.proofs.Orders.{climbed_before, climbed_apart, comparable_linked, side_named, side_is_beyond, covered_below, apart_below, beyond_below}
use Rattle.logs.proofs.ordering.growing_below.Goals as goal

pub climb-prefix-requires : goal.climb-prefix-requires
climb-prefix-requires c =
    let a = c.args in
    comparable_linked a.ids.now a.rows.now (growing a.last) a.second c.requires

pub returns-then-prefix-last : goal.returns-then-prefix-last
returns-then-prefix-last c =
    let a = c.args in
    λ n.
    covered_below a.ids.now a.rows.now n a.last a.second.last a.second.phase
    (climbed_before a.rows.now a.last a.second.last c.climb-prefix.result c.climb-prefix.ensures a.ids.now n c.if-prefix-last.true)

pub beyond-requires : goal.beyond-requires
beyond-requires c =
    let a = c.args in
    let forked = c.in-Forked in
    side_named a.ids.now a.rows.now (growing a.last) a.second c.requires forked.low forked.high forked.is
    c.climb-prefix.result
    c.climb-prefix.ensures

pub returns-in-Growing : goal.returns-in-Growing
returns-in-Growing c =
    let a = c.args in
    λ n.
    apart_below a.ids.now a.rows.now n a.last a.second.last a.second.phase c.in-Growing.is
    (climbed_apart a.rows.now a.last a.second.last c.climb-prefix.result c.climb-prefix.ensures a.ids.now n c.if-prefix-last.false)

pub returns-in-Forked : goal.returns-in-Forked
returns-in-Forked c =
    let a = c.args in
    let forked = c.in-Forked in
    let low = forked.low in
    let high = forked.high in
    λ n.
    beyond_below a.ids.now a.rows.now n a.last a.second.last a.second.phase low high c.beyond.result
    forked.is
    (climbed_apart a.rows.now a.last a.second.last c.climb-prefix.result c.climb-prefix.ensures a.ids.now n
    c.if-prefix-last.false)
    (c.beyond.ensures
    ∙ side_is_beyond a.ids.now a.rows.now (growing a.last) a.second c.requires c.climb-prefix.result c.climb-prefix.ensures low high n)

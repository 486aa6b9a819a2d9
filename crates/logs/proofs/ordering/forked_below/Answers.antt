-- `logs::ordering::forked_below` meets its contract: beyond the second's last row, or at it with admissible evidence.
-- Assumes nothing.
use Prim.Native.Nat.{ℕ}
use mathlib.Core.Path.{◌≡◌, refl, ◌∙◌}
use Rattle.chains.specs.Chain.{forked, beyond?}
use Rattle.logs.specs.Held.{chain}
use Rattle.logs.proofs.Orders.{comparable_linked, side_named, side_is_beyond, evidence_named}
use Rattle.logs.proofs.Orders.{forked_above_growing, forked_beyond, forked_elsewhere, low_refused, high_decides}
use Rattle.logs.proofs.ordering.forked_below.Goals as goal
use Rattle.logs.proofs.ordering.forked_below.Goals.{After-beyond}

pub returns-in_default : goal.returns-in_default
returns-in_default c =
    let a = c.args in
    λ n. forked_above_growing a.ids.now a.rows.now n a.last a.second.last a.second.phase a.a a.b c.in_default.is

pub climb-prefix-requires : goal.climb-prefix-requires
climb-prefix-requires c =
    let a = c.args in
    comparable_linked a.ids.now a.rows.now (forked a.last a.a a.b) a.second c.requires

pub beyond-requires : goal.beyond-requires
beyond-requires c =
    let a = c.args in
    let f = c.in-Forked in
    side_named a.ids.now a.rows.now (forked a.last a.a a.b) a.second c.requires f.low f.high f.is
    c.climb-prefix.result
    c.climb-prefix.ensures

-- What the test of beyond said is the definition's.
beyond-said : (c : After-beyond) (n : ℕ) → let a = c.args in let f = c.in-Forked in c.beyond.result ≡ beyond? (chain a.ids.now a.rows.now n) a.second.last f.low f.high a.last
beyond-said c n =
    let a = c.args in
    let f = c.in-Forked in
    c.beyond.ensures
    ∙ side_is_beyond a.ids.now a.rows.now (forked a.last a.a a.b) a.second c.requires
    c.climb-prefix.result
    c.climb-prefix.ensures
    f.low
    f.high
    n

pub returns-then-beyond : goal.returns-then-beyond
returns-then-beyond c =
    let a = c.args in
    let f = c.in-Forked in
    λ n.
    forked_beyond a.ids.now a.rows.now n a.last a.second.last a.second.phase a.a a.b f.low f.high f.is
    c.beyond.result
    (beyond-said ((goal.at.returns-then-beyond c).After-beyond) n)
    c.if-beyond.true

pub returns-then-last-bound : goal.returns-then-last-bound
returns-then-last-bound c =
    let a = c.args in
    let f = c.in-Forked in
    λ n.
    forked_elsewhere a.ids.now a.rows.now n a.last a.second.last a.second.phase a.a a.b f.low f.high f.is
    c.beyond.result
    (beyond-said ((goal.at.returns-then-last-bound c).After-beyond) n)
    c.if-beyond.false
    c.if-last-bound.true

pub admissible-requires : goal.admissible-requires
admissible-requires c =
    let a = c.args in
    let f = c.in-Forked in
    (evidence_named a.ids.now a.rows.now (forked a.last a.a a.b) a.second c.requires f.low f.high f.is
    a.last
    a.a
    a.b
    refl
    ).0

pub returns-then-not-admissible : goal.returns-then-not-admissible
returns-then-not-admissible c =
    let a = c.args in
    let f = c.in-Forked in
    let t = c.admissible in
    λ n.
    low_refused a.ids.now a.rows.now n a.last a.second.last a.second.phase a.a a.b f.low f.high f.is
    c.beyond.result
    (beyond-said ((goal.at.returns-then-not-admissible c).After-beyond) n)
    c.if-beyond.false
    c.if-last-bound.false
    t.result
    t.ensures
    c.if-not-admissible.true

pub admissible-requires-2 : goal.admissible-requires-2
admissible-requires-2 c =
    let a = c.args in
    let f = c.in-Forked in
    (evidence_named a.ids.now a.rows.now (forked a.last a.a a.b) a.second c.requires f.low f.high f.is
    a.last
    a.a
    a.b
    refl
    ).1

pub returns : goal.returns
returns c =
    let a = c.args in
    let f = c.in-Forked in
    let t = c.admissible in
    λ n.
    high_decides a.ids.now a.rows.now n a.last a.second.last a.second.phase a.a a.b f.low f.high f.is
    c.beyond.result
    (beyond-said ((goal.at.returns c).After-beyond) n)
    c.if-beyond.false
    c.if-last-bound.false
    t.result
    t.ensures
    c.if-not-admissible.false
    c.admissible-2.result
    c.admissible-2.ensures

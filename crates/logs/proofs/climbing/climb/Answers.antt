-- `logs::climbing::climb` meets its contract. The loop's invariant: the prefix of the two places is that of `a` and `b`, and each side
-- has the last row that it left. The measure is the sum of the two row numbers. Assumes nothing.
use Prim.Native.Nat.{◌≤◌, ◌<◌}
use mathlib.Core.Path.{refl}
use native.Mathlib.Omega.{arith}
use Rattle.store.specs.Table.{row_at}
use Rattle.logs.proofs.Links.{side_begins, linked_down, deeper_first, prev_less, second_climbs, first_climbs, climb_meets}
use Rattle.logs.proofs.climbing.climb.Goals as goal
use Rattle.logs.proofs.climbing.climb.Goals.{After-prev_of-first, After-prev_of-second}

pub loop-first-init : goal.loop-first-init
loop-first-init c =
    let a = c.args in
    record { first_side = side_begins a.rows.now a.a; second_side = side_begins a.rows.now a.b; same = λ ids n. refl }

pub prev_of-second-requires : goal.prev_of-second-requires
prev_of-second-requires c =
    linked_down c.args.rows.now c.args.b c.loop-first.second c.requires.1 c.loop-first.invariant.second_side.within

-- In a turn the second is deeper.
second-deeper : (c : After-prev_of-second) → (row_at c.args.rows.now c.loop-first.first).index < (row_at c.args.rows.now c.loop-first.second).index
second-deeper c = omega (arith, c.if-index_of.true, c.index_of-in-loop-first.ensures, c.index_of.ensures)

pub loop-first-smaller-then-index_of : goal.loop-first-smaller-then-index_of
loop-first-smaller-then-index_of c =
    let k = linked_down c.args.rows.now c.args.b c.loop-first.second c.requires.1 c.loop-first.invariant.second_side.within in
    omega (arith, c.prev_of-second.ensures, prev_less c.args.rows.now c.loop-first.second k (omega (arith, second-deeper c)))

pub loop-first-preserved-then-index_of : goal.loop-first-preserved-then-index_of
loop-first-preserved-then-index_of c =
    second_climbs c.args.rows.now c.args.a c.args.b c.loop-first.first c.loop-first.second
    c.loop-first.left_first c.loop-first.left_second c.prev_of-second.result c.requires.1 c.loop-first.invariant c.if-first-second.false
    (second-deeper c) c.prev_of-second.ensures

pub prev_of-first-requires : goal.prev_of-first-requires
prev_of-first-requires c =
    linked_down c.args.rows.now c.args.a c.loop-first.first c.requires.0 c.loop-first.invariant.first_side.within

-- In the other turn the first is at least as deep.
first-deeper : (c : After-prev_of-first) → (row_at c.args.rows.now c.loop-first.second).index ≤ (row_at c.args.rows.now c.loop-first.first).index
first-deeper c = omega (arith, c.if-index_of.false, c.index_of-in-loop-first.ensures, c.index_of.ensures)

pub loop-first-smaller : goal.loop-first-smaller
loop-first-smaller c =
    let rows = c.args.rows.now in
    let k = linked_down rows c.args.a c.loop-first.first c.requires.0 c.loop-first.invariant.first_side.within in
    let j = linked_down rows c.args.b c.loop-first.second c.requires.1 c.loop-first.invariant.second_side.within in
    let d = deeper_first rows c.loop-first.first c.loop-first.second k j c.if-first-second.false (first-deeper c) in
    omega (arith, c.prev_of-first.ensures, prev_less rows c.loop-first.first k d)

pub loop-first-preserved : goal.loop-first-preserved
loop-first-preserved c =
    first_climbs c.args.rows.now c.args.a c.args.b c.loop-first.first c.loop-first.second
    c.loop-first.left_first c.loop-first.left_second c.prev_of-first.result c.requires.0 c.requires.1 c.loop-first.invariant
    c.if-first-second.false (first-deeper c) c.prev_of-first.ensures

pub returns : goal.returns
returns c =
    climb_meets c.args.rows.now c.args.a c.args.b c.loop-first.first c.loop-first.second
    c.loop-first.left_first c.loop-first.left_second c.loop-first.invariant c.if-first-second.true

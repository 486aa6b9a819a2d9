-- `morning::admit_each` meets its contract: the items that are left decide the rest.
-- Assumes nothing.
use mathlib.Core.Path.{refl}
use native.Mathlib.Omega.{arith}
use Rattle.std.proofs.Common.{rules}
use Rattle.morning.specs.Intake.{kept_by}
use Rattle.morning.proofs.Going.{going_first, going_room, going_more, going_ended}
use Rattle.morning.proofs.admit_each.Goals as goal

pub loop-at-init : goal.loop-at-init
loop-at-init c =
    let a = c.args in (
      search rules,
      (
        c.requires.1,
        (
          refl,
          going_first (kept_by a.store.now a.origins.now) a.origin
              a.stretch.now a.list.now c.requires.0,
        ),
      ),
    )

pub admit_next-at-requires : goal.admit_next-at-requires
admit_next-at-requires c =
    let l = c.loop-at in
    let g = l.invariant.1.1.1 in
    (omega (arith, c.loop-at-test.true), (g.well, going_room _ _ _ _ l.at l.k _ _ g (omega (arith, c.loop-at-test.true)) l.invariant.1.0))

pub overflow_add-k : goal.overflow_add-k
overflow_add-k c =
    let g = c.loop-at.invariant.1.1.1 in
    omega (arith, g.counted.fewer, g.counted.inside)

pub loop-at-smaller : goal.loop-at-smaller
loop-at-smaller c =
    omega (arith, c.admit_next-at.ensures.taken.further, c.admit_next-at.ensures.taken.inside)

pub loop-at-preserved : goal.loop-at-preserved
loop-at-preserved c =
    let l = c.loop-at in
    let g = l.invariant.1.1.1 in
    let m = going_more _ _ _ _ l.at l.k _ _ _ _ _ g (omega (arith, c.loop-at-test.true)) l.invariant.1.0 c.admit_next-at.ensures.taken in
    (search rules, (l.invariant.1.0, (m.size, m)))

pub returns-clause-taken : goal.returns-clause-taken
returns-clause-taken c = let l = c.loop-at in going_ended _ _ _ _ l.at l.k _ _ l.invariant.1.1.1 (omega (arith, c.loop-at-test.false))

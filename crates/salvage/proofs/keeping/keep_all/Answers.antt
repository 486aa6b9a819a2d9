-- `salvage::keeping::keep_all` meets its contract: each step is the salvage's, and leaves less to do.
-- Assumes nothing.
use native.Mathlib.Omega.{arith}
use Rattle.std.proofs.Common.{rules}
use Rattle.cutting.specs.Cutting.{items_of}
use Rattle.salvage.proofs.Ending.{rescuing_none, ready_of, none_free_of}
use Rattle.salvage.proofs.keeping.keep_all.Goals as goal

pub lowest_free-k-requires : goal.lowest_free-k-requires
lowest_free-k-requires c = omega (
  arith,
  c.requires.0.0.all,
  c.requires.1.list_room,
)

pub loop-k-init : goal.loop-k-init
loop-k-init c =
    let a = c.args in (
      search rules,
      (
        c.requires.0.0,
        (
          rescuing_none (items_of a.stick.now) a.store.now a.origins.now a.clean.now a.list.now c.requires.0.1 c.requires.1,
          c.lowest_free-k.ensures,
        ),
      ),
    )

pub try_item-bytes-requires : goal.try_item-bytes-requires
try_item-bytes-requires c =
    let l = c.loop-k in
    let i = l.invariant.1 in (
      i.0,
      ready_of _ _ _ _ _ _ _ _ _ _ _ i.0 i.1.0 i.1.1 (omega (
        arith,
        c.loop-k-test.true,
      )),
    )

pub lowest_free-k-requires-in-loop-k : goal.lowest_free-k-requires-in-loop-k
lowest_free-k-requires-in-loop-k c =
    let i = c.loop-k.invariant.1 in
    let g = c.try_item-bytes.ensures.kept.going _ _ _ i.1.0 in
    omega (arith, i.0.all, g.list_room)

pub loop-k-smaller : goal.loop-k-smaller
loop-k-smaller c = c.try_item-bytes.ensures.kept.less

pub loop-k-preserved : goal.loop-k-preserved
loop-k-preserved c =
    let v = c.loop-k.invariant in
    let i = v.1 in (
      search rules,
      (
        i.0,
        (
          c.try_item-bytes.ensures.kept.going _ _ _ i.1.0,
          c.lowest_free-k-in-loop-k.ensures,
        ),
      ),
    )

pub returns-clause-kept : goal.returns-clause-kept
returns-clause-kept c =
    let i = c.loop-k.invariant.1 in
    (i.1.0, none_free_of _ _ _ _ _ i.0 i.1.1 (omega (arith, c.loop-k-test.false)))

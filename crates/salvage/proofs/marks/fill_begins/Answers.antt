-- `salvage::marks::fill_begins` meets its contract.
-- Assumes nothing.
use Prim.Native.Nat.{◌+◌, ◌<◌}
use mathlib.Core.Path.{◌≡◌, ◌∙◌}
use native.Mathlib.Omega.{arith}
use lib.ListN.{length, length-set}
use Rattle.std.proofs.Common.{rules}
use Rattle.cutting.specs.Cutting.{items_of}
use Rattle.cutting.proofs.Items.{left_less, counted_all}
use Rattle.salvage.proofs.Places.{reached_none, reached_more, reached_below, begins_first, begins_more}
use Rattle.salvage.proofs.marks.fill_begins.Goals as goal

pub loop-at-init : goal.loop-at-init
loop-at-init c =
    let a = c.args in
    (search rules, (reached_none a.stick.now, begins_first (items_of a.stick.now) a.begins.now (omega (arith, c.requires))))

pub bounds-begins-k : goal.bounds-begins-k
bounds-begins-k c =
    let l = c.loop-at in
    let a = c.args in
    omega (arith, reached_below a.stick.now l.at l.k (omega (arith, c.loop-at-test.true)) l.invariant.1.0, l.invariant.0.1)

pub loop-at-smaller : goal.loop-at-smaller
loop-at-smaller c =
    let l = c.loop-at in
    let a = c.args in
    left_less a.stick.now l.at _ _ (omega (arith, c.loop-at-test.true)) c.cut_item-cut.ensures

pub loop-at-preserved : goal.loop-at-preserved
loop-at-preserved c =
    let l = c.loop-at in
    let a = c.args in
    let t : l.at < length a.stick.now = omega (arith, c.loop-at-test.true) in
    let b = reached_below a.stick.now l.at l.k t l.invariant.1.0 in
    let r = reached_more a.stick.now l.at l.k _ _ t c.cut_item-cut.ensures l.invariant.1.0 in
    let z = length-set l.begins (l.k + 1) (l.at + c.cut_item-cut.result.size) in (
      (omega (arith, z, l.invariant.0.0), omega (arith, z, l.invariant.0.1)),
      (r, begins_more (items_of a.stick.now) l.begins l.k _ (omega (arith, b, l.invariant.0.1)) r.place l.invariant.1.1),
    )

pub shape_of-begins : goal.shape_of-begins
shape_of-begins c =
    let a = c.args in
    c.loop-at.invariant.0.0 ∙ length-set a.begins.now 0 0

pub returns : goal.returns
returns c =
    let l = c.loop-at in
    let a = c.args in
    let e : l.k ≡ length (items_of a.stick.now) = counted_all a.stick.now l.at l.k (omega (arith, c.loop-at-test.false)) l.invariant.1.0.counted in
    record { places = l.invariant.0.1; begin = λ p h. l.invariant.1.1 p (omega arith) }

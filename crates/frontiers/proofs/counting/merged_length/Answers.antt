-- `frontiers::counting::merged_length` meets its contract.
-- Assumes nothing.
use Prim.Native.Nat.{◌+◌}
use native.Mathlib.Omega.{arith}
use Rattle.frontiers.proofs.Lengths.{counted_none, counted_more, counted_all, joined_at_most}
use Rattle.frontiers.proofs.counting.merged_length.Goals as goal

pub loop-a-init : goal.loop-a-init
loop-a-init c =
    let a = c.args in
    (omega arith, counted_none a.authors a.f.now a.g.now)

pub overflow_add-count : goal.overflow_add-count
overflow_add-count c =
    let a = c.args in
    let k = c.joined_length-count in
    omega (arith, joined_at_most a.f.now a.g.now _ k.result k.ensures)

pub loop-a-preserved : goal.loop-a-preserved
loop-a-preserved c =
    let a = c.args in
    let l = c.loop-a in
    let k = c.joined_length-count in (
      omega (arith, joined_at_most a.f.now a.g.now _ k.result k.ensures),
      counted_more a.authors a.f.now a.g.now l.a l.count k.result (omega arith) (omega arith) l.invariant.1 k.ensures,
    )

pub returns : goal.returns
returns c =
    let a = c.args in
    let l = c.loop-a in
    counted_all a.authors a.f.now a.g.now l.a l.count (omega arith) l.invariant.1

pub returns-2 : goal.returns-2
returns-2 c =
    let a = c.args in
    let l = c.loop-a in
    let k = c.joined_length-count in
    counted_all a.authors a.f.now a.g.now (l.a + 1) (l.count + k.result) (omega arith)
    (counted_more a.authors a.f.now a.g.now l.a l.count k.result (omega arith) (omega arith) l.invariant.1 k.ensures)

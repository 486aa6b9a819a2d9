-- `cutting::cut_item` meets its contract.
-- Assumes nothing.
use mathlib.Core.Path.{ap}
use Prim.Native.Nat.{ℕ, ◌+◌}
use native.Mathlib.Omega.{arith}
use Rattle.cutting.proofs.Cuts.{cut_short, cut_above, cut_broken, cut_whole}
use Rattle.cutting.proofs.cut_item.Goals as goal

pub returns-then-left-lt4 : goal.returns-then-left-lt4
returns-then-left-lt4 c =
    let a = c.args in
    let r = c.all_left.ensures in
    cut_short a.left.now _ _ (omega arith) r.0 r.1

pub returns-then-length-gt-LENGTH_LIMIT : goal.returns-then-length-gt-LENGTH_LIMIT
returns-then-length-gt-LENGTH_LIMIT c =
    let a = c.args in
    let r = c.all_left-then-length-gt-LENGTH_LIMIT.ensures in
    cut_above a.left.now _ _ (omega arith) (omega (arith, c.read32-length.ensures.0)) r.0 r.1

pub returns-then-left-length : goal.returns-then-left-length
returns-then-left-length c =
    let a = c.args in
    let e = c.read32-length.ensures.0 in
    let r = c.all_left-then-left-length.ensures in
    cut_broken a.left.now _ _ (omega arith) (omega (arith, e)) (omega (arith, e)) r.0 r.1

pub returns : goal.returns
returns c =
    let a = c.args in
    let e = c.read32-length.ensures.0 in
    cut_whole a.left.now _ (omega arith) (omega (arith, e)) (omega (arith, e)) (ap (λ (n : ℕ). 4 + n) e)

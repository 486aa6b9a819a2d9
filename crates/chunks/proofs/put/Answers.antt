-- `chunks::put` meets its contract.
-- Assumes nothing.
use Prim.Native.Nat.{◌-◌, ◌*◌}
use mathlib.Core.Path.{sym, ◌∙◌}
use native.Mathlib.Omega.{arith}
use lib.Seq.{length-take-le}
use Rattle.basics.proofs.Copies.{pasted_part}
use Rattle.chunks.proofs.put.Goals as goal

pub slice_bounds-copy_at-end : goal.slice_bounds-copy_at-end
slice_bounds-copy_at-end c = sym (length-take-le 32 c.args.x.now c.requires.1.1)

pub copy_at-requires : goal.copy_at-requires
copy_at-requires c =
    omega (arith, c.requires, length-take-le 32 c.args.x.now c.requires.1.1)

pub returns : goal.returns
returns c =
    c.copy_at.ensures ∙ pasted_part c.args.s.now ((c.args.r - 1) * 32) c.args.x.now 32 c.requires.1.1

-- `writing::laying::put_end` meets its contract: count, dependency ids and signature lie one behind the other.
-- Assumes nothing.
use Prim.Native.Nat.{◌+◌, ◌/◌}
use native.Mathlib.Omega.{arith}
use lib.ListN.{length}
use Rattle.writing.specs.Bytes.{bytes16}
use Rattle.writing.proofs.Behind.{laid_three, length_16}
use Rattle.writing.proofs.laying.put_end.Goals as goal

pub returns : goal.returns
returns c =
    let a = c.args in
    let d = a.dependencies.now in
    let count = c.put16 in
    let ids = c.copy_at in
    let signature = c.copy_at-2 in
    laid_three a.out.now a.at (bytes16 (length d / 32)) (a.at + 2) d (a.at + 2 + length d) a.signature.now _ _ _
    count.ensures ids.ensures signature.ensures (omega (arith, length_16 (length d / 32))) (omega arith) (omega arith)

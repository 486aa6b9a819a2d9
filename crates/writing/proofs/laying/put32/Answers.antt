-- `writing::laying::put32` meets its contract: two numbers of two bytes, the low one first.
-- Assumes nothing.
use Prim.Native.Nat.{◌+◌, ◌/◌}
use native.Mathlib.Omega.{arith}
use Rattle.writing.specs.Bytes.{bytes16, bytes32}
use Rattle.writing.proofs.Behind.{laid_two, length_16}
use Rattle.writing.proofs.laying.put32.Goals as goal

pub returns : goal.returns
unfolding bytes32
returns c =
    let a = c.args in
    let low = c.put16 in
    let high = c.put16-2 in
    laid_two a.out.now a.at (bytes16 a.n) (a.at + 2) (bytes16 (a.n / 65536)) _ _ low.ensures high.ensures
    (omega (arith, length_16 a.n)) (omega (arith, c.requires))

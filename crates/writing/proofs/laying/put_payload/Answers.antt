-- `writing::laying::put_payload` meets its contract: the payload lies behind its length.
-- Assumes nothing.
use native.Mathlib.Omega.{arith}
use lib.ListN.{length}
use Rattle.writing.specs.Bytes.{bytes32}
use Rattle.writing.proofs.Behind.{laid_two, length_32}
use Rattle.writing.proofs.laying.put_payload.Goals as goal

pub returns : goal.returns
returns c =
    let a = c.args in
    let size = c.put32 in
    let payload = c.copy_at in
    laid_two a.out.now 75 (bytes32 (length a.payload.now)) 79 a.payload.now _ _ size.ensures payload.ensures
    (omega (arith, length_32 (length a.payload.now))) (omega arith)

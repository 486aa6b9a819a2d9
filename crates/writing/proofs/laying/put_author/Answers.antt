-- `writing::laying::put_author` meets its contract: key, previous id and index lie one behind the other.
-- Assumes nothing.
use native.Mathlib.Omega.{arith}
use Rattle.writing.specs.Bytes.{bytes32}
use Rattle.writing.proofs.Behind.{laid_three}
use Rattle.writing.proofs.laying.put_author.Goals as goal

pub returns : goal.returns
returns c =
    let a = c.args in
    let key = c.copy_at in
    let previous = c.copy_at-2 in
    let index = c.put32 in
    laid_three a.out.now 7 a.key.now 39 a.previous.now 71 (bytes32 a.index) _ _ _ key.ensures previous.ensures
    index.ensures (omega arith) (omega arith) (omega arith)

-- `writing::laying::put_head` meets its contract: length, kind and mark lie one behind the other.
-- Assumes nothing.
use native.Mathlib.Omega.{arith}
use mathlib.Core.List.{[], ◌∷◌}
use mathlib.Core.Path.{◌≡◌, ◌∙◌}
use lib.ListN.{length, length-set}
use Rattle.writing.specs.Bytes.{bytes16, bytes32}
use Rattle.writing.proofs.Behind.{laid_three, laid_byte, length_16, length_32}
use Rattle.writing.proofs.laying.put_head.Goals as goal

pub shape_of-out : goal.shape_of-out
shape_of-out c =
    let kind = c.put16 in
    let a = c.args in
    let e : length kind.new.out ≡ length a.out.now = omega arith in
    length-set kind.new.out 6 a.mark ∙ e

pub returns : goal.returns
returns c =
    let a = c.args in
    let following = c.put32 in
    let kind = c.put16 in
    laid_three a.out.now 0 (bytes32 a.following) 4 (bytes16 1) 6 (a.mark ∷ []) _ _ _ following.ensures kind.ensures
    (laid_byte kind.new.out 6 a.mark (omega arith)) (omega (arith, length_32 a.following)) (omega (arith, length_16 1))
    (omega (arith, c.requires))

-- `logs::evidence::lower` meets its contract: the bytes of the two ids are compared, and their numbers stand in the same order.
-- Assumes nothing.
use native.Mathlib.Omega.{arith}
use Rattle.logs.proofs.Ids.{compared_keys}
use Rattle.logs.proofs.evidence.lower.Goals as goal

pub returns : goal.returns
returns c =
    let a = c.args in
    compared_keys a.ids.now a.c a.d
    c.wide.result
    c.wide-2.result
    c.id_at.result.now
    c.id_at-2.result.now
    c.before-2.result
    (λ i. omega (arith, c.type_inv.ids i))
    c.requires.0
    c.requires.1
    c.wide.ensures
    c.wide-2.ensures
    c.id_at.ensures
    c.id_at-2.ensures
    c.before-2.ensures

-- `standing::receiving::evidence_held` meets its contract: they do not apply, or one after the other decides.
-- Assumes nothing.
use Rattle.standing.proofs.Held.{evidence_none, low_lacks, high_decides}
use Rattle.standing.proofs.receiving.evidence_held.Goals as goal

pub returns-then-byte_in-eq0 : goal.returns-then-byte_in-eq0
returns-then-byte_in-eq0 c = let a = c.args in evidence_none a.ids.now a.rows a.item.now a.i _ c.byte_in.ensures
    c.if-byte_in-eq0.true

pub returns-then-row_with-eq0 : goal.returns-then-row_with-eq0
returns-then-row_with-eq0 c =
    let a = c.args in
    low_lacks a.ids.now a.rows a.item.now a.i _ _ c.byte_in.ensures c.if-byte_in-eq0.false
    c.row_with.ensures c.if-row_with-eq0.true

pub returns : goal.returns
returns c =
    let a = c.args in
    high_decides a.ids.now a.rows a.item.now a.i _ _ _ c.byte_in.ensures
    c.if-byte_in-eq0.false c.row_with.ensures c.if-row_with-eq0.false
    c.row_with-2.ensures

-- `logs::validity::is_evidence` meets its contract: two children of the last row, sorted by their ids.
-- Assumes nothing.
use Rattle.logs.proofs.Valids.{low_no_evidence, high_no_evidence, evidence_by_ids, children_named}
use Rattle.logs.proofs.validity.is_evidence.Goals as goal

pub returns-then-not-is_child : goal.returns-then-not-is_child
returns-then-not-is_child c =
    let a = c.args in
    let t = c.is_child in
    low_no_evidence a.ids.now a.rows.now a.count a.author a.last a.low a.high
    (rw c.if-not-is_child.true at (t.ensures a.ids.now))

pub returns-then-not-is_child-2 : goal.returns-then-not-is_child-2
returns-then-not-is_child-2 c =
    let a = c.args in
    let t = c.is_child-2 in
    high_no_evidence a.ids.now a.rows.now a.count a.author a.last a.low a.high
    (rw c.if-not-is_child-2.true at (t.ensures a.ids.now))

pub lower-requires : goal.lower-requires
lower-requires c =
    let one = c.is_child in
    let two = c.is_child-2 in
    let a = c.args in
    children_named a.ids.now a.rows.now a.count a.author a.last a.low a.high c.requires
    ((one.ensures a.ids.now).yes c.if-not-is_child.false)
    ((two.ensures a.ids.now).yes c.if-not-is_child-2.false)

pub returns : goal.returns
returns c =
    let one = c.is_child in
    let two = c.is_child-2 in
    let a = c.args in
    evidence_by_ids a.ids.now a.rows.now a.count a.author a.last a.low a.high
    ((one.ensures a.ids.now).yes c.if-not-is_child.false)
    ((two.ensures a.ids.now).yes c.if-not-is_child-2.false)
    c.lower.result
    c.lower.ensures

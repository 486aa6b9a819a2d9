-- `salvage::marks::wake_item` meets its contract.
-- Assumes nothing.
use native.Mathlib.Omega.{arith}
use Rattle.salvage.proofs.Marking.{woken_not_waiting, woken_by}
use Rattle.salvage.proofs.marks.wake_item.Goals as goal

pub returns-then-list-at-ne-WAITING : goal.returns-then-list-at-ne-WAITING
returns-then-list-at-ne-WAITING c =
    let a = c.args in
    woken_not_waiting a.item.now a.list.now a.k a.id.now c.if-list-at-ne-WAITING.true

pub returns-then-names_it : goal.returns-then-names_it
returns-then-names_it c =
    let a = c.args in
    let w = woken_by a.item.now a.list.now a.k a.id.now c.names_it.result c.wide.result
    (omega (arith, c.if-list-at-ne-WAITING.false)) c.wide.ensures c.names_it.ensures in
    rw c.if-names_it.true at w

pub returns-else-names_it : goal.returns-else-names_it
returns-else-names_it c =
    let a = c.args in
    let w = woken_by a.item.now a.list.now a.k a.id.now c.names_it.result c.wide.result
    (omega (arith, c.if-list-at-ne-WAITING.false)) c.wide.ensures c.names_it.ensures in
    rw c.if-names_it.false at w

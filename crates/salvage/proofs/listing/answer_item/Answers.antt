-- `salvage::listing::answer_item` meets its contract.
-- Assumes nothing.
use Rattle.morning.specs.Intake.{kept_by}
use Rattle.salvage.proofs.Listed.{answered_kept, answered_left}
use Rattle.salvage.proofs.listing.answer_item.Goals as goal

pub returns-then-list-k-eq-KEPT-clause-kept : goal.returns-then-list-k-eq-KEPT-clause-kept
returns-then-list-k-eq-KEPT-clause-kept c =
    let a = c.args in
    answered_kept a.item.now a.k (kept_by a.store.now a.origins.now) a.list.now c.if-list-k-eq-KEPT.true

pub returns-clause-kept : goal.returns-clause-kept
returns-clause-kept c =
    let a = c.args in
    let x = c.admit_sound-answer in
    answered_left a.item.now a.k (kept_by a.store.now a.origins.now) _ a.list.now _ x.result c.answer_number-number.result
    c.answer_row-row.result c.requires
    c.if-list-k-eq-KEPT.false x.ensures.judged
    c.answer_number-number.ensures c.answer_row-row.ensures
    c.put_mark.ensures

-- `salvage::keeping::admit_item` meets its contract: the item is refused for ever, or kept.
-- Assumes nothing.
use mathlib.Core.Path.{◌≡◌, sym, ◌∙◌, subst}
use mathlib.Core.Bool.{false}
use native.Mathlib.Omega.{arith}
use Rattle.cutting.specs.Cutting.{items_of}
use Rattle.morning.specs.Intake.{kept_by}
use Rattle.rescue.specs.Greedy.{item_of, is_done}
use Rattle.salvage.specs.Working.{KeptAs}
use Rattle.salvage.proofs.Stepping.{ready_room, judged_as, number_undone, number_done, refused_written}
use Rattle.salvage.proofs.Saving.{kept_written}
use Rattle.salvage.proofs.keeping.admit_item.Goals as goal

pub returns-then-answer_number-ne0-clause-kept : goal.returns-then-answer_number-ne0-clause-kept
returns-then-answer_number-ne0-clause-kept c =
    let a = c.args in
    let x = c.admit_sound-answer in
    let j = judged_as (kept_by a.store.now a.origins.now) _ _
    (item_of (items_of a.stick.now) a.k) x.result c.item_at.ensures x.ensures.judged in
    let u = number_undone x.result c.answer_number.result
    c.answer_number.ensures c.if-answer_number-ne0.true in
    refused_written (items_of a.stick.now) (kept_by a.store.now a.origins.now)
    a.clean.now a.bytes a.list.now a.k c.requires.1.0 _ _ c.requires.1.1 j.0
    (subst (λ y. is_done y ≡ false) j.1 u) c.put_mark.ensures

pub keep_item-requires : goal.keep_item-requires
keep_item-requires c =
    let a = c.args in
    let x = c.admit_sound-answer in
    let b = c.requires.1.0 in
    let j = judged_as (kept_by a.store.now a.origins.now) _ _
    (item_of (items_of a.stick.now) a.k) x.result c.item_at.ensures x.ensures.judged in
    let d = number_done x.result c.answer_number.result
    c.answer_row-row.result c.answer_number.ensures
    (omega (arith, c.if-answer_number-ne0.false)) c.answer_row-row.ensures in (
      (c.requires.0, omega (arith, c.requires.0.all, b.below)),
      (
        ready_room (items_of a.stick.now) (kept_by a.store.now a.origins.now)
            a.clean.now a.bytes a.list.now a.k b c.answer_row-row.result (sym j.1 ∙ d),
        omega (arith, c.requires.0.all, b.going.list_room),
      ),
    )

pub returns-clause-kept : goal.returns-clause-kept
returns-clause-kept c =
    let a = c.args in
    let x = c.admit_sound-answer in
    let j = judged_as (kept_by a.store.now a.origins.now) _ _
    (item_of (items_of a.stick.now) a.k) x.result c.item_at.ensures x.ensures.judged in
    let d = number_done x.result c.answer_number.result
    c.answer_row-row.result
    c.answer_number.ensures
    (omega (arith, c.if-answer_number-ne0.false))
    c.answer_row-row.ensures in
    kept_written (items_of a.stick.now) (kept_by a.store.now a.origins.now)
    a.clean.now a.bytes a.list.now a.k c.requires.1.0
    c.answer_row-row.result (sym j.1 ∙ d) _ _ _ _ j.0
    (subst (λ t. KeptAs (items_of a.stick.now) a.k c.answer_row-row.result t.ids a.clean.now a.bytes a.list.now c.keep_item.new.clean
    c.keep_item.result c.keep_item.new.list) c.read.ensures
    c.keep_item.ensures)

-- `salvage::keeping::try_item` meets its contract: the item waits, or is judged.
-- Assumes nothing.
use mathlib.Core.Path.{subst}
use native.Mathlib.Omega.{arith}
use Rattle.cutting.specs.Cutting.{items_of}
use Rattle.morning.specs.Intake.{kept_by}
use Rattle.rescue.specs.Greedy.{item_of}
use Rattle.salvage.specs.Marks.{note_of}
use Rattle.salvage.specs.Names.{MissingName}
use Rattle.salvage.proofs.Stepping.{missing_of, missing_low, waiting_written}
use Rattle.salvage.proofs.keeping.try_item.Goals as goal

pub narrow-requires : goal.narrow-requires
narrow-requires c = omega (arith, missing_low _ _ _ _ _ c.missing_name-place.ensures (omega (arith, c.if-place-ne0.true)))

pub returns-then-place-ne0-clause-kept : goal.returns-then-place-ne0-clause-kept
returns-then-place-ne0-clause-kept c =
    let a = c.args in
    waiting_written (items_of a.stick.now) (kept_by a.store.now a.origins.now)
    a.clean.now a.bytes a.list.now a.k c.requires.1 c.missing_name-place.result
    c.narrow.result _
    (missing_of _ _ _ (item_of (items_of a.stick.now) a.k) _ (note_of a.list.now a.k) _ c.item_at-item.ensures
    c.wide-known.ensures
    (subst (λ t. MissingName t.ids t.counts.rows c.item_at-item.result.now c.wide-known.result c.missing_name-place.result) c.read.ensures c.missing_name-place.ensures))
    (omega (arith, c.if-place-ne0.true)) c.narrow.ensures c.put_mark.ensures

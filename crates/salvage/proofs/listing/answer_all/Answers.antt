-- `salvage::listing::answer_all` meets its contract.
-- Assumes nothing.
use native.Mathlib.Omega.{arith}
use Rattle.std.proofs.Common.{rules}
use Rattle.cutting.specs.Cutting.{items_of}
use Rattle.morning.specs.Intake.{kept_by}
use Rattle.salvage.proofs.Listed.{listed_none, listed_more}
use Rattle.salvage.proofs.listing.answer_all.Goals as goal

pub loop-k-init : goal.loop-k-init
loop-k-init c =
    let a = c.args in (
      search rules,
      (
        omega (arith, c.requires.0.table.places),
        listed_none (items_of a.stick.now) (kept_by a.store.now a.origins.now) a.list.now,
      ),
    )

pub loop-k-preserved : goal.loop-k-preserved
loop-k-preserved c =
    let l = c.loop-k in
    let v = l.invariant in
    let m = listed_more _ _ _ l.k _ _ v.1.1 c.requires.1 (omega (
      arith,
      c.requires.0.all,
      c.loop-k-test.true,
    )) _ c.item_at.ensures _ _
    c.answer_item.ensures.kept in (
      search rules,
      (
        v.1.0,
        m,
      ),
    )

-- `salvage::marks::item_at` meets its contract: the bytes between two beginnings are the item.
-- Assumes nothing.
use native.Mathlib.Omega.{arith}
use lib.ListN.{length}
use Rattle.cutting.specs.Cutting.{items_of}
use Rattle.salvage.proofs.Places.{laid_item}
use Rattle.salvage.proofs.marks.item_at.Goals as goal

pub slice_bounds-result-count : goal.slice_bounds-result-count
slice_bounds-result-count c =
    (laid_item c.args.stick.now c.args.begins.now (length (items_of c.args.stick.now)) c.args.k c.requires.1 c.requires.0).forward

pub slice_bounds-result-start : goal.slice_bounds-result-start
slice_bounds-result-start c =
    let i = laid_item c.args.stick.now c.args.begins.now (length (items_of c.args.stick.now)) c.args.k c.requires.1 c.requires.0 in
    omega (arith, i.forward, i.inside)

pub slice_bounds-result-end : goal.slice_bounds-result-end
slice_bounds-result-end c =
    let i = laid_item c.args.stick.now c.args.begins.now (length (items_of c.args.stick.now)) c.args.k c.requires.1 c.requires.0 in
    omega (arith, i.forward, i.inside)

pub returns : goal.returns
returns c =
    (laid_item c.args.stick.now c.args.begins.now (length (items_of c.args.stick.now)) c.args.k c.requires.1 c.requires.0).bytes

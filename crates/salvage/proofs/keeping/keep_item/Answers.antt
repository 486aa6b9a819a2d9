-- `salvage::keeping::keep_item` meets its contract.
-- Assumes nothing.
use native.Mathlib.Omega.{arith}
use Rattle.std.proofs.Common.{rules}
use mathlib.Core.Path.{ap}
use lib.ListN.{length}
use Rattle.salvage.proofs.Places.{may_take}
use Rattle.salvage.proofs.Saving.{kept_as}
use Rattle.salvage.proofs.keeping.keep_item.Goals as goal

pub item_at-item-requires : goal.item_at-item-requires
item_at-item-requires c = may_take c.args.stick.now c.args.begins.now c.args.n c.args.k c.requires.0.0 c.requires.0.1

pub copy_at-requires : goal.copy_at-requires
copy_at-requires c = omega (arith, ap length c.item_at-item.ensures, c.requires.1.0)

pub overflow_add-result : goal.overflow_add-result
overflow_add-result c = search (rules, ap length c.item_at-item.ensures, c.requires.1.0)

pub returns : goal.returns
returns c =
    let a = c.args in
    kept_as a.stick.now a.k a.row a.ids.now a.clean.now a.bytes a.list.now _ _ _ _ _ a.n
    c.wide.result _ c.item_at-item.ensures (ap length c.item_at-item.ensures)
    c.requires.0.0.all c.copy_at.ensures
    c.put_mark.ensures c.wide.ensures
    c.id_at.ensures c.wake.ensures

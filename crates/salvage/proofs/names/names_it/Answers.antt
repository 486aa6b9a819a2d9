-- `salvage::names::names_it` meets its contract.
-- Assumes nothing.
use Rattle.salvage.proofs.Naming.{names_sound, names_refused}
use Rattle.salvage.proofs.names.names_it.Goals as goal

pub returns-in-Ok : goal.returns-in-Ok
returns-in-Ok c =
    let a = c.args in
    names_sound a.item.now a.place a.id.now _ c.layout_of-layout.result c.in-Ok.f _ c.layout_of-layout.ensures c.in-Ok.is c.name_of.ensures
    c.same.ensures

pub returns-in-Err : goal.returns-in-Err
returns-in-Err c =
    let a = c.args in
    names_refused a.item.now a.place a.id.now c.layout_of-layout.result c.in-Err.field-0 c.layout_of-layout.ensures c.in-Err.is

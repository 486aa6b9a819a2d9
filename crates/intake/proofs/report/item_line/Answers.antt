-- `intake::report::item_line` meets its contract.
-- Assumes nothing.
use native.Mathlib.Omega.{arith}
use Rattle.intake.proofs.Reports.{item_spelled}
use Rattle.intake.proofs.report.item_line.Goals as goal

pub returns : goal.returns
returns c =
    let a = c.args in
    item_spelled a.line.now a.number a.answer a.row _ _ _ _ _ _ c.requires (omega arith) (omega arith) (omega arith) c.put_decimal-a.ensures
    c.put_number-b.ensures c.put_number.ensures

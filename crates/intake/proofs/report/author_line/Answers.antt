-- `intake::report::author_line` meets its contract.
-- Assumes nothing.
use Prim.Native.Nat.{◌*◌}
use native.Mathlib.Omega.{arith}
use Rattle.frontiers.specs.Numbers.{entry_width}
use Rattle.intake.proofs.Reports.{author_spelled}
use Rattle.intake.proofs.report.author_line.Goals as goal

pub overflow_cast-frontier : goal.overflow_cast-frontier
overflow_cast-frontier c = omega (arith, c.type_inv.frontier (c.args.entry * entry_width))

pub returns : goal.returns
returns c =
    let a = c.args in
    author_spelled a.line.now a.frontier.now a.entry _ _ _ _ _ _ _ _ _ _ c.requires.line_room_in_bounds
    (λ j. omega (arith, c.type_inv.frontier j)) c.put_decimal-a.ensures c.put_phase-b.ensures c.put_number-c.ensures
    c.put_number-d.ensures c.put_number.ensures

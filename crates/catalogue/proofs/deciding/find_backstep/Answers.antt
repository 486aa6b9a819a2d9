-- `catalogue::deciding::find_backstep` meets its contract: the table of starts is filled, then the rows may be looked through.
-- Assumes nothing.
use native.Mathlib.Omega.{arith}
use Rattle.catalogue.proofs.deciding.find_backstep.Goals as goal

pub fill_starts-requires : goal.fill_starts-requires
fill_starts-requires c =
    let a = c.args in
    let h = c.requires.orderly.falling.list_held a.count (omega arith) in
    let l = c.requires.limit in
    (omega arith, omega arith)

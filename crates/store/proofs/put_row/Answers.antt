-- `store::put_row` meets its contract: four stores one after the other are a copy of the row's four numbers.
-- Assumes nothing.
use Prim.Native.Nat.{◌*◌}
use native.Mathlib.Omega.{arith}
use lib.ListN.{length-set}
use Rattle.store.specs.Limits.{row_width}
use Rattle.store.proofs.Putting.{four_stored}
use Rattle.store.proofs.put_row.Goals as goal

pub bounds-rows-at-2 : goal.bounds-rows-at-2
bounds-rows-at-2 c = simp length-set (omega arith)

pub bounds-rows-at-3 : goal.bounds-rows-at-3
bounds-rows-at-3 c = simp length-set (omega arith)

pub bounds-rows-at-4 : goal.bounds-rows-at-4
bounds-rows-at-4 c = simp length-set (omega arith)

pub returns : goal.returns
returns c =
    let a = c.args in
    rw (c.narrow.ensures, c.narrow-2.ensures, c.narrow-3.ensures, c.narrow-4.ensures)
    (four_stored a.rows.now (a.n * row_width) a.row.author a.row.prev a.row.index a.row.deps (omega (arith, c.requires.0)))

-- `catalogue::deciding::keeps_from` meets its contract: a message that breaks M7 against no row keeps it.
-- Assumes nothing.
use native.Mathlib.Omega.{arith}
use Rattle.catalogue.proofs.Stored.{latest_decides}
use Rattle.catalogue.proofs.deciding.keeps_from.Goals as goal

pub fill_starts-requires : goal.fill_starts-requires
fill_starts-requires c =
    let a = c.args in
    let h = c.requires.search.orderly.falling.list_held a.count (omega arith) in
    let l = c.requires.search.limit in
    (omega arith, omega arith)

pub latest_break-requires : goal.latest_break-requires
latest_break-requires c =
    let a = c.args in
    record {
      look = record { orderly = c.requires.search.orderly; begins = c.fill_starts.ensures; limit = c.requires.search.limit };
      low = c.requires.low;
      named = c.requires.named;
      keep = λ y h. c.requires.keep y (omega (arith, c.requires.low));
    }

pub returns : goal.returns
returns c =
    let a = c.args in
    latest_decides a.rows.now a.deps.now a.on a.list.now _ c.latest_break.ensures

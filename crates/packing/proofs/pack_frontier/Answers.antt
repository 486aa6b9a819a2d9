-- `packing::pack_frontier` meets its contract: the rows that are marked from none are the packing list.
-- Assumes nothing.
use Rattle.packing.proofs.Result.{zeros_blank, packing_of, writes_of}
use native.Mathlib.Omega.{arith}
use Rattle.packing.proofs.pack_frontier.Goals as goal

pub mark_frontier-requires : goal.mark_frontier-requires
mark_frontier-requires c =
    let l = c.requires.limit in
    (c.requires, (zeros_blank 1025, omega arith))

pub returns : goal.returns
returns c =
    writes_of (packing_of c.requires (zeros_blank 1025) c.mark_frontier.ensures)
    c.write_list.ensures

-- `logs::climbing::prev_of` meets its contract: it reads the row's previous row, which is no later and so fits.
-- Assumes nothing.
use native.Mathlib.Omega.{arith}
use Rattle.logs.proofs.Links.{prev_within}
use Rattle.logs.proofs.climbing.prev_of.Goals as goal

pub returns : goal.returns
returns c = cc (c.row_at-row.ensures, c.wide.ensures)

pub overflow_cast-result : goal.overflow_cast-result
overflow_cast-result c =
    omega (arith, returns c, prev_within c.args.rows.now c.args.r c.requires)

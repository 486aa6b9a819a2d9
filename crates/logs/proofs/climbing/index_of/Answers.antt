-- `logs::climbing::index_of` meets its contract: it reads the row's index.
-- Assumes nothing.
use Rattle.logs.proofs.climbing.index_of.Goals as goal

pub returns : goal.returns
returns c = cc (c.row_at-row.ensures, c.wide.ensures)

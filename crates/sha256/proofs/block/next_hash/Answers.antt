-- `block::next_hash` meets its contract: each call is replaced by what it says.
-- Assumes nothing.
use Rattle.sha256.specs.Sha256.{next_hash}
use Rattle.sha256.proofs.block.next_hash.Goals as goal

pub returns : goal.returns
unfolding next_hash
returns c = rw (c.added.ensures, c.turns-v.ensures)

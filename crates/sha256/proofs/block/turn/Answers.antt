-- `block::turn` meets its contract: each call is replaced by what it says.
-- Assumes nothing.
use Rattle.sha256.specs.Sha256.{round_of}
use Rattle.sha256.proofs.block.turn.Goals as goal

pub returns : goal.returns
unfolding round_of
returns c =
    rw (
      c.second_sum.ensures,
      c.first_sum-one.ensures,
    )

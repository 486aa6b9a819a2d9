-- `block::added` meets its contract: each call gives one of the sums.
-- Assumes nothing.
use Rattle.std.proofs.Common.{rules}
use Rattle.sha256.specs.Sha256.{sums}
use Rattle.sha256.proofs.Made.{made}
use Rattle.sha256.proofs.Steps.{length_sums, sums_read}
use Rattle.sha256.proofs.block.added.Goals as goal

pub returns : goal.returns
returns c =
    let a = c.args in
    made _ (sums a.h a.v) c.from_fn.result 8 (length_sums a.h a.v) c.from_fn.ensures.items
    (λ i y q k e. rw (sums_read a.h a.v i k) (search rules))

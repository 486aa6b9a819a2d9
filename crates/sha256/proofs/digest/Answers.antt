-- `digest` meets its contract: the blocks that the code goes through are all blocks of the padded message.
-- Assumes nothing.
use Rattle.std.proofs.Common.{sym, ap, ◌∙◌}
use Rattle.sha256.specs.Sha256.{padded, H⁽ⁱ⁾, joined, sha256_of}
use Rattle.sha256.proofs.Bytes.{blocks_padded}
use Rattle.sha256.proofs.digest.Goals as goal

pub returns : goal.returns
unfolding sha256_of
returns c =
    let m = c.args.message.now in
    c.bytes_of.ensures ∙ ap joined (c.hash_of-last.ensures ∙ ap (H⁽ⁱ⁾ (padded m)) (sym (blocks_padded m)))

-- `bytes_of` meets its contract: each call gives a byte of the hash value.
-- Assumes nothing.
use Rattle.std.proofs.Common.{◌≡◌, ◌*◌, ◌<◌, length, ◌∙◌, arith, rules}
use Rattle.sha256.specs.Sha256.{joined}
use Rattle.sha256.proofs.Bytes.{length_joined, joined_at_lem}
use Rattle.sha256.proofs.Made.{made}
use Rattle.sha256.proofs.bytes_of.Goals as goal

pub returns : goal.returns
returns c =
    let h = c.args.h in
    let n : length h * 4 ≡ 32 = omega arith in
    made _ (joined h) c.from_fn.result 32 (length_joined h ∙ n) c.from_fn.ensures.items
    (λ i y q k e. let m : i < length h * 4 = omega arith in rw (joined_at_lem h i m) (search rules))

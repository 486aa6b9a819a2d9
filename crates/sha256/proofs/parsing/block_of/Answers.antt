-- `parsing::block_of` meets its contract: a whole block of the message is the padded message's.
-- Assumes nothing.
use Rattle.std.proofs.Common.{◌+◌, ◌*◌, ◌≤◌, length, ◌∙◌, arith}
use Rattle.sha256.proofs.Steps.{words_in_front}
use Rattle.sha256.proofs.parsing.block_of.Goals as goal

pub returns-then-i-s : goal.returns-then-i-s
returns-then-i-s c =
    let a = c.args in
    let k : 64 * a.i + 4 * 16 ≤ length a.s.now = omega arith in
    c.block_at.ensures ∙ words_in_front a.s.now (64 * a.i) 16 k

-- `parsing::block_at` meets its contract: each call gives a word of the message.
-- Assumes nothing.
use Rattle.std.proofs.Common.{rules}
use Rattle.sha256.specs.Sha256.{words_at}
use Rattle.sha256.proofs.Made.{made}
use Rattle.sha256.proofs.Steps.{length_words, words_read}
use Rattle.sha256.proofs.parsing.block_at.Goals as goal

pub returns : goal.returns
returns c =
    let a = c.args in
    made _ (words_at a.s.now a.at 16) c.from_fn.result 16 (length_words a.s.now a.at 16) c.from_fn.ensures.items
    (λ i y q h k. rw (words_read a.s.now a.at 16 i h) (search rules))

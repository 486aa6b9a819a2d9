-- `chunks::buckets::bucket_of` meets its contract: the bytes are read and mixed as its definition says.
-- Assumes nothing.
use Rattle.std.proofs.Common.{ℕ, ◌<◌, get_or, rules}
use Rattle.std.proofs.lemmas.Nat.{xor_lt}
use native.Mathlib.Omega.{arith}
use borrow.Author.Tests.{lt-ltb, le-ltb}
use Rattle.chunks.specs.Buckets.{bucket_of}
use Rattle.chunks.proofs.buckets.bucket_of.Goals as goal

pub returns-then-p-lt-PIECE : goal.returns-then-p-lt-PIECE
unfolding bucket_of
returns-then-p-lt-PIECE c = (simp (lt-ltb _ _ c.if-p-lt-PIECE.true), search rules)

pub returns : goal.returns
unfolding bucket_of
returns c =
    let p : (i : ℕ) → get_or c.args.p.now i 0 < 256 = λ i. omega (arith, c.type_inv.p i) in (
      simp (le-ltb _ _ c.if-p-lt-PIECE.false) c.from.ensures,
      omega (arith, c.from.ensures, xor_lt 8 _ _ (xor_lt 8 _ _ (xor_lt 8 _ _ (p 0) (p 1)) (p 30)) (p 31)),
    )

-- The pieces of 32 bytes of a byte list, numbered from 1: keys and ids in a lent part.
-- Assumes nothing.
use Rattle.std.specs.Prelude.{ℕ, ◌-◌, ◌*◌, ◌/◌, List, [], length, eqb, ltb}
use Rattle.std.proofs.Math.Seq.{paste}
use Rattle.basics.specs.Pick.{pick}
use Rattle.basics.specs.Chunk.{chunk_at}

-- The `r`-th piece of `s`; empty for piece 0, and for one that `s` does not hold whole.
unfoldable pub piece_at : List ℕ → ℕ → List ℕ
piece_at s r = pick (eqb r 0) [] (pick (ltb (length s / 32) r) [] (chunk_at ((r - 1) * 32) s))

-- `s` with the 32 bytes of `x` as its `r`-th piece.
abbrev pub put_at : List ℕ → ℕ → List ℕ → List ℕ
put_at s r x = paste s ((r - 1) * 32) x 32

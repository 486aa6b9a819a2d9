-- The order of ids as bytes is the order of their numbers.
-- Assumes nothing.
use Prim.Native.Nat.{ℕ}
use mathlib.Core.Path.{◌≡◌, ◌∙◌}
use mathlib.Core.Bool.{Bool}
use mathlib.Core.List.{List}
use lib.Dec.{ltb}
use Rattle.basics.specs.Bytes.{Bytes}
use Rattle.chunks.specs.Bytes.{comes_before}
use Rattle.chunks.specs.Piece.{piece_at}
use Rattle.chunks.proofs.Numbers.{number_order}
use Rattle.chunks.proofs.Pieces.{length_pieces, bytes_piece}
use Rattle.logs.specs.Held.{key_of, IdHeld}

-- Which of the ids of two rows comes first, their numbers say.
pub lower_key : (ids : List ℕ) (c d : ℕ) → Bytes ids → IdHeld ids c → IdHeld ids d
    → comes_before (piece_at ids c) (piece_at ids d) ≡ ltb (key_of ids c) (key_of ids d)
lower_key ids c d b p q =
    number_order (piece_at ids c) (piece_at ids d) (length_pieces ids ids c d p.some p.held q.some q.held) (bytes_piece ids c b) (bytes_piece ids d b)

-- The same of what was read and compared.
pub compared_keys : (ids : List ℕ) (c d i j : ℕ) (a b : List ℕ) (r : Bool) → Bytes ids → IdHeld ids c → IdHeld ids d
    → i ≡ c → j ≡ d → a ≡ piece_at ids i → b ≡ piece_at ids j → r ≡ comes_before a b → r ≡ ltb (key_of ids c) (key_of ids d)
compared_keys ids c d i j a b r h p q e f g k l = l ∙ rw (g, k, e, f) (lower_key ids c d h p q)

-- The bytes of a message that `limits` lays out: the fields that the limits need at their places, all other bytes zero.
-- Assumes nothing.
use Rattle.std.specs.Prelude.{ℕ, zero, suc, ◌+◌, ◌*◌, ◌-◌, ◌/◌, ◌%◌, ◌≤◌, min, ◌≡◌, List, length, set}
use Rattle.std.proofs.Math.Seq.{paste}
use Rattle.basics.specs.Chunk.{chunk_size}
use Rattle.basics.specs.Pick.{pick}
use Rattle.chunks.specs.Piece.{piece_at}
use Rattle.item.specs.Offsets.{at_kind, at_mark, at_key, at_previous, at_index, at_size, at_payload, at_dependencies, smallest_item}
use Rattle.lines.specs.Line.{fits_in}

-- The first `n` bytes are zero.
unfoldable pub zeroed : List ℕ → ℕ → List ℕ
zeroed s zero = s
zeroed s (suc n) = set (zeroed s n) n 0

-- A number in two bytes at a place, the low byte first.
abbrev pub number_put : List ℕ → ℕ → ℕ → List ℕ
number_put s at n = set (set s at (n % 256)) (at + 1) (n / 256 % 256)

-- Bytes at a place, where they fit.
unfoldable pub bytes_put : List ℕ → ℕ → List ℕ → List ℕ
bytes_put s at text = pick (fits_in s at text) (paste s at text (length text)) s

-- The ids of rows 1 to `n` from a place on.
unfoldable pub ids_put : List ℕ → ℕ → List ℕ → ℕ → List ℕ
ids_put s at ids zero = s
ids_put s at ids (suc n) = bytes_put (ids_put s at ids n) (at + chunk_size * n) (piece_at ids (suc n))

-- The length of all that follows, the kind, and the two counts inside the body.
unfoldable pub sizes_put : List ℕ → ℕ → ℕ → List ℕ
sizes_put s payload count =
    number_put (number_put (number_put (number_put s 0 (smallest_item - 4 + payload + chunk_size * count)) at_kind 1) at_size payload) (at_payload + payload) count

-- The mark, the author's number as a key, and the index.
unfoldable pub author_put : List ℕ → ℕ → ℕ → List ℕ
author_put s author index = number_put (number_put (set s at_mark 1) at_key author) at_index index

-- All of the message, over a buffer `s`.
abbrev pub laid : List ℕ → List ℕ → ℕ → ℕ → ℕ → ℕ → ℕ → List ℕ
laid s ids author previous index payload count =
    ids_put (bytes_put (author_put (sizes_put (zeroed s (length s)) payload count) author index) at_previous (piece_at ids previous)) (at_dependencies + payload)
    ids count

-- What laying a message promises: its bytes, and how many it has, no more than the buffer.
pub record Lays (s ids : List ℕ) (author previous index payload count : ℕ) (s' : List ℕ) (n : ℕ) : Type 0 where
  pub bytes : s' ≡ laid s ids author previous index payload count
  pub size : n ≡ min (smallest_item + payload + chunk_size * count) (length s')
  pub inside : n ≤ length s'

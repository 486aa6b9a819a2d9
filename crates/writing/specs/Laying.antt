-- What the functions that lay the fields of an item do to the buffer.
-- Assumes nothing.
use Rattle.std.specs.Prelude.{ℕ, ◌+◌, ◌/◌, ◌≤◌, ◌≡◌, List, [], ◌∷◌, ◌++◌, length}
use Rattle.std.proofs.Math.Seq.{paste}
use Rattle.basics.specs.Chunk.{chunk_size}
use Rattle.item.specs.Offsets.{smallest_item}
use Rattle.writing.specs.Bytes.{bytes16, bytes32}
use Rattle.writing.specs.Message.{Message}

-- The buffer with these bytes at a place, and all else as it was.
abbrev pub laid_at : List ℕ → ℕ → List ℕ → List ℕ
laid_at out at bytes = paste out at bytes (length bytes)

-- Length, kind and mark.
abbrev pub head_bytes : ℕ → ℕ → List ℕ
head_bytes following mark = bytes32 following ++ (bytes16 1 ++ (mark ∷ []))

-- Author key, previous id and index.
abbrev pub author_bytes : List ℕ → List ℕ → ℕ → List ℕ
author_bytes key previous index = key ++ (previous ++ bytes32 index)

-- Payload length and payload.
abbrev pub payload_bytes : List ℕ → List ℕ
payload_bytes payload = bytes32 (length payload) ++ payload

-- Dependency count, dependency ids and signature.
abbrev pub end_bytes : List ℕ → List ℕ → List ℕ
end_bytes dependencies signature = bytes16 (length dependencies / chunk_size) ++ (dependencies ++ signature)

-- What laying an item asks: key, previous id and signature are of their full length, and the buffer has room.
pub record MayLay (m : Message) (out : List ℕ) : Type 0 where
  pub key_32 : length m.key ≡ 32
  pub previous_32 : length m.previous ≡ 32
  pub signature_64 : length m.signature ≡ 64
  pub room : smallest_item + length m.payload + length m.dependencies ≤ length out

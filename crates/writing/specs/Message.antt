-- The fields that an item is written from, and the item that they make.
-- Assumes nothing.
use Rattle.std.specs.Prelude.{ℕ, ◌/◌, List, [], ◌∷◌, ◌++◌, length}
use Rattle.basics.specs.Chunk.{chunk_size}
use Rattle.writing.specs.Bytes.{bytes16, bytes32}

-- "Write one item from its fields": the dependency ids one after the other.
pub record Message : Type 0 where
  pub mark : ℕ
  pub key : List ℕ
  pub previous : List ℕ
  pub index : ℕ
  pub payload : List ℕ
  pub dependencies : List ℕ
  pub signature : List ℕ

-- The message with these fields.
abbrev pub message_of : ℕ → List ℕ → List ℕ → ℕ → List ℕ → List ℕ → List ℕ → Message
message_of mark key previous index payload dependencies signature =
    record {
      mark = mark;
      key = key;
      previous = previous;
      index = index;
      payload = payload;
      dependencies = dependencies;
      signature = signature;
    }

-- "kind, 2 bytes, which is 1; then the body: mark 1, author key 32, previous id 32, index 4, payload length 4, payload, dependency
-- count 2, dependency ids 32 each, signature 64."
unfoldable pub following_bytes : Message → List ℕ
following_bytes m =
    bytes16 1
    ++ ((m.mark ∷ [])
    ++ (m.key
    ++ (m.previous
    ++ (bytes32 m.index
    ++ (bytes32 (length m.payload)
    ++ (m.payload ++ (bytes16 (length m.dependencies / chunk_size) ++ (m.dependencies ++ m.signature))))))))

-- "An item is: length, 4 bytes, counting all that follows;" and what follows.
unfoldable pub item_bytes : Message → List ℕ
item_bytes m = bytes32 (length (following_bytes m)) ++ following_bytes m

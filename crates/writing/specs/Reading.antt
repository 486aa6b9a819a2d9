-- What reading gives, as the fields that an item is written from: document 02, request 1, "Reading what was written gives the same
-- fields; writing what was read, where its mark is 0 or 1, gives the same bytes".
-- Assumes nothing.
use Rattle.std.specs.Prelude.{ℕ, ◌+◌, ◌*◌, ◌<◌, ◌≡◌, List, length, take, drop, Ok}
use Rattle.basics.specs.Chunk.{chunk_size, chunk_at}
use Rattle.item.specs.declared.Fields.{Fields}
use Rattle.item.specs.Layout.{layout_of, payload_of, key_of, previous_of, dependency_of}
use Rattle.writing.specs.Message.{Message}

-- The dependency ids of an item with these fields, one after the other.
abbrev pub dependencies_of : Fields → List ℕ → List ℕ
dependencies_of f s = take (chunk_size * f.count) (drop f.dependencies s)

-- The signature of an item with these fields: all that stands behind the dependency ids.
abbrev pub signature_of : Fields → List ℕ → List ℕ
signature_of f s = drop (f.dependencies + chunk_size * f.count) s

-- What was read from an item with these fields.
abbrev pub message_in : Fields → List ℕ → Message
message_in f s =
    record {
      mark = f.mark;
      key = key_of s;
      previous = previous_of s;
      index = f.index;
      payload = payload_of s;
      dependencies = dependencies_of f s;
      signature = signature_of f s;
    }

-- "Reading what was written gives the same fields": the layout is sound, and each field is that of the message.
pub record ReadsBack (m : Message) (s : List ℕ) : Type 0 where
  pub fields : Fields
  pub sound : layout_of s ≡ Ok fields
  pub mark : fields.mark ≡ m.mark
  pub key : key_of s ≡ m.key
  pub previous : previous_of s ≡ m.previous
  pub index : fields.index ≡ m.index
  pub payload : payload_of s ≡ m.payload
  pub dependency_count : chunk_size * fields.count ≡ length m.dependencies
  pub dependency : (n : ℕ) → n < fields.count → dependency_of fields n s ≡ chunk_at (chunk_size * n) m.dependencies
  pub dependencies : dependencies_of fields s ≡ m.dependencies
  pub signature : signature_of fields s ≡ m.signature

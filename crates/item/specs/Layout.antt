-- What reading an item gives: its fields, or the first refusal in the order of document 01, "Answer numbers":
-- "fewer than 4 bytes, 2; length above 6,253, 3; length under 2, 2; item incomplete, 2; bytes after it, 4; 5; body under 139, 2;
-- payload length, 3; body under 139 plus payload, 2; dependency count, 3; body too short, 2; too long, 4".
-- Assumes nothing.
use Rattle.answers.specs.declared.Refusal.{Refusal}
use Rattle.std.specs.Prelude.{ℕ, ◌+◌, ◌*◌, ◌-◌, List, [], length, get_or, take, drop, eqb, ltb, Result, Ok, Err}
use Rattle.basics.specs.Pick.{pick}
use Rattle.basics.specs.Chunk.{chunk_size, chunk_at}
use Rattle.answers.specs.declared.Refusal.TheVariants.{Short, Size, Long, Kind}
use Rattle.item.specs.declared.Fields.{Fields}
use Rattle.item.specs.Offsets.{at_kind, at_mark, at_key, at_previous, at_index, at_size, at_payload, at_dependencies, smallest_body, payload_limit, count_limit}
use Rattle.item.specs.Offsets.{length_limit}
use Rattle.item.specs.Little.{le16, le32}

-- "length, 4 bytes, counting all that follows"
abbrev pub length_of : List ℕ → ℕ
length_of s = le32 s 0

-- "kind, 2 bytes"
abbrev pub kind_of : List ℕ → ℕ
kind_of s = le16 s at_kind

-- "then the body": how many bytes follow the length and the kind.
abbrev pub body_size : List ℕ → ℕ
body_size s = length s - at_mark

-- The payload length: the 4 bytes after mark 1, author key 32, previous id 32 and index 4 of the body.
abbrev pub payload_size : List ℕ → ℕ
payload_size s = le32 s at_size

-- The dependency count: the 2 bytes after a payload of `p` bytes, which starts at its place.
abbrev pub count_after : ℕ → List ℕ → ℕ
count_after p s = le16 s (at_payload + p)

-- The places and numbers of an item with a payload of `p` bytes and `d` dependencies.
abbrev pub fields_with : ℕ → ℕ → List ℕ → Fields
fields_with p d s = record { mark = get_or s at_mark 0; index = le32 s at_index; payload = at_payload; size = p; dependencies = at_dependencies + p; count = d }

-- The tests from the dependency count on, after a payload of `p` bytes.
unfoldable pub count_tests : ℕ → List ℕ → Result Fields Refusal
count_tests p s =
    pick (ltb count_limit (count_after p s)) (Err Size)
    (pick (ltb (body_size s) (smallest_body + p + chunk_size * count_after p s)) (Err Short)
    (pick (ltb (smallest_body + p + chunk_size * count_after p s) (body_size s)) (Err Long)
    (Ok (fields_with p (count_after p s) s))))

-- The tests on the body.
unfoldable pub body_tests : List ℕ → Result Fields Refusal
body_tests s =
    pick (ltb (body_size s) smallest_body) (Err Short)
    (pick (ltb payload_limit (payload_size s)) (Err Size) (pick (ltb (body_size s) (smallest_body + payload_size s)) (Err Short)
    (count_tests (payload_size s) s)))

-- What reading the item gives, all tests in order. The mark is not judged here.
unfoldable pub layout_of : List ℕ → Result Fields Refusal
layout_of s =
    pick (ltb (length s) 4) (Err Short)
    (pick (ltb length_limit (length_of s)) (Err Size)
    (pick (ltb (length_of s) 2) (Err Short)
    (pick (ltb (length s - 4) (length_of s)) (Err Short)
    (pick (ltb (length_of s) (length s - 4)) (Err Long) (pick (eqb (kind_of s) 1) (body_tests s) (Err Kind))))))

-- The payload that a layout names in the item; nothing where the item is refused.
unfoldable pub payload_in : Result Fields Refusal → List ℕ → List ℕ
payload_in (Ok f) s = take f.size (drop f.payload s)
payload_in (Err r) s = []

-- "the payload is handed back as a stretch of the caller's own record, after answers 2 to 5 have been ruled out;
-- a refusal hands back an empty stretch"
abbrev pub payload_of : List ℕ → List ℕ
payload_of s = payload_in (layout_of s) s

-- The author key, after length 4, kind 2 and mark 1.
abbrev pub key_of : List ℕ → List ℕ
key_of s = chunk_at at_key s

-- The previous id, after the author key.
abbrev pub previous_of : List ℕ → List ℕ
previous_of s = chunk_at at_previous s

-- The `n`-th dependency id of an item with these fields, from 0 on.
abbrev pub dependency_of : Fields → ℕ → List ℕ → List ℕ
dependency_of f n s = chunk_at (f.dependencies + 32 * n) s

-- "The id is SHA-256 over the body without the mark": what is hashed, the signature included; nothing of a list that ends before.
abbrev pub hashed_of : List ℕ → List ℕ
hashed_of s = drop at_key s

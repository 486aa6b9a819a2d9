-- Document 01, "The item": where its fields stand, and its limits.
-- "length, 4 bytes, counting all that follows; kind, 2 bytes, which is 1; then the body: mark 1, author key 32, previous id 32, index 4,
-- payload length 4, payload, dependency count 2, dependency ids 32 each, signature 64. The smallest body has 139 bytes, the smallest
-- item 145." "payload at most 4,096 bytes, 63 dependencies a message. So a length is at most 6,253."
-- Assumes nothing.
use Rattle.std.specs.Prelude.{ℕ}

-- Where the kind stands.
abbrev pub at_kind : ℕ
at_kind = 4

-- Where the body begins, with the mark.
abbrev pub at_mark : ℕ
at_mark = 6

-- Where the author key stands: what is hashed begins here.
abbrev pub at_key : ℕ
at_key = 7

-- Where the previous id stands.
abbrev pub at_previous : ℕ
at_previous = 39

-- Where the index stands.
abbrev pub at_index : ℕ
at_index = 71

-- Where the payload length stands.
abbrev pub at_size : ℕ
at_size = 75

-- Where the payload begins; the dependency count stands behind it.
abbrev pub at_payload : ℕ
at_payload = 79

-- Where the dependency ids begin in an item without payload.
abbrev pub at_dependencies : ℕ
at_dependencies = 81

-- The smallest body.
abbrev pub smallest_body : ℕ
smallest_body = 139

-- The smallest item.
abbrev pub smallest_item : ℕ
smallest_item = 145

-- The largest payload.
abbrev pub payload_limit : ℕ
payload_limit = 4096

-- The most dependencies of a message.
abbrev pub count_limit : ℕ
count_limit = 63

-- The largest length.
abbrev pub length_limit : ℕ
length_limit = 6253

-- The largest item: the length and its own four bytes.
abbrev pub largest_item : ℕ
largest_item = 6257

-- Document 02, §3: the bytes of what is sent. "Add an item of kind 3: length, kind, entry count 2 bytes, then per entry author key 32, phase
-- 1, last id 32, and two evidence ids of 32. Last carries one byte before it, 1 present or 0 none; ids that don't apply are zero bytes."
-- Assumes nothing.
use Rattle.std.specs.Prelude.{ℕ, List, [], ◌∷◌, ◌++◌, length, replicate}
use Rattle.std.proofs.Math.Option.{Option, none, some}
use Rattle.basics.specs.Chunk.{chunk_size}
use Rattle.writing.specs.Bytes.{bytes16, bytes32}
use Rattle.kind3.specs.Offsets.{standing_kind}
use Rattle.standing.specs.Standing.{Standing, growing_at, forked_at}
use Rattle.standing.specs.Sending.{Sent}

-- "ids that don't apply are zero bytes"
abbrev pub no_id : List ℕ
no_id = replicate chunk_size 0

-- "Last carries one byte before it, 1 present or 0 none"
abbrev pub last_bytes : Option (List ℕ) → List ℕ
last_bytes none = 0 ∷ no_id
last_bytes (some x) = 1 ∷ x

-- "phase 1," as in a frontier "0 growing or 1 forked", "last id 32, and two evidence ids of 32"
abbrev pub says_bytes : Standing → List ℕ
says_bytes (growing_at l) = 0 ∷ (last_bytes l ++ (no_id ++ no_id))
says_bytes (forked_at l lo hi) = 1 ∷ (last_bytes l ++ (lo ++ hi))

-- "per entry author key 32," and where the author's log stands
abbrev pub sent_bytes : Sent → List ℕ
sent_bytes w = w.key ++ says_bytes w.says

-- The entries one after the other.
unfoldable pub entries_bytes : List Sent → List ℕ
entries_bytes [] = []
entries_bytes (w ∷ ws) = sent_bytes w ++ entries_bytes ws

-- "kind, entry count 2 bytes, then per entry .."
unfoldable pub following_bytes : List Sent → List ℕ
following_bytes ws = bytes16 standing_kind ++ (bytes16 (length ws) ++ entries_bytes ws)

-- "length," 4 bytes, counting all that follows, as in kind 1; and what follows.
unfoldable pub item_bytes : List Sent → List ℕ
item_bytes ws = bytes32 (length (following_bytes ws)) ++ following_bytes ws

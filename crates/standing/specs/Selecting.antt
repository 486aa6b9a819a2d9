-- The entries that are sent, as they are found: again and again the one with the least key above the last one.
-- Assumes nothing.
use Rattle.std.specs.Prelude.{ℕ, zero, suc, ◌+◌, ◌-◌, ◌*◌, ◌/◌, ◌≤◌, ◌<◌, Bool, ◌≢◌, List, [], ◌∷◌, ◌++◌, eqb, length}
use Rattle.basics.specs.Pick.{pick, both, either}
use Rattle.basics.specs.Chunk.{chunk_size}
use Rattle.chunks.specs.Bytes.{comes_before}
use Rattle.chunks.specs.Piece.{piece_at}
use Rattle.store.specs.Table.{Table}
use Rattle.store.specs.Clauses.{table_of}
use Rattle.chains.specs.Chain.{State, growing, forked}
use Rattle.logs.specs.States.{state_of}
use Rattle.logs.specs.declared.LogState.{LogState}
use Rattle.frontiers.specs.Numbers.{entry_width, author_at, state_at}
use Rattle.kind3.specs.Offsets.{entry_limit}
use Rattle.standing.specs.Standing.{by_ids}
use Rattle.standing.specs.Sending.{Sent}
use Rattle.standing.specs.Bytes.{no_id}

-- A table of keys and ids alone: what is sent depends on nothing else.
abbrev pub keys_and_ids : List ℕ → List ℕ → Table
keys_and_ids keys ids = table_of keys ids [] [] [] (record { rows = 0; authors = 0; deps = 0 })

-- The key of the author of entry `i` of a frontier.
abbrev pub key_of_entry : List ℕ → List ℕ → ℕ → List ℕ
key_of_entry keys f i = piece_at keys (author_at f i)

-- Whether entry `i` comes next after the key `b`: above it, and below entry `m`, counted from 1, where there is one already.
abbrev pub comes_next : List ℕ → List ℕ → List ℕ → ℕ → ℕ → Bool
comes_next keys f b m i = both (comes_before b (key_of_entry keys f i)) (either (eqb m 0) (comes_before (key_of_entry keys f i) (key_of_entry keys f (m - 1))))

-- Of entry `m`, counted from 1, 0 for none, and entry `i` after it, the one that comes next after the key `b`.
abbrev pub better_of : List ℕ → List ℕ → List ℕ → ℕ → ℕ → ℕ
better_of keys f b m i = pick (comes_next keys f b m i) (i + 1) m

-- Of the first `n` entries the one with the least key above `b`, counted from 1; 0 where none is above.
unfoldable pub next_after : List ℕ → List ℕ → List ℕ → ℕ → ℕ
next_after keys f b zero = 0
next_after keys f b (suc i) = better_of keys f b (next_after keys f b i) i

-- Entry `i` of a frontier as it is sent.
abbrev pub sent_of : List ℕ → List ℕ → List ℕ → ℕ → Sent
sent_of keys ids f i = record { key = key_of_entry keys f i; says = by_ids (keys_and_ids keys ids) (state_at f i) }

-- The next `k` entries of `n` after the key of author `a`; author 0 has no key, and all come after.
unfoldable pub send_after : List ℕ → List ℕ → List ℕ → ℕ → ℕ → ℕ → List Sent
send_after keys ids f n zero a = []
send_after keys ids f n (suc k) a =
    sent_of keys ids f (next_after keys f (piece_at keys a) n - 1) ∷ send_after keys ids f n k (author_at f (next_after keys f (piece_at keys a) n - 1))

-- All entries of a frontier as they are sent.
abbrev pub send_all : List ℕ → List ℕ → List ℕ → List Sent
send_all keys ids f = send_after keys ids f (length f / entry_width) (length f / entry_width) 0

-- How many of the first `n` entries have a key above `b`.
unfoldable pub count_above : List ℕ → List ℕ → List ℕ → ℕ → ℕ
count_above keys f b zero = 0
count_above keys f b (suc i) = count_above keys f b i + pick (comes_before b (key_of_entry keys f i)) 1 0

-- The rows of a state have ids: the last one where there is one, and both evidence rows.
abbrev pub RowsHeld : List ℕ → State → Type 0
RowsHeld ids (growing l) = l * chunk_size ≤ length ids
RowsHeld ids (forked l lo hi) =
    (l * chunk_size ≤ length ids) × (((1 ≤ lo) × (lo * chunk_size ≤ length ids)) × ((1 ≤ hi) × (hi * chunk_size ≤ length ids)))

-- What sending an entry asks: the author has a key, and the rows have ids.
pub record Sendable (keys ids : List ℕ) (a : ℕ) (l : State) : Type 0 where
  pub author : 1 ≤ a
  pub key : a * chunk_size ≤ length keys
  pub rows : RowsHeld ids l

-- What sending the entries of a frontier asks: each may be sent, and no two have one key.
pub record MaySend (keys ids f : List ℕ) : Type 0 where
  pub few : length f / entry_width ≤ entry_limit
  pub each : (i : ℕ) → i < length f / entry_width → Sendable keys ids (author_at f i) (state_at f i)
  pub distinct : (i j : ℕ) → i < length f / entry_width → j < length f / entry_width → i ≢ j → key_of_entry keys f i ≢ key_of_entry keys f j

-- WHAT IS PUT

-- The bytes of the id of row `r`; zero bytes for no row.
abbrev pub id_bytes : List ℕ → ℕ → List ℕ
id_bytes ids r = pick (eqb r 0) no_id (piece_at ids r)

-- "1 present or 0 none"
abbrev pub presence : ℕ → ℕ
presence r = pick (eqb r 0) 0 1

-- Phase, presence of last, last id and evidence ids, by rows.
abbrev pub rows_bytes : List ℕ → ℕ → ℕ → ℕ → ℕ → List ℕ
rows_bytes ids phase last low high = (phase ∷ presence last ∷ []) ++ (id_bytes ids last ++ (id_bytes ids low ++ id_bytes ids high))

-- A log state as it is sent.
abbrev pub state_sent : List ℕ → List ℕ → LogState → Sent
state_sent keys ids k = record { key = piece_at keys k.author; says = by_ids (keys_and_ids keys ids) (state_of k) }

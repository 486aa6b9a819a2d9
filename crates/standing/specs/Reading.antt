-- Document 02, §3: "read it into another store's row numbers."
-- Assumes nothing.
use Rattle.std.specs.Prelude.{ℕ, ◌≤◌, List, [], ◌∷◌}
use Rattle.std.proofs.Math.Option.{Option, none, some}
use Rattle.chunks.specs.Lookup.{place_of}
use Rattle.store.specs.Table.{Table, key_at}
use Rattle.chains.specs.Chain.{State, growing, forked}
use Rattle.frontiers.specs.Entries.{Entry, collect}
use Rattle.standing.specs.Standing.{Standing, growing_at, forked_at}
use Rattle.standing.specs.Sending.{Sent, sent_for}

-- The author of a table that has the key `k`; 0 where it lacks the key.
abbrev pub author_with : Table → List ℕ → ℕ
author_with u k = place_of u.keys u.counts.authors k

-- The row of a table that has the id `x`; 0 where it lacks the id.
abbrev pub row_with : Table → List ℕ → ℕ
row_with u x = place_of u.ids u.counts.rows x

-- The last row: none, or the one that has the id.
abbrev pub last_with : Table → Option (List ℕ) → ℕ
last_with u none = 0
last_with u (some x) = row_with u x

-- The state that stands there, by the rows of a table.
abbrev pub rows_of : Table → Standing → State
rows_of u (growing_at l) = growing (last_with u l)
rows_of u (forked_at l lo hi) = forked (last_with u l) (row_with u lo) (row_with u hi)

-- The same of what is said of an author, if anything is.
abbrev pub rows_at : Table → Option Standing → Option State
rows_at u none = none
rows_at u (some s) = some (rows_of u s)

-- The table holds the id of a last row, if there is one.
abbrev pub KnownLast : Table → Option (List ℕ) → Type 0
KnownLast u none = Unit {0}
KnownLast u (some x) = 1 ≤ row_with u x

-- The table holds every id that applies.
abbrev pub KnownIds : Table → Standing → Type 0
KnownIds u (growing_at l) = KnownLast u l
KnownIds u (forked_at l lo hi) = KnownLast u l × ((1 ≤ row_with u lo) × (1 ≤ row_with u hi))

-- The table holds every key and every applying id of what is sent; else "22 UNKNOWN for a key or applying id that the store lacks".
abbrev pub Known : Table → List Sent → Type 0
Known u [] = Unit {0}
Known u (w ∷ ws) = ((1 ≤ author_with u w.key) × KnownIds u w.says) × Known u ws

-- The entries read: of each author of the table, in its own order, what is said of the author's key, by the table's rows.
unfoldable pub read_entries : Table → List Sent → List Entry
read_entries u ws = collect (λ b. rows_at u (sent_for ws (key_at u b))) u.counts.authors 0

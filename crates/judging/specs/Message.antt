-- What a message names, looked for in the store: rows by their ids, its author by its key. None is 0.
-- `t` is the store, `s` the item's bytes, `f` the fields that its layout gives.
-- Assumes nothing.
use Rattle.std.specs.Prelude.{ℕ, zero, suc, ◌+◌, Bool, false, List, [], ◌∷◌, ◌++◌, eqb}
use Rattle.basics.specs.Pick.{pick, either}
use Rattle.chunks.specs.Lookup.{place_of}
use Rattle.item.specs.Layout.{dependency_of}
use Rattle.item.specs.declared.Fields.{Fields}
use Rattle.store.specs.Table.{Table}

-- The row of an id in the store.
abbrev pub row_with : Table → List ℕ → ℕ
row_with t x = place_of t.ids t.counts.rows x

-- The author of a key in the store.
abbrev pub key_number : Table → List ℕ → ℕ
key_number t k = place_of t.keys t.counts.authors k

-- The author number `a`, or where it is none the next after the `n` that have a key.
abbrev pub or_next : ℕ → ℕ → ℕ
or_next n a = pick (eqb a 0) (n + 1) a

-- The author number that a message with this key has or, where the key is new, gets.
abbrev pub author_with : Table → List ℕ → ℕ
author_with t k = or_next t.counts.authors (key_number t k)

-- The row that the message would take.
abbrev pub next_row : Table → ℕ
next_row t = t.counts.rows + 1

-- Whether one of the first `k` dependencies is not among the first `n` ids.
unfoldable pub lacks : List ℕ → ℕ → List ℕ → Fields → ℕ → Bool
lacks ids n s f zero = false
lacks ids n s f (suc k) = either (lacks ids n s f k) (eqb (place_of ids n (dependency_of f k s)) 0)

-- The rows of the first `k` dependencies, in the message's order.
unfoldable pub named : List ℕ → ℕ → List ℕ → Fields → ℕ → List ℕ
named ids n s f zero = []
named ids n s f (suc k) = named ids n s f k ++ (place_of ids n (dependency_of f k s) ∷ [])

-- The rows of all dependencies of a message.
abbrev pub dep_rows : Table → List ℕ → Fields → List ℕ
dep_rows t s f = named t.ids t.counts.rows s f f.count

-- Document 02, §3: "Two studios' stores number their rows differently, so a frontier can't travel as it is." What a frontier says of each
-- author, by the author's key and by ids, so that no row number is in it.
-- Assumes nothing.
use Rattle.std.specs.Prelude.{ℕ, ◌≡◌, List, [], ◌∷◌, eqb}
use Rattle.std.proofs.Math.Option.{Option, none, some}
use Rattle.basics.specs.Pick.{pick}
use Rattle.chunks.specs.Bytes.{same_bytes}
use Rattle.store.specs.Table.{Table, id_at, key_at}
use Rattle.chains.specs.Chain.{State, growing, forked}
use Rattle.frontiers.specs.Entries.{Entry}

-- Where a log stands, by ids: "phase 1, last id 32, and two evidence ids of 32. Last carries one byte before it, 1 present or 0 none".
-- Growing at an id or at none; forked at an id or at none, with the lower and the higher evidence id.
pub data Standing : Type 0 where
  growing_at : Option (List ℕ) → Standing
  forked_at : Option (List ℕ) → List ℕ → List ℕ → Standing

-- The id of a last row, or none.
abbrev pub id_of : Table → ℕ → Option (List ℕ)
id_of t r = pick (eqb r 0) none (some (id_at t r))

-- Where a state stands, by ids.
abbrev pub by_ids : Table → State → Standing
by_ids t (growing l) = growing_at (id_of t l)
by_ids t (forked l lo hi) = forked_at (id_of t l) (id_at t lo) (id_at t hi)

-- What the entries of a frontier over the table `t` say of the author with the key `k`.
unfoldable pub standing : Table → List Entry → List ℕ → Option Standing
standing t [] k = none
standing t (e ∷ es) k = pick (same_bytes (key_at t e.author) k) (some (by_ids t e.state)) (standing t es k)

-- Entries over one table and over another say the same of every author.
abbrev pub SameStanding : Table → List Entry → Table → List Entry → Type 0
SameStanding t f u g = (k : List ℕ) → standing t f k ≡ standing u g k

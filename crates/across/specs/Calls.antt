-- What the two calls come to: a frontier written over one store, and what was written read over another.
-- Assumes nothing.
use Rattle.answers.specs.declared.Refusal.{Refusal}
use Rattle.std.specs.Prelude.{ℕ, ◌*◌, ◌<◌, ◌≡◌, List, length, take, Result, Ok, Err}
use Rattle.answers.specs.Number.{number_of}
use Rattle.store.specs.Table.{Table}
use Rattle.frontiers.specs.Numbers.{entry_width}
use Rattle.across.specs.Sending.{SameByIds}

-- Reading gave `r` over `u`, with room `l`, and left `l'`: a frontier with the same ids as `f` over `t`; or 21, where the room is shorter
-- than five numbers an author.
abbrev pub Arrives : Table → List ℕ → Table → List ℕ → List ℕ → Result ℕ Refusal → Type 0
Arrives t f u l l' (Ok n) = SameByIds t f u (take n l')
Arrives t f u l l' (Err why) = (number_of why ≡ 21) × (length l < u.counts.authors * entry_width)

-- Reading gave 22, and left the room as it was.
abbrev pub NotKnown : List ℕ → List ℕ → Result ℕ Refusal → Type 0
NotKnown l l' (Ok n) = ⊥
NotKnown l l' (Err why) = (number_of why ≡ 22) × (l' ≡ l)

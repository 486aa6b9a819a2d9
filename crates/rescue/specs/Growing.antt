-- A store that stands later in a run of admissions, and the ids that an item builds on.
-- Assumes nothing.
use Rattle.std.specs.Prelude.{ℕ, ◌≤◌, ◌<◌, ◌≡◌, List, length}
use Rattle.item.specs.Layout.{previous_of, dependency_of}
use Rattle.item.specs.declared.Fields.{Fields}
use Rattle.store.specs.Agree.{SameWithin}
use Rattle.judging.specs.Lengths.{SameLengths}
use Rattle.judging.specs.Message.{row_with}
use Rattle.morning.specs.Intake.{Kept}

-- `l` came of `k` by admissions: what was in use is what it was, no count is lower, and each part is as long.
pub record Grown (k l : Kept) : Type 0 where
  pub within : SameWithin k.store l.store k.store.counts.rows k.store.counts.authors k.store.counts.deps
  pub rows : k.store.counts.rows ≤ l.store.counts.rows
  pub authors : k.store.counts.authors ≤ l.store.counts.authors
  pub deps : k.store.counts.deps ≤ l.store.counts.deps
  pub lengths : SameLengths k.store l.store
  pub places : length k.origins ≡ length l.origins

-- "items before the ones they build on": the item names an id, its previous message's where it has one, or a dependency's.
pub data Names (s : List ℕ) (f : Fields) (x : List ℕ) : Type 0 where
  previous : 1 < f.index → x ≡ previous_of s → Names s f x
  dependency : (k : ℕ) → k < f.count → x ≡ dependency_of f k s → Names s f x

-- The item waits: it names an id that the store lacks.
pub record Waits (k : Kept) (s : List ℕ) (f : Fields) : Type 0 where
  pub id : List ℕ
  pub named : Names s f id
  pub lacked : row_with k.store id ≡ 0

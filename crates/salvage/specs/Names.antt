-- The ids that an item names: its previous id, which an index above 1 asks for, is 1; its dependencies are those from 2 on.
-- Assumes nothing.
use Rattle.answers.specs.declared.Refusal.{Refusal}
use Rattle.std.specs.Prelude.{ℕ, ◌+◌, ◌-◌, ◌≤◌, ◌<◌, ◌≡◌, Bool, true, false, List, eqb, ltb, leb, Result, Ok, Err}
use Rattle.basics.specs.Pick.{pick, both, either}
use Rattle.chunks.specs.Bytes.{same_bytes}
use Rattle.chunks.specs.Lookup.{place_of}
use Rattle.item.specs.Layout.{layout_of, previous_of, dependency_of}
use Rattle.item.specs.declared.Fields.{Fields}

-- The id that stands at a place of an item's names.
abbrev pub name_of : List ℕ → Fields → ℕ → List ℕ
name_of s f p = pick (leb p 1) (previous_of s) (dependency_of f (p - 2) s)

-- "index above 1", and every dependency: whether an item asks for the id at a place.
abbrev pub asked : Fields → ℕ → Bool
asked f p = either (ltb 1 p) (ltb 1 f.index)

-- Whether it is asked for, and is not among the first `n` ids: "previous id not in the store", "a dependency id not in the store".
unfoldable pub lacks_at : List ℕ → ℕ → List ℕ → Fields → ℕ → Bool
lacks_at ids n s f p = both (asked f p) (eqb (place_of ids n (name_of s f p)) 0)

-- All names up to a place that are asked for are among the first `n` ids.
abbrev pub KnownTo : List ℕ → ℕ → List ℕ → Fields → ℕ → Type 0
KnownTo ids n s f x = (p : ℕ) → p ≤ x → 1 ≤ p → lacks_at ids n s f p ≡ false

-- The first place after `x` that is missing; one after the last where none is.
pub record FirstMissing (ids : List ℕ) (n : ℕ) (s : List ℕ) (f : Fields) (x r : ℕ) : Type 0 where
  pub later : x < r
  pub known : (p : ℕ) → p < r → x < p → lacks_at ids n s f p ≡ false
  pub missing : r ≤ f.count + 1 → lacks_at ids n s f r ≡ true

-- How an item stands to the first `n` ids, all of its names up to `x` being there: `r` is the first that is missing, or 0 where none is.
pub record MissingName (ids : List ℕ) (n : ℕ) (s : List ℕ) (x r : ℕ) : Type 0 where
  pub none : r ≡ 0 → (f : Fields) → layout_of s ≡ Ok f → (p : ℕ) → p ≤ f.count + 1 → x < p → lacks_at ids n s f p ≡ false
  pub first : 1 ≤ r → (f : Fields) × ((layout_of s ≡ Ok f) × (FirstMissing ids n s f x r × (r ≤ f.count + 1)))

-- Whether an item with this layout names an id at a place.
unfoldable pub names_by : Result Fields Refusal → List ℕ → ℕ → List ℕ → Bool
names_by (Ok f) s p id = same_bytes id (name_of s f p)
names_by (Err r) s p id = false

abbrev pub names_it : List ℕ → ℕ → List ℕ → Bool
names_it s p id = names_by (layout_of s) s p id

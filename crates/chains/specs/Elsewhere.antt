-- One author's messages in two stores: "Evidence ordered by row number, which differs between studios" is a trap; ids do not differ.
-- Assumes nothing.
use Rattle.std.specs.Prelude.{ℕ, ◌≡◌}
use Rattle.chains.specs.Chain.{Store, RowOf, State, growing, forked, Closed}

-- `S` is a set of messages of `A` in `s` closed under previous links, and `f` takes the row of each to the row of `B` in `u` that has
-- its id and stands on the same predecessor. None is none. What else the two stores hold does not matter.
pub record CarriesOn (s u : Store) (A B : ℕ) (S : ℕ → Type 0) (f : ℕ → ℕ) : Type 0 where
  pub closed : Closed s A S
  pub none : f 0 ≡ 0
  pub row : (x : ℕ) → S x → RowOf u B (f x)
  pub prev : (x : ℕ) → S x → u.prev (f x) ≡ f (s.prev x)
  pub key : (x : ℕ) → S x → u.key (f x) ≡ s.key x

-- The messages of a set, by their rows in the other store.
pub record Image (f : ℕ → ℕ) (S : ℕ → Type 0) (y : ℕ) : Type 0 where
  pub from : ℕ
  pub member : S from
  pub here : f from ≡ y

-- A state, by its rows in the other store.
abbrev pub carried : (ℕ → ℕ) → State → State
carried f (growing l) = growing (f l)
carried f (forked l lo hi) = forked (f l) (f lo) (f hi)

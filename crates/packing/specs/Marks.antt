-- The marks of a walk back: one byte for each row, 1 for a row that is packed, and what a walk adds to them.
-- Assumes nothing.
use Rattle.std.specs.Prelude.{ℕ, zero, suc, ◌+◌, ◌-◌, ◌≤◌, ◌<◌, ◌≡◌, List, [], ◌∷◌, ◌++◌, ◌⊎◌, eqb, length, get_or}
use Rattle.basics.specs.Pick.{pick}
use Rattle.store.specs.Table.{row_at, dep_sum}
use Rattle.packing.specs.Before.{HappenedBefore, Within}

-- Row `x` is marked.
abbrev pub Marked : List ℕ → ℕ → Type 0
Marked marks x = get_or marks x 0 ≡ 1

-- No row is marked.
pub record Blank (marks : List ℕ) : Type 0 where
  pub none : (x : ℕ) → Marked marks x → ⊥

-- With a row all that happened before it is marked.
pub record Closed (rows deps marks : List ℕ) : Type 0 where
  pub back : (x y : ℕ) → HappenedBefore rows deps x y → Marked marks y → Marked marks x

-- The rows marked after are exactly those marked before and the new ones.
pub record Marking (before after : List ℕ) (New : ℕ → Type 0) : Type 0 where
  pub kept : (x : ℕ) → Marked before x → Marked after x
  pub added : (x : ℕ) → New x → Marked after x
  pub only : (x : ℕ) → Marked after x → Marked before x ⊎ New x

-- Row `x` is, or happened before, a dependency that stands from place `from` up to, and not at, place `to`.
pub record Listed (rows deps : List ℕ) (from to x : ℕ) : Type 0 where
  pub place : ℕ
  pub low : from ≤ place
  pub high : place < to
  pub within : Within rows deps (get_or deps place 0) x

-- The links and dependencies of the rows up to `n` lead to earlier rows, and the dependencies are held.
pub record Falling (rows deps : List ℕ) (n : ℕ) : Type 0 where
  pub link_earlier : (y : ℕ) → y ≤ n → 1 ≤ y → (row_at rows y).prev < y
  pub list_earlier : (y : ℕ) → y ≤ n → 1 ≤ y → (k : ℕ) → k < (row_at rows y).deps
      → (1 ≤ get_or deps (dep_sum rows (y - 1) + k) 0) × (get_or deps (dep_sum rows (y - 1) + k) 0 < y)
  pub list_held : (y : ℕ) → y ≤ n → dep_sum rows y ≤ length deps

-- `starts` has, for none and for each row up to `n`, how many dependencies stand up to it: where those of the next row begin.
pub record Starts (rows starts : List ℕ) (n : ℕ) : Type 0 where
  pub held : n < length starts
  pub right : (y : ℕ) → y ≤ n → get_or starts y 0 ≡ dep_sum rows y

-- What a walk back from row `row` asks: it goes to earlier rows, its table of starts is right, the marked rows are closed, and
-- there is a mark for each row.
pub record MayWalk (rows deps starts marks : List ℕ) (row : ℕ) : Type 0 where
  pub falling : Falling rows deps row
  pub starts_right : Starts rows starts row
  pub closed : Closed rows deps marks
  pub marks_held : row < length marks

-- The marked rows up to `n`, rising.
unfoldable pub listing : List ℕ → ℕ → List ℕ
listing marks zero = []
listing marks (suc n) = pick (eqb (get_or marks (suc n) 0) 1) (listing marks n ++ (suc n ∷ [])) (listing marks n)

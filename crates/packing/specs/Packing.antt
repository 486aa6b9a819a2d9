-- Document 01, "Frontiers and packing lists", with document 02, §2: "a packing list holds, for each entry, the last row, both evidence
-- rows, and all that happened before any of them"; it is "the rising list of" these rows; "room beyond it stays too."
-- Assumes nothing.
use Rattle.answers.specs.declared.Refusal.{Refusal}
use Rattle.std.specs.Prelude.{ℕ, ◌/◌, ◌≤◌, ◌<◌, ◌≡◌, ◌⊎◌, length, take, drop, Result}
use mathlib.Core.List.{List, [], ◌∷◌, ◌++◌, Memᴰ}
use Rattle.store.specs.Limits.{row_limit}
use Rattle.store.specs.Table.{Table, WellFormed}
use Rattle.answers.specs.Answers.{written_number, written_count}
use Rattle.chains.specs.Chain.{State, growing, forked}
use Rattle.frontiers.specs.Numbers.{entry_width, state_at}
use Rattle.frontiers.specs.Calls.{FrontierOf}
use Rattle.packing.specs.Before.{Within}
use Rattle.packing.specs.Marks.{Falling, MayWalk, listing}

-- "the last row, both evidence rows": the roots of an entry's state. A growing one has no evidence: its zeros are no rows.
abbrev pub Root : State → ℕ → Type 0
Root (growing l) r = r ≡ l
Root (forked l lo hi) r = (r ≡ l) ⊎ ((r ≡ lo) ⊎ (r ≡ hi))

-- Row `x` is a root of the state, which is not none, or "happened before any of them".
pub record PacksState (rows deps : List ℕ) (state : State) (x : ℕ) : Type 0 where
  pub root : ℕ
  pub stands : Root state root
  pub within : Within rows deps root x

-- The same for the state of entry `k`, counted from 0,
abbrev pub PacksEntry : List ℕ → List ℕ → List ℕ → ℕ → ℕ → Type 0
PacksEntry rows deps frontier k x = PacksState rows deps (state_at frontier k) x

-- and for one of the first `n` entries.
pub record PacksUpTo (rows deps frontier : List ℕ) (n x : ℕ) : Type 0 where
  pub entry : ℕ
  pub inside : entry < n
  pub packs : PacksEntry rows deps frontier entry x

-- "for each entry, the last row, both evidence rows, and all that happened before any of them"
abbrev pub Packs : List ℕ → List ℕ → List ℕ → ℕ → Type 0
Packs rows deps frontier x = PacksUpTo rows deps frontier (length frontier / entry_width) x

-- Each number of the list is above the one before it, and the first is above `low`.
pub data RisesFrom : ℕ → List ℕ → Type 0 where
  end : {low : ℕ} → RisesFrom low []
  next : {low x : ℕ} {rest : List ℕ} → low < x → RisesFrom x rest → RisesFrom low (x ∷ rest)

-- "the rising list of" these rows. No row has the number 0.
pub record PackingList (rows deps frontier list : List ℕ) : Type 0 where
  pub rising : RisesFrom 0 list
  pub only : (x : ℕ) → Memᴰ x list → Packs rows deps frontier x
  pub all : (x : ℕ) → Packs rows deps frontier x → Memᴰ x list

-- The output's first `n` numbers are the packing list, and "room beyond it stays".
pub record Wrote (rows deps frontier out out' : List ℕ) (n : ℕ) : Type 0 where
  pub room : n ≤ length out
  pub same_room : length out' ≡ length out
  pub list : PackingList rows deps frontier (take n out')
  pub beyond : drop n out' ≡ drop n out

-- ROOM: "output shorter than the result".
pub record TooShort (rows deps frontier out : List ℕ) : Type 0 where
  pub result : List ℕ
  pub packs : PackingList rows deps frontier result
  pub short : length out < length result

-- What writing the packing list answers, and what the output holds then: the list, or, for want of room, what it held.
pub data Writes (rows deps frontier out out' : List ℕ) (r : Result ℕ Refusal) : Type 0 where
  packed : written_number r ≡ 0 → Wrote rows deps frontier out out' (written_count r) → Writes rows deps frontier out out' r
  too_short : written_number r ≡ 21 → TooShort rows deps frontier out → out' ≡ out → Writes rows deps frontier out out' r

-- What the call answers, "1, 20 .., 21", and what the output holds then: a refusal leaves all that it held.
pub data Answers (t : Table) (frontier out out' : List ℕ) (r : Result ℕ Refusal) : Type 0 where
  bad_store : written_number r ≡ 1 → (WellFormed t → ⊥) → out' ≡ out → Answers t frontier out out' r
  bad_frontier : written_number r ≡ 20 → WellFormed t → (FrontierOf t frontier → ⊥) → out' ≡ out → Answers t frontier out out' r
  answered : WellFormed t → FrontierOf t frontier → Writes t.rows t.deps frontier out out' r → Answers t frontier out out' r

-- What writing the marked rows answers, and what the output holds then.
pub data WritesMarked (marks : List ℕ) (count : ℕ) (out out' : List ℕ) (r : Result ℕ Refusal) : Type 0 where
  written : written_number r ≡ 0 → written_count r ≡ length (listing marks count) → length (listing marks count) ≤ length out
      → out' ≡ listing marks count ++ drop (length (listing marks count)) out → WritesMarked marks count out out' r
  no_room : written_number r ≡ 21 → length out < length (listing marks count) → out' ≡ out → WritesMarked marks count out out' r

-- A walk back may begin at each root of the state.
abbrev pub RootsWalk : List ℕ → List ℕ → List ℕ → List ℕ → State → Type 0
RootsWalk rows deps starts marks st = (r : ℕ) → Root st r → MayWalk rows deps starts marks r

-- What packing asks of the rows, the dependencies and the frontier: the rows keep the limit, links and dependencies lead to
-- earlier rows, and each root of an entry is a row or none.
pub record MayPack (rows deps : List ℕ) (count : ℕ) (frontier : List ℕ) : Type 0 where
  pub limit : count ≤ row_limit
  pub falling : Falling rows deps count
  pub roots : (k : ℕ) → k < length frontier / entry_width → (r : ℕ) → Root (state_at frontier k) r → r ≤ count

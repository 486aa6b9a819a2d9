-- All items of the input, one by one: what was read falls into them, and each is judged and entered in its turn.
-- Assumes nothing.
use Rattle.std.specs.Prelude.{ℕ, ◌≤◌, ◌≡◌, Bool, true, false, List, [], ◌∷◌, ◌++◌, length, take, drop}
use Rattle.cutting.specs.Cutting.{starts_whole, size_of, items_of, joined, AllWhole}
use Rattle.morning.specs.Intake.{Kept}
use Rattle.intake.specs.Window.{Within, stretch}
use Rattle.intake.specs.Judging.{InOrder, JudgedAndEntered, Untold}

-- "each item, cut at its length, is judged where it begins": the first item of some bytes is judged and entered; the bytes behind it are
-- left, and the intake goes on where the item is whole.
pub record TakesFirst (s : List ℕ) (k : Kept) (f : List ℕ) (used : ℕ) (left : List ℕ) (l : Kept) (f' : List ℕ) (used' : ℕ) (going : Bool) : Type 0 where
  pub some : 1 ≤ length s
  pub judged : JudgedAndEntered k (take (size_of s) s) f used l f' used'
  pub behind : left ≡ drop (size_of s) s
  pub goes : going ≡ starts_whole s

-- Nothing is left: the intake ends, and all stays.
pub record NothingLeft (s : List ℕ) (k : Kept) (f : List ℕ) (used : ℕ) (l : Kept) (f' : List ℕ) (used' : ℕ) (going : Bool) : Type 0 where
  pub none : s ≡ []
  pub kept : l ≡ k
  pub frontier : f' ≡ f
  pub numbers : used' ≡ used
  pub ends : going ≡ false

-- One turn: more bytes are read behind those that were left, and the first item of them all is taken.
pub data Turned (s : List ℕ) (k : Kept) (f : List ℕ) (used : ℕ) (left : List ℕ) (l : Kept) (f' : List ℕ) (used' : ℕ) (going : Bool) : Type 0 where
  took : (more : List ℕ) → TakesFirst (s ++ more) k f used left l f' used' going → Turned s k f used left l f' used' going
  done : NothingLeft s k f used l f' used' going → Turned s k f used left l f' used' going

-- A stretch of the window is left after a turn.
pub record TurnedIn (window : List ℕ) (at held : ℕ) (k : Kept) (f : List ℕ) (used : ℕ) (window' : List ℕ) (at' held' : ℕ) (l : Kept) (f' : List ℕ) (used' : ℕ)
    (going : Bool) : Type 0 where
  pub within : Within window' at' held'
  pub turned : Turned (stretch window at held) k f used (stretch window' at' held') l f' used' going

-- A turn that an error ended. Either a read failed, and what is kept and the frontier stay; or the turn was done but for the line of its item.
pub data TurnFailed (s : List ℕ) (k : Kept) (f : List ℕ) (used : ℕ) (l : Kept) (f' : List ℕ) : Type 0 where
  unread : l ≡ k → f' ≡ f → TurnFailed s k f used l f'
  unprinted : (left : List ℕ) (going : Bool) → Untold (λ used'. Turned s k f used left l f' used' going) → TurnFailed s k f used l f'

-- The items are judged and entered one by one, in order, from what was kept and the list at first, which has no entry.
pub data TakesEach (k₀ : Kept) (f₀ : List ℕ) : List (List ℕ) → Kept → List ℕ → ℕ → Type 0 where
  none_yet : TakesEach k₀ f₀ [] k₀ f₀ 0
  one_more : (is : List (List ℕ)) (k : Kept) (f : List ℕ) (used : ℕ) (i : List ℕ) (l : Kept) (f' : List ℕ) (used' : ℕ) → TakesEach k₀ f₀ is k f used
      → JudgedAndEntered k i f used l f' used' → TakesEach k₀ f₀ (is ++ (i ∷ [])) l f' used'

-- How far the input is cut.
pub data CutSoFar (input : List ℕ) (is : List (List ℕ)) (left : List ℕ) (going : Bool) : Type 0 where
  -- The intake goes on: whole items were cut off, and the bytes behind them are left.
  goes_on : going ≡ true → AllWhole is → input ≡ joined is ++ left → CutSoFar input is left going
  -- It has ended: these are all items of the input.
  ended : going ≡ false → is ≡ items_of input → CutSoFar input is left going

-- What the intake did in `n` turns, of all that it read: the items of it, cut so far, were taken one by one.
pub record TakenIn (k₀ : Kept) (f₀ left : List ℕ) (k : Kept) (f : List ℕ) (used : ℕ) (going : Bool) (n : ℕ) : Type 0 where
  pub input : List ℕ
  pub items : List (List ℕ)
  pub cut : CutSoFar input items left going
  pub taken : TakesEach k₀ f₀ items k f used
  pub counted : going ≡ true → length items ≡ n
  pub in_order : InOrder k f used

-- The whole intake: it ends with the input, or else with the last item that has a number.
pub record TakenAll (k₀ : Kept) (f₀ : List ℕ) (k : Kept) (f : List ℕ) (used : ℕ) : Type 0 where
  pub left : List ℕ
  pub going : Bool
  pub turns : ℕ
  pub so_far : TakenIn k₀ f₀ left k f used going turns
  pub ends : going ≡ true → turns ≡ 18446744073709551615

-- The intake that an error ended: the items of what was read so far were taken one by one, up to some turn.
pub record TakenSoFar (k₀ : Kept) (f₀ : List ℕ) (l : Kept) (f : List ℕ) : Type 0 where
  pub left : List ℕ
  pub going : Bool
  pub turns : ℕ
  pub so_far : Untold (λ used. TakenIn k₀ f₀ left l f used going turns)

-- The window over standard input: its places, and what stands in it after more is read.
-- Assumes nothing.
use Rattle.std.specs.Prelude.{ℕ, ◌-◌, ◌≤◌, ◌<◌, ◌≡◌, List, length, take, drop}
use Rattle.std.proofs.Math.Seq.{paste}
use Rattle.item.specs.Offsets.{largest_item}

-- A stretch of the window, from `at` to `held`.
pub record Within (window : List ℕ) (at held : ℕ) : Type 0 where
  pub ordered : at ≤ held
  pub inside : held ≤ length window

-- The bytes of a stretch.
abbrev pub stretch : List ℕ → ℕ → ℕ → List ℕ
stretch window at held = take (held - at) (drop at window)

-- The window with the bytes of a stretch at its front, and all behind them as it was.
abbrev pub moved : List ℕ → ℕ → ℕ → List ℕ
moved window at held = paste window 0 (drop at window) (held - at)

-- Bytes are read behind the first `kept`: these stay, the window is as long as before, and the first `held` bytes are there. Which bytes
-- were read no contract can say.
pub record Filled (window : List ℕ) (kept : ℕ) (window' : List ℕ) (held : ℕ) : Type 0 where
  pub more : kept ≤ held
  pub inside : held ≤ length window'
  pub size : length window' ≡ length window
  pub front : take kept window' ≡ take kept window

-- A read failed: the first `kept` bytes stay, and the window is as long as before. Which bytes stand behind them no contract can say.
pub record Unfilled (window : List ℕ) (kept : ℕ) (window' : List ℕ) : Type 0 where
  pub size : length window' ≡ length window
  pub front : take kept window' ≡ take kept window

-- How the window stands after it is refilled, and the stretch of it that is not judged yet.
pub data Stands (window : List ℕ) (at held : ℕ) (window' : List ℕ) (at' held' : ℕ) : Type 0 where
  -- A whole item is there already: nothing changes.
  enough : largest_item ≤ held - at → window' ≡ window → at' ≡ at → held' ≡ held → Stands window at held window' at' held'
  -- The stretch is moved to the front, and more is read behind it.
  read_on : held - at < largest_item → at' ≡ 0 → Filled (moved window at held) (held - at) window' held' → Stands window at held window' at' held'

-- What is promised of a window that is refilled.
pub record Refilled (window : List ℕ) (at held : ℕ) (window' : List ℕ) (at' held' : ℕ) : Type 0 where
  pub within : Within window' at' held'
  pub size : length window' ≡ length window
  pub stands : Stands window at held window' at' held'

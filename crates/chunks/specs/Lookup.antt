-- Looking for a piece among the first of a byte list.
-- Assumes nothing.
use Rattle.std.specs.Prelude.{ℕ, zero, suc, ◌≤◌, ◌<◌, ◌≡◌, List, ◌≢◌, eqb, Option, Some, None}
use Rattle.basics.specs.Pick.{pick}
use Rattle.chunks.specs.Bytes.{same_bytes}
use Rattle.chunks.specs.Piece.{piece_at}

-- The number of the first of the first `n` pieces of `s` that is `x`; 0 where none is.
unfoldable pub place_of : List ℕ → ℕ → List ℕ → ℕ
place_of s zero x = 0
place_of s (suc n) x = pick (eqb (place_of s n x) 0) (pick (same_bytes (piece_at s (suc n)) x) (suc n) 0) (place_of s n x)

-- The answer for a number: 0 is nothing found.
abbrev pub found_of : ℕ → Option ℕ
found_of p = pick (eqb p 0) None (Some p)

-- The first `n` pieces of `s` are distinct.
abbrev pub Distinct : List ℕ → ℕ → Type 0
Distinct s n = (j : ℕ) → j ≤ n → (i : ℕ) → i < j → 1 ≤ i → piece_at s i ≢ piece_at s j

-- None of the first `n` pieces of `s` is `x`.
abbrev pub NoneIs : List ℕ → ℕ → List ℕ → Type 0
NoneIs s n x = (i : ℕ) → i ≤ n → 1 ≤ i → piece_at s i ≢ x

-- Piece `k` is the first of the first `n` pieces of `s` that is `x`.
pub record IsFirst (s : List ℕ) (n : ℕ) (x : List ℕ) (k : ℕ) : Type 0 where
  pub some : 1 ≤ k
  pub within : k ≤ n
  pub here : piece_at s k ≡ x
  pub earlier : (i : ℕ) → i < k → 1 ≤ i → piece_at s i ≢ x

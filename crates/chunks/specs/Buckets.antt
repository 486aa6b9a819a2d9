-- Pieces filed by bucket: the bucket of a piece, and the chains of a table that has for each piece the next one.
-- Assumes nothing.
use Rattle.std.specs.Prelude.{ℕ, zero, suc, ◌≤◌, ◌<◌, ◌≡◌, List, ◌≢◌, length, get_or, ltb}
use Rattle.std.specs.Int.Bits.{bit_xor}
use Rattle.basics.specs.Pick.{pick}
use Rattle.chunks.specs.Piece.{piece_at}
use Rattle.chunks.specs.Lookup.{Distinct, NoneIs}
use Rattle.chunks.specs.declared.buckets.Searched.{Searched}
use Rattle.chunks.specs.declared.buckets.Searched.TheVariants.{Absent, Present, TooLong}

-- The bucket of a piece: its two first and its two last bytes, mixed; 0 for what is shorter than a piece.
unfoldable pub bucket_of : List ℕ → ℕ
bucket_of p = pick (ltb (length p) 32) 0 (bit_xor (bit_xor (bit_xor (get_or p 0 0) (get_or p 1 0)) (get_or p 30 0)) (get_or p 31 0))

-- The next of each piece is an earlier one, so every chain ends.
abbrev pub Falls : List ℕ → Type 0
Falls next = (h : ℕ) → 1 ≤ h → get_or next h 0 < h

-- Piece `i` is on the chain from `h`: it is `h`, or on the chain from the next of `h`.
pub data On (next : List ℕ) (i : ℕ) : ℕ → Type 0 where
  here : (h : ℕ) → 1 ≤ h → h ≡ i → On next i h
  further : (h : ℕ) → 1 ≤ h → On next i (get_or next h 0) → On next i h

-- The first `k` pieces are filed, and no others: each is on the chain of its bucket.
pub record Filed (s heads next : List ℕ) (k : ℕ) : Type 0 where
  pub buckets : length heads ≡ 256
  pub places : length next ≡ 1025
  pub falls : Falls next
  pub low : (b : ℕ) → get_or heads b 0 ≤ k
  pub some : (i : ℕ) → i ≤ k → 1 ≤ i → bucket_of (piece_at s i) < 256
  pub filed : (i : ℕ) → i ≤ k → 1 ≤ i → On next i (get_or heads (bucket_of (piece_at s i)) 0)

-- The piece that `k` links lead to from `h`.
unfoldable pub linked : List ℕ → ℕ → ℕ → ℕ
linked next zero h = h
linked next (suc k) h = get_or next (linked next k h) 0

-- What the search of the chain from `h` for `x` says: no piece on the chain is `x`; one of the first `h` pieces is; or 256 links do not end the chain.
abbrev pub Searches : List ℕ → List ℕ → ℕ → List ℕ → Searched → Type 0
Searches s next h x Absent = (i : ℕ) → On next i h → piece_at s i ≢ x
Searches s next h x Present = NoneIs s h x → ⊥
Searches s next h x TooLong = linked next 256 h ≢ 0

-- 256 links do not end the chain from some piece.
pub record Long (next : List ℕ) : Type 0 where
  pub from : ℕ
  pub goes_on : linked next 256 from ≢ 0

-- What the search of the chain from `h` for a piece that is on it twice says: each piece on it differs from those further on;
-- the first `h` pieces are not distinct; or a chain is long.
abbrev pub SearchesTwice : List ℕ → List ℕ → ℕ → Searched → Type 0
SearchesTwice s next h Absent = (j : ℕ) → On next j h → (i : ℕ) → On next i (get_or next j 0) → piece_at s i ≢ piece_at s j
SearchesTwice s next h Present = Distinct s h → ⊥
SearchesTwice s next h TooLong = Long next

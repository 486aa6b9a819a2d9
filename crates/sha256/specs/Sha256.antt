-- SHA-256 of FIPS 180-4, section by section, in the standard's names and order.
-- A byte is a number below 2 ^ 8, a word a number below 2 ^ 32, a message a list of bytes. Where the standard writes an
-- index below a letter, the place in a list is asked by `slice_index list place`; its first place is 0, as in the standard.
-- Assumes nothing.
use Rattle.std.specs.Prelude.{ℕ, zero, suc, ◌+◌, ◌-◌, ◌*◌, ◌/◌, ◌%◌, ◌^◌, List, [], ◌∷◌, ◌++◌, length, replicate, bit_and, bit_or, bit_xor, slice_index, slice_index_or}

infixl 50 ◌<<◌
infixl 50 ◌>>◌
infixl 45 ◌⋀◌
infixl 40 ◌⊕◌
infixl 35 ◌⋁◌
infixl 55 ◌⊞◌
-- ---- 2.2.2 Symbols and operations, on words (w is 32)

-- ∧: bitwise AND.
abbrev pub ◌⋀◌ : ℕ → ℕ → ℕ
x ⋀ y = bit_and x y

-- ∨: bitwise OR ("inclusive-OR").
abbrev pub ◌⋁◌ : ℕ → ℕ → ℕ
x ⋁ y = bit_or x y

-- ⊕: bitwise XOR ("exclusive-OR").
abbrev pub ◌⊕◌ : ℕ → ℕ → ℕ
x ⊕ y = bit_xor x y

-- ¬: bitwise complement.
abbrev pub complement : ℕ → ℕ
complement x = 2 ^ 32 - 1 - x

-- +: addition modulo 2 ^ w.
abbrev pub ◌⊞◌ : ℕ → ℕ → ℕ
x ⊞ y = (x + y) % 2 ^ 32

-- <<: left shift. The left-most n bits are dropped, and the result is padded with n zeros on the right.
abbrev pub ◌<<◌ : ℕ → ℕ → ℕ
x << n = x * 2 ^ n % 2 ^ 32

-- >>: right shift. The right-most n bits are dropped, and the result is padded with n zeros on the left.
abbrev pub ◌>>◌ : ℕ → ℕ → ℕ
x >> n = x / 2 ^ n

-- ---- 3.2 Operations on words

-- 3.2, 3: the right shift operation.
abbrev pub SHR : ℕ → ℕ → ℕ
SHR n x = x >> n

-- 3.2, 4: the rotate right (circular right shift) operation.
abbrev pub ROTR : ℕ → ℕ → ℕ
ROTR n x = (x >> n) ⋁ (x << (32 - n))

-- ---- 4.1.2 SHA-256 functions

-- (4.2)
abbrev pub Ch : ℕ → ℕ → ℕ → ℕ
Ch x y z = (x ⋀ y) ⊕ (complement x ⋀ z)

-- (4.3)
abbrev pub Maj : ℕ → ℕ → ℕ → ℕ
Maj x y z = (x ⋀ y) ⊕ (x ⋀ z) ⊕ (y ⋀ z)

-- (4.4)
abbrev pub Σ₀ : ℕ → ℕ
Σ₀ x = ROTR 2 x ⊕ ROTR 13 x ⊕ ROTR 22 x

-- (4.5)
abbrev pub Σ₁ : ℕ → ℕ
Σ₁ x = ROTR 6 x ⊕ ROTR 11 x ⊕ ROTR 25 x

-- (4.6)
abbrev pub σ₀ : ℕ → ℕ
σ₀ x = ROTR 7 x ⊕ ROTR 18 x ⊕ SHR 3 x

-- (4.7)
abbrev pub σ₁ : ℕ → ℕ
σ₁ x = ROTR 17 x ⊕ ROTR 19 x ⊕ SHR 10 x

-- ---- 4.2.2 SHA-256 constants

-- K₀ to K₆₃: the first thirty-two bits of the fractional parts of the cube roots of the first sixty-four prime numbers.
unfoldable pub K : List ℕ
K =
    0x428a2f98 ∷ 0x71374491 ∷ 0xb5c0fbcf ∷ 0xe9b5dba5 ∷ 0x3956c25b ∷ 0x59f111f1 ∷ 0x923f82a4 ∷ 0xab1c5ed5 ∷
    0xd807aa98 ∷ 0x12835b01 ∷ 0x243185be ∷ 0x550c7dc3 ∷ 0x72be5d74 ∷ 0x80deb1fe ∷ 0x9bdc06a7 ∷ 0xc19bf174 ∷
    0xe49b69c1 ∷ 0xefbe4786 ∷ 0x0fc19dc6 ∷ 0x240ca1cc ∷ 0x2de92c6f ∷ 0x4a7484aa ∷ 0x5cb0a9dc ∷ 0x76f988da ∷
    0x983e5152 ∷ 0xa831c66d ∷ 0xb00327c8 ∷ 0xbf597fc7 ∷ 0xc6e00bf3 ∷ 0xd5a79147 ∷ 0x06ca6351 ∷ 0x14292967 ∷
    0x27b70a85 ∷ 0x2e1b2138 ∷ 0x4d2c6dfc ∷ 0x53380d13 ∷ 0x650a7354 ∷ 0x766a0abb ∷ 0x81c2c92e ∷ 0x92722c85 ∷
    0xa2bfe8a1 ∷ 0xa81a664b ∷ 0xc24b8b70 ∷ 0xc76c51a3 ∷ 0xd192e819 ∷ 0xd6990624 ∷ 0xf40e3585 ∷ 0x106aa070 ∷
    0x19a4c116 ∷ 0x1e376c08 ∷ 0x2748774c ∷ 0x34b0bcb5 ∷ 0x391c0cb3 ∷ 0x4ed8aa4a ∷ 0x5b9cca4f ∷ 0x682e6ff3 ∷
    0x748f82ee ∷ 0x78a5636f ∷ 0x84c87814 ∷ 0x8cc70208 ∷ 0x90befffa ∷ 0xa4506ceb ∷ 0xbef9a3f7 ∷ 0xc67178f2 ∷ []

-- ---- 5.1.1 Padding the message

-- The zero bytes after the byte 128: with the seven zero bits of that byte they are the k zero bits, where k is the
-- smallest non-negative solution of ℓ + 1 + k ≡ 448 mod 512, for a message of ℓ bits; n is its length in bytes.
abbrev pub zero_bytes : ℕ → ℕ
zero_bytes n = (119 - n % 64) % 64

-- The n low bytes of x, the highest first (3.1: "big-endian" convention).
unfoldable pub bytes_of : ℕ → ℕ → List ℕ
bytes_of zero x = []
bytes_of (suc n) x = x / 2 ^ (8 * n) % 256 ∷ bytes_of n x

-- The message, the bit 1 and the k zero bits, and the 64-bit block that is the number ℓ in binary. The standard's
-- messages have fewer than 2 ^ 64 bits; for a longer one, which no memory holds, ℓ is taken modulo 2 ^ 64.
unfoldable pub padded : List ℕ → List ℕ
padded m = m ++ 128 ∷ (replicate (zero_bytes (length m)) 0 ++ bytes_of 8 (length m * 8 % 2 ^ 64))

-- ---- 5.2.1 Parsing the message

-- The word whose four bytes stand from place `at` on, the highest first.
abbrev pub word_at : List ℕ → ℕ → ℕ
word_at s at = ((slice_index s at * 256 + slice_index s (at + 1)) * 256 + slice_index s (at + 2)) * 256 + slice_index s (at + 3)

-- The t words from place `at` on.
unfoldable pub words_at : List ℕ → ℕ → ℕ → List ℕ
words_at s at zero = []
words_at s at (suc t) = words_at s at t ++ word_at s (at + 4 * t) ∷ []

-- M⁽ⁱ⁾: the i-th block of 512 bits as sixteen words. The first block is i = 0 here, and i = 1 in the standard.
abbrev pub M⁽ⁱ⁾ : List ℕ → ℕ → List ℕ
M⁽ⁱ⁾ s i = words_at s (64 * i) 16

-- ---- 5.3.3 Setting the initial hash value

-- H⁽⁰⁾: the first thirty-two bits of the fractional parts of the square roots of the first eight prime numbers.
unfoldable pub H⁽⁰⁾ : List ℕ
H⁽⁰⁾ =
    0x6a09e667 ∷ 0xbb67ae85 ∷ 0x3c6ef372 ∷ 0xa54ff53a ∷ 0x510e527f ∷ 0x9b05688c ∷ 0x1f83d9ab ∷ 0x5be0cd19 ∷ []

-- ---- 6.2 SHA-256: 6.2.1 preprocessing is sections 5.3.3, 5.1.1 and 5.2.1 above; what follows is 6.2.2, hash computation

-- Step 1, 16 ≤ t: Wₜ of the words before it, written for t = 16 + i.
abbrev pub next_w : List ℕ → ℕ → ℕ
next_w w i = σ₁ (slice_index w (14 + i)) ⊞ slice_index_or w (9 + i) 0 ⊞ σ₀ (slice_index w (1 + i)) ⊞ slice_index_or w i 0

-- Step 1: the first 16 + i words of the message schedule of a block; the block itself, then one more at a time.
unfoldable pub W : List ℕ → ℕ → List ℕ
W block zero = block
W block (suc i) = W block i ++ next_w (W block i) i ∷ []

-- Step 3: T₁ of the working variables a to h, the places 0 to 7 of `v`, of Kₜ and of Wₜ.
abbrev pub T₁ : List ℕ → ℕ → ℕ → ℕ
T₁ v k w = slice_index_or v 7 0 ⊞ Σ₁ (slice_index v 4) ⊞ Ch (slice_index v 4) (slice_index v 5) (slice_index v 6) ⊞ k ⊞ w

-- Step 3: T₂ of the working variables.
abbrev pub T₂ : List ℕ → ℕ
T₂ v = Σ₀ (slice_index v 0) ⊞ Maj (slice_index v 0) (slice_index v 1) (slice_index v 2)

-- Step 3: the new a, b, c, d, e, f, g and h after one t.
unfoldable pub round_of : List ℕ → ℕ → ℕ → List ℕ
round_of v k w =
    (T₁ v k w ⊞ T₂ v) ∷ slice_index v 0 ∷ slice_index v 1 ∷ slice_index v 2
    ∷ (slice_index_or v 3 0 ⊞ T₁ v k w) ∷ slice_index v 4 ∷ slice_index v 5 ∷ slice_index v 6 ∷ []

-- Step 3: the working variables after the first t turns, from `v` on, by the schedule `w`.
unfoldable pub rounds : List ℕ → List ℕ → ℕ → List ℕ
rounds w v zero = v
rounds w v (suc t) = round_of (rounds w v t) (slice_index K t) (slice_index w t)

-- Step 4: the i-th intermediate hash value, of the one before it and of the working variables.
unfoldable pub sums : List ℕ → List ℕ → List ℕ
sums h v =
    (slice_index_or v 0 0 ⊞ slice_index_or h 0 0) ∷ (slice_index_or v 1 0 ⊞ slice_index_or h 1 0) ∷ (slice_index_or v 2 0 ⊞ slice_index_or h 2 0) ∷ (slice_index_or v 3 0 ⊞ slice_index_or h 3 0)
    ∷ (slice_index_or v 4 0 ⊞ slice_index_or h 4 0) ∷ (slice_index_or v 5 0 ⊞ slice_index_or h 5 0) ∷ (slice_index_or v 6 0 ⊞ slice_index_or h 6 0) ∷ (slice_index_or v 7 0 ⊞ slice_index_or h 7 0) ∷ []

-- Steps 1 to 4 on one block. Step 2: the working variables begin as the hash value before.
unfoldable pub next_hash : List ℕ → List ℕ → List ℕ
next_hash h block = sums h (rounds (W block 48) h 64)

-- H⁽ⁱ⁾: the hash value after the first i blocks of the padded message s.
unfoldable pub H⁽ⁱ⁾ : List ℕ → ℕ → List ℕ
H⁽ⁱ⁾ s zero = H⁽⁰⁾
H⁽ⁱ⁾ s (suc i) = next_hash (H⁽ⁱ⁾ s i) (M⁽ⁱ⁾ s i)

-- The words' bytes, one word after the other: H₀ ∥ H₁ ∥ .. ∥ H₇ of the last hash value.
unfoldable pub joined : List ℕ → List ℕ
joined [] = []
joined (x ∷ xs) = bytes_of 4 x ++ joined xs

-- The 256-bit message digest of the message m, as 32 bytes: H⁽ᴺ⁾ joined, N being the number of blocks.
unfoldable pub sha256_of : List ℕ → List ℕ
sha256_of m = joined (H⁽ⁱ⁾ (padded m) (length (padded m) / 64))

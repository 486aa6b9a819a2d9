-- The bytes of a word, of a digest and of the padded message, place by place.
-- Assumes nothing.
use Rattle.std.proofs.Common.{◌≡◌, ℕ, zero, suc, ◌+◌, ◌-◌, ◌*◌, ◌/◌, ◌%◌, ◌^◌, ◌<◌, ◌≤◌, List, [], ◌∷◌, ◌++◌, length, get_or, replicate, refl, ap, ◌∙◌, le_of_suc-le-suc, arith, length-append, get_or-append-add}
use lib.ListN.{length-replicate, get_or-replicate, get_or-append, get_or-eq_default}
use lib.Seq.{get_or-append_seam}
use Rattle.sha256.specs.Sha256.{zero_bytes, bytes_of, padded, joined}

-- The n low bytes are n.
pub length_bytes_of : (n x : ℕ) → length (bytes_of n x) ≡ n
unfolding bytes_of
length_bytes_of zero x = refl
length_bytes_of (suc n) x = ap suc (length_bytes_of n x)

-- Place j of n bytes, the highest first.
pub bytes_of_at : (n x j : ℕ) → j < n → get_or (bytes_of n x) j 0 ≡ x / 2 ^ (8 * (n - 1 - j)) % 256
unfolding bytes_of
bytes_of_at zero x j h = elim h [ ]
bytes_of_at (suc n) x zero h =
    let p : suc n - 1 - 0 ≡ n = omega arith in
    rw p
bytes_of_at (suc n) x (suc j) h =
    let p : suc n - 1 - suc j ≡ n - 1 - j = omega arith in
    rw p (bytes_of_at n x j (le_of_suc-le-suc h))

-- The number of zero bytes is the one that the standard asks for: it fills up to 448 bits of
-- the last block.
pub zero_bytes_fill : (n : ℕ) → (n + 1 + zero_bytes n) % 64 ≡ 56
zero_bytes_fill n = omega arith

-- And it is the smallest that does.
pub zero_bytes_least : (n k : ℕ) → (n + 1 + k) % 64 ≡ 56 → zero_bytes n ≤ k
zero_bytes_least n k h = omega arith

-- A padded message is whole blocks.
pub length_padded : (m : List ℕ) → length (padded m) ≡ ((length m + 8) / 64 + 1) * 64
unfolding padded
length_padded m = simp (length-append, length-replicate, length_bytes_of) (omega arith)

-- The number of its blocks.
pub blocks_padded : (m : List ℕ) → length (padded m) / 64 ≡ (length m + 8) / 64 + 1
blocks_padded m = rw length_padded (omega arith)

-- The padded message begins with the message.
pub padded_front : (m : List ℕ) (i : ℕ) → i < length m → get_or (padded m) i 0 ≡ get_or m i 0
unfolding padded
padded_front m i h = get_or-append m _ 0 i h

-- Then comes the byte 128.
pub padded_one : (m : List ℕ) (i : ℕ) → i ≡ length m → get_or (padded m) i 0 ≡ 128
unfolding padded
padded_one m i e = rw (e, get_or-append_seam)

-- Behind the byte 128: what stands there, from its own place k on.
behind : (m t : List ℕ) (i k : ℕ) → i ≡ length m + suc k → get_or (m ++ 128 ∷ t) i 0 ≡ get_or t k 0
behind m t i k e = rw e (get_or-append-add m (128 ∷ t) (suc k) 0)

-- The z zeros stand there first.
among_zeros : (m t : List ℕ) (z i j : ℕ) → i ≡ length m + suc j → j < z → get_or (m ++ 128 ∷ (replicate z 0 ++ t)) i 0 ≡ 0
among_zeros m t z i j e h =
    let k : j < length (replicate {A = ℕ} z 0) = rw length-replicate h in
    behind m (replicate z 0 ++ t) i j e ∙ get_or-append (replicate z 0) t 0 j k ∙ get_or-replicate z j 0 0 h

-- And then the rest.
behind_zeros : (m t : List ℕ) (z i j : ℕ) → i ≡ length m + suc (z + j) → get_or (m ++ 128 ∷ (replicate z 0 ++ t)) i 0 ≡ get_or t j 0
behind_zeros m t z i j e =
    let p : z + j ≡ length (replicate {A = ℕ} z 0) + j = rw length-replicate refl in
    behind m (replicate z 0 ++ t) i (z + j) e ∙ ap (λ (n : ℕ). get_or (replicate z 0 ++ t) n 0) p ∙ get_or-append-add (replicate z 0) t j 0

-- Then come the zeros, up to the place of the length.
pub padded_zeros : (m : List ℕ) (i : ℕ) → length m < i → i < (length m + 8) / 64 * 64 + 56 → get_or (padded m) i 0 ≡ 0
unfolding padded
padded_zeros m i h k = among_zeros m _ (zero_bytes (length m)) i (i - length m - 1) (omega arith) (omega arith)

-- Then the length in bits, in eight bytes.
pub padded_length : (m : List ℕ) (i j : ℕ) → i ≡ (length m + 8) / 64 * 64 + 56 + j → j < 8
    → get_or (padded m) i 0 ≡ length m * 8 % 2 ^ 64 / 2 ^ (8 * (7 - j)) % 256
unfolding padded
padded_length m i j e h =
    behind_zeros m (bytes_of 8 (length m * 8 % 2 ^ 64)) (zero_bytes (length m)) i j (omega arith) ∙ bytes_of_at 8 (length m * 8 % 2 ^ 64) j h

-- Then nothing.
pub padded_past : (m : List ℕ) (i : ℕ) → ((length m + 8) / 64 + 1) * 64 ≤ i → get_or (padded m) i 0 ≡ 0
padded_past m i h = get_or-eq_default (padded m) 0 (rw length_padded h)

-- The words' bytes are four a word.
pub length_joined : (h : List ℕ) → length (joined h) ≡ length h * 4
unfolding joined
length_joined [] = refl
length_joined (x ∷ h) = simp (length-append, length_bytes_of, length_joined h) (omega arith)

-- Place i of the words' bytes is byte i % 4 of word i / 4: in the first word.
joined_first : (x i : ℕ) (h : List ℕ) → i < 4 → get_or (joined (x ∷ h)) i 0 ≡ get_or (x ∷ h) (i / 4) 0 / 2 ^ (8 * (3 - i % 4)) % 256
unfolding joined
joined_first x i h k =
    let p : i / 4 ≡ 0 = omega arith in
    let q : i % 4 ≡ i = omega arith in
    let j : i < length (bytes_of 4 x) = rw length_bytes_of k in
    rw (p, q) (get_or-append (bytes_of 4 x) (joined h) 0 i j ∙ bytes_of_at 4 x i k)

-- The same behind the first word.
joined_later : (x i : ℕ) (h : List ℕ) → get_or (joined h) i 0 ≡ get_or h (i / 4) 0 / 2 ^ (8 * (3 - i % 4)) % 256
    → get_or (joined (x ∷ h)) (suc (suc (suc (suc i)))) 0
    ≡ get_or (x ∷ h) (suc (suc (suc (suc i))) / 4) 0 / 2 ^ (8 * (3 - suc (suc (suc (suc i))) % 4)) % 256
unfolding joined
joined_later x i h e =
    let p : suc (suc (suc (suc i))) / 4 ≡ suc (i / 4) = omega arith in
    let q : suc (suc (suc (suc i))) % 4 ≡ i % 4 = omega arith in
    let l : suc (suc (suc (suc i))) ≡ length (bytes_of 4 x) + i = rw length_bytes_of (omega arith) in
    rw (p, q) (ap (λ (n : ℕ). get_or (bytes_of 4 x ++ joined h) n 0) l ∙ get_or-append-add (bytes_of 4 x) (joined h) i 0 ∙ e)

-- The same anywhere.
pub joined_at_lem : (h : List ℕ) (i : ℕ) → i < length h * 4 → get_or (joined h) i 0 ≡ get_or h (i / 4) 0 / 2 ^ (8 * (3 - i % 4)) % 256
joined_at_lem [] i k = absurd (omega (arith, k))
joined_at_lem (x ∷ h) zero k = joined_first x 0 h (omega arith)
joined_at_lem (x ∷ h) (suc zero) k = joined_first x 1 h (omega arith)
joined_at_lem (x ∷ h) (suc (suc zero)) k = joined_first x 2 h (omega arith)
joined_at_lem (x ∷ h) (suc (suc (suc zero))) k = joined_first x 3 h (omega arith)
joined_at_lem (x ∷ h) (suc (suc (suc (suc i)))) k = joined_later x i h (joined_at_lem h i (omega (arith, k)))

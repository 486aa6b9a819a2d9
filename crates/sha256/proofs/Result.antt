-- What callers want of a digest: it is 32 bytes.
-- Assumes nothing.
use Rattle.std.proofs.Common.{◌≡◌, ℕ, zero, suc, ◌*◌, ◌/◌, ◌<◌, List, length, get_or, refl, ap, ◌∙◌, arith}
use lib.ListN.{get_or-eq_default}
use Rattle.basics.proofs.Tests.{by_ltb}
use Rattle.sha256.specs.Sha256.{padded, H⁽⁰⁾, sums, next_hash, H⁽ⁱ⁾, joined, sha256_of}
use Rattle.sha256.proofs.Bytes.{length_joined, joined_at_lem}

-- A hash value is eight words.
length_hash : (s : List ℕ) (n : ℕ) → length (H⁽ⁱ⁾ s n) ≡ 8
unfolding H⁽⁰⁾ sums next_hash H⁽ⁱ⁾
length_hash s zero = refl
length_hash s (suc n) = refl

-- A digest is 32 long.
pub length_sha256_of : (m : List ℕ) → length (sha256_of m) ≡ 32
unfolding sha256_of
length_sha256_of m =
    length_joined (H⁽ⁱ⁾ (padded m) (length (padded m) / 64)) ∙ ap (λ (n : ℕ). n * 4) (length_hash (padded m) (length (padded m) / 64))

-- Words' bytes are bytes.
joined_small : (h : List ℕ) (i : ℕ) → get_or (joined h) i 0 < 256
joined_small h i =
    by_ltb
    (λ b. get_or (joined h) i 0 < 256)
    i
    (length h * 4)
    (λ k. omega (arith, joined_at_lem h i k))
    (λ k. omega (arith, get_or-eq_default (joined h) 0 {n = i} (rw length_joined k)))

-- Each of a digest's 32 is a byte.
pub sha256_of_small : (m : List ℕ) (i : ℕ) → get_or (sha256_of m) i 0 < 256
unfolding sha256_of
sha256_of_small m i = joined_small (H⁽ⁱ⁾ (padded m) (length (padded m) / 64)) i

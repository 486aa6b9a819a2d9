-- The definition against the standard's own example.
-- Assumes nothing.
use Rattle.std.proofs.Common.{◌≡◌, [], ◌∷◌, refl}
use Rattle.sha256.specs.Sha256.{K, bytes_of, padded, words_at, H⁽⁰⁾, W, round_of, rounds, sums, next_hash, H⁽ⁱ⁾, joined, sha256_of}

-- The digest of "abc" is the published one.
pub digest_of_abc : sha256_of (97 ∷ 98 ∷ 99 ∷ []) ≡
    0xba ∷ 0x78 ∷ 0x16 ∷ 0xbf ∷ 0x8f ∷ 0x01 ∷ 0xcf ∷ 0xea ∷ 0x41 ∷ 0x41 ∷ 0x40 ∷ 0xde ∷ 0x5d ∷ 0xae ∷ 0x22 ∷ 0x23
    ∷ 0xb0 ∷ 0x03 ∷ 0x61 ∷ 0xa3 ∷ 0x96 ∷ 0x17 ∷ 0x7a ∷ 0x9c ∷ 0xb4 ∷ 0x10 ∷ 0xff ∷ 0x61 ∷ 0xf2 ∷ 0x00 ∷ 0x15 ∷ 0xad ∷ []
unfolding K bytes_of padded words_at H⁽⁰⁾ W round_of rounds sums next_hash H⁽ⁱ⁾ joined sha256_of
digest_of_abc = refl

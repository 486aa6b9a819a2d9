-- The bytes of a number say it, and the bytes that say a number are its bytes.
-- Assumes nothing.
use Prim.Native.Nat.{ℕ, ◌+◌, ◌*◌, ◌/◌, ◌%◌, ◌<◌}
use native.Mathlib.Omega.{arith}
use mathlib.Core.Path.{◌≡◌, ap, ◌∙◌}
use mathlib.Core.Bool.{Bool}
use mathlib.Core.List.{List, [], ◌∷◌, ◌++◌}
use lib.Arith.{digits_div, digits_mod}
use lib.ListN.{length, drop, get_or, get_or-eq_default}
use Rattle.basics.specs.Bytes.{Bytes}
use Rattle.basics.proofs.Tests.{by_ltb}
use Rattle.item.specs.Little.{le16, le32}
use Rattle.item.proofs.Numbers.{get_d_there}
use Rattle.writing.specs.Bytes.{bytes16, bytes32}

-- Two bytes of a number below 2 to the 16th say it.
pub said_16 : (n : ℕ) → n < 65536 → le16 (bytes16 n) 0 ≡ n
unfolding le16 bytes16
said_16 n h = omega arith

-- Four bytes of a number below 2 to the 32nd say it.
pub said_32 : (n : ℕ) → n < 4294967296 → le32 (bytes32 n) 0 ≡ n
unfolding le32 le16 bytes32 bytes16
said_32 n h = omega arith

-- The low byte of what two bytes say, and the rest.
low_byte : (a b : ℕ) → a < 256 → (a + 256 * b) % 256 ≡ a
low_byte a b h = let e : a + 256 * b ≡ b * 256 + a = omega arith in ap (λ (n : ℕ). n % 256) e ∙ digits_mod b h

rest_bytes : (a b : ℕ) → a < 256 → (a + 256 * b) / 256 ≡ b
rest_bytes a b h = let e : a + 256 * b ≡ b * 256 + a = omega arith in ap (λ (n : ℕ). n / 256) e ∙ digits_div b h

-- The two bytes of what two bytes say, whatever is left out above them.
two_bytes : (a b c : ℕ) → a < 256 → b < 256 → bytes16 (a + 256 * (b + 256 * c)) ≡ a ∷ b ∷ []
unfolding bytes16
two_bytes a b c h k = rw (low_byte a (b + 256 * c) h, rest_bytes a (b + 256 * c) h, low_byte b c k)

-- The four bytes of what four bytes say.
four_bytes : (a b c d : ℕ) → a < 256 → b < 256 → c < 256 → d < 256
    → bytes32 (a + 256 * b + 65536 * (c + 256 * d)) ≡ a ∷ b ∷ c ∷ d ∷ []
unfolding bytes32
four_bytes a b c d h k m n =
    let e : a + 256 * b + 65536 * (c + 256 * d) ≡ a + 256 * (b + 256 * (c + 256 * d)) = omega arith in
    let f : (a + 256 * b + 65536 * (c + 256 * d)) / 65536 ≡ c + 256 * (d + 256 * 0) = omega arith in
    rw (f, e, two_bytes a b (c + 256 * d) h k, two_bytes c d 0 m n)

-- Two bytes are those of the number that they say.
pub again_16 : (s : List ℕ) → length s ≡ 2 → Bytes s → bytes16 (le16 s 0) ≡ s
unfolding le16
again_16 [] e h = absurd (omega (arith, e))
again_16 (a ∷ []) e h = absurd (omega (arith, e))
again_16 (a ∷ b ∷ []) e h = let f : a + 256 * b ≡ a + 256 * (b + 256 * 0) = omega arith in rw f (two_bytes a b 0 (h 0) (h 1))
again_16 (a ∷ b ∷ c ∷ s) e h = absurd (omega (arith, e))

-- Four bytes are those of the number that they say.
pub again_32 : (s : List ℕ) → length s ≡ 4 → Bytes s → bytes32 (le32 s 0) ≡ s
unfolding le32 le16
again_32 [] e h = absurd (omega (arith, e))
again_32 (a ∷ []) e h = absurd (omega (arith, e))
again_32 (a ∷ b ∷ []) e h = absurd (omega (arith, e))
again_32 (a ∷ b ∷ c ∷ []) e h = absurd (omega (arith, e))
again_32 (a ∷ b ∷ c ∷ d ∷ []) e h = four_bytes a b c d (h 0) (h 1) (h 2) (h 3)
again_32 (a ∷ b ∷ c ∷ d ∷ x ∷ s) e h = absurd (omega (arith, e))

-- A part of bytes is bytes.
pub part_bytes : (a : ℕ) (s p q : List ℕ) → drop a s ≡ p ++ q → Bytes s → Bytes p
part_bytes a s p q e h k =
    by_ltb (λ (b : Bool). get_or p k 0 < 256) k (length p)
    (λ i. let g = get_d_there a s p q e k i in rw (← g) (h (a + k)))
    (λ i. rw (get_or-eq_default p 0 i) (omega arith))

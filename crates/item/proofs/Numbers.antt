-- Laws of the little-endian numbers: their bounds, and what they say of a part.
-- Assumes nothing.
use Prim.Native.Nat.{ℕ, ◌+◌, ◌≤◌, ◌<◌}
use native.Mathlib.Nat.{add_assoc}
use native.Mathlib.Omega.{arith}
use mathlib.Core.Path.{◌≡◌, sym, ap, ◌∙◌}
use mathlib.Core.List.{List, ◌++◌}
use lib.ListN.{length, get_or, drop, get_or-append}
use lib.Seq.{get_or-drop}
use Rattle.basics.specs.Bytes.{Bytes}
use Rattle.item.specs.Little.{le16, le32}

-- Two bytes say a number below 2 to the 16th.
pub le16_bound : (s : List ℕ) (i : ℕ) → Bytes s → le16 s i < 65536
unfolding le16
le16_bound s i b = omega (arith, b i, b (i + 1))

-- Four bytes say a number below 2 to the 32nd.
pub le32_bound : (s : List ℕ) (i : ℕ) → Bytes s → le32 s i < 4294967296
unfolding le32
le32_bound s i b = omega (arith, le16_bound s i b, le16_bound s (i + 2) b)

module _ (a : ℕ) (s p q : List ℕ) (e : drop a s ≡ p ++ q) where
  -- What stands in a list where a part of it stands.
  pub get_d_there : (k : ℕ) → k < length p → get_or s (a + k) 0 ≡ get_or p k 0
  get_d_there k h = sym (get_or-drop a s k 0) ∙ ap (λ (l : List ℕ). get_or l k 0) e ∙ get_or-append p q 0 k h

  -- The two bytes of a list where a part of it has them.
  pub le16_there : (k : ℕ) → k + 2 ≤ length p → le16 s (a + k) ≡ le16 p k
  unfolding le16
  le16_there k h = rw (add_assoc, get_d_there k (omega arith), get_d_there (k + 1) (omega arith))

  -- The four bytes of a list where a part of it has them.
  pub le32_there : (k : ℕ) → k + 4 ≤ length p → le32 s (a + k) ≡ le32 p k
  unfolding le32
  le32_there k h = rw (add_assoc, le16_there k (omega arith), le16_there (k + 2) (omega arith))

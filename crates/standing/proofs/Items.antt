-- The item that is put: its parts, and how long it is.
-- Assumes nothing.
use Prim.Native.Nat.{ℕ, ◌+◌, ◌*◌, ◌/◌, ◌≤◌}
use mathlib.Core.Path.{◌≡◌, sym, ap, ◌∙◌}
use mathlib.Core.List.{List, ◌++◌}
use native.Mathlib.Omega.{arith}
use lib.ListN.{length, length-append}
use Rattle.writing.specs.Bytes.{bytes16, bytes32}
use Rattle.writing.specs.Laying.{laid_at}
use Rattle.writing.proofs.Behind.{length_16, length_32, length_laid, laid_two, laid_three}
use Rattle.standing.specs.Sending.{Sent}
use Rattle.standing.specs.Bytes.{entries_bytes, following_bytes, item_bytes}
use Rattle.standing.specs.Selecting.{send_all, MaySend}
use Rattle.standing.proofs.Sends.{send_many, send_length, all_to_come}

-- How many bytes follow the length, and how many the item has.
pub following_length : (ws : List Sent) → length (following_bytes ws) ≡ 4 + length (entries_bytes ws)
unfolding following_bytes
following_length ws = simp (length-append, length_16) (omega arith)

pub item_length : (ws : List Sent) → length (item_bytes ws) ≡ 8 + length (entries_bytes ws)
unfolding item_bytes
item_length ws = rw (length-append, length_32) (omega (arith, following_length ws))

module _ (keys ids f : List ℕ) (may : MaySend keys ids f) where
  -- So long is the item of a frontier.
  pub standing_length : length (item_bytes (send_all keys ids f)) ≡ 8 + 130 * (length f / 5)
  standing_length =
      let a = item_length (send_all keys ids f) in
      let b = send_length keys ids f may (length f / 5) 0 (all_to_come keys ids f may) in
      omega (arith, a, b)

  -- Its parts, each behind the one before.
  pub standing_laid : (out u v w x : List ℕ) → 8 + 130 * (length f / 5) ≤ length out → u ≡ laid_at out 0 (bytes32 (4 + 130 * (length f / 5)))
      → v ≡ laid_at u 4 (bytes16 3) → w ≡ laid_at v 6 (bytes16 (length f / 5)) → x ≡ laid_at w 8 (entries_bytes (send_all keys ids f))
      → x ≡ laid_at out 0 (item_bytes (send_all keys ids f))
  unfolding item_bytes following_bytes
  standing_laid out u v w x h a b c d =
      laid_two out 0 (bytes32 (4 + 130 * n)) 4 (bytes16 3 ++ (bytes16 n ++ entries_bytes ws)) u x a
      (laid_three u 4 (bytes16 3) 6 (bytes16 n) 8 (entries_bytes ws) v w x b c d (omega (arith, length_16 3)) (omega (arith, length_16 n))
      (omega (arith, long)))
      (omega (arith, length_32 (4 + 130 * n))) (omega arith)
      ∙ ap (laid_at out 0) parts
    where
      n : ℕ
      n = length f / 5

      ws : List Sent
      ws = send_all keys ids f

      long : length u ≡ length out
      long = ap length a ∙ length_laid out 0 (bytes32 (4 + 130 * n)) (omega (arith, length_32 (4 + 130 * n)))

      size : 4 + 130 * n ≡ length (following_bytes ws)
      size = let b = send_length keys ids f may n 0 (all_to_come keys ids f may) in omega (arith, b, following_length ws)

      parts : bytes32 (4 + 130 * n) ++ (bytes16 3 ++ (bytes16 n ++ entries_bytes ws)) ≡ item_bytes ws
      parts =
          ap (λ x. bytes32 x ++ (bytes16 3 ++ (bytes16 n ++ entries_bytes ws))) size
          ∙ ap (λ x. bytes32 (length (following_bytes ws)) ++ (bytes16 3 ++ (bytes16 x ++ entries_bytes ws))) (sym (send_many keys ids f may n 0))

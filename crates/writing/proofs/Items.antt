-- The item that is written: its parts, and how long it is.
-- Assumes nothing.
use Prim.Native.Nat.{ℕ, ◌+◌}
use native.Mathlib.Omega.{arith}
use mathlib.Core.Path.{◌≡◌, sym, ap, ◌∙◌}
use mathlib.Core.List.{List, ◌++◌, append_assoc}
use lib.ListN.{length, length-append}
use Rattle.writing.specs.Bytes.{bytes32}
use Rattle.writing.specs.Message.{Message, following_bytes, item_bytes}
use Rattle.writing.specs.Laying.{laid_at, head_bytes, author_bytes, payload_bytes, end_bytes, MayLay}
use Rattle.writing.proofs.Behind.{length_16, length_32, length_laid, laid_two, laid_three}

module _ (m : Message) (k : length m.key ≡ 32) (p : length m.previous ≡ 32) (s : length m.signature ≡ 64) where
  -- How many bytes follow the length.
  pub following_length : length (following_bytes m) ≡ 141 + length m.payload + length m.dependencies
  unfolding following_bytes
  following_length =
      simp (length-append, length_16, length_32, k, p, s) (omega arith)

  -- How many bytes the item has.
  pub item_length : length (item_bytes m) ≡ 145 + length m.payload + length m.dependencies
  unfolding item_bytes
  item_length = rw (length-append, length_32) (omega (arith, following_length))

-- The four parts in which an item is laid are the item.
pub item_parts : (m : Message) (n : ℕ) → n ≡ length (following_bytes m)
    → head_bytes n m.mark ++ (author_bytes m.key m.previous m.index ++ (payload_bytes m.payload ++ end_bytes m.dependencies m.signature))
    ≡ item_bytes m
unfolding item_bytes following_bytes
item_parts m n e = rw e (simp append_assoc)

-- The parts laid one behind the other, each at its place, are the item laid at the start.
pub item_laid : (m : Message) (n : ℕ) (out u v w x : List ℕ) → MayLay m out → n ≡ 141 + length m.payload + length m.dependencies
    → u ≡ laid_at out 0 (head_bytes n m.mark) → v ≡ laid_at u 7 (author_bytes m.key m.previous m.index)
    → w ≡ laid_at v 75 (payload_bytes m.payload) → x ≡ laid_at w (79 + length m.payload) (end_bytes m.dependencies m.signature)
    → x ≡ laid_at out 0 (item_bytes m)
item_laid m n out u v w x may e f g h i =
    laid_two out 0 head 7 (author ++ (payload ++ end)) u x f
    (laid_three u 7 author 75 payload (79 + length m.payload) end v w x g h i author_long payload_long (omega (arith, long, may.room)))
    head_long (omega (arith, may.room))
    ∙ ap (laid_at out 0) (item_parts m n (e ∙ sym (following_length m may.key_32 may.previous_32 may.signature_64)))
  where
    head : List ℕ
    head = head_bytes n m.mark

    author : List ℕ
    author = author_bytes m.key m.previous m.index

    payload : List ℕ
    payload = payload_bytes m.payload

    end : List ℕ
    end = end_bytes m.dependencies m.signature

    head_long : 0 + length head ≡ 7
    head_long = simp (length-append, length_16, length_32)

    author_long : 7 + length author ≡ 75
    author_long = simp (length-append, length_32, may.key_32, may.previous_32)

    payload_long : 75 + length payload ≡ 79 + length m.payload
    payload_long = omega (arith, length-append (bytes32 (length m.payload)) m.payload, length_32 (length m.payload))

    long : length u ≡ length out
    long = ap length f ∙ length_laid out 0 head (omega (arith, head_long, may.room))

-- Writing what was read: the bytes are the same.
-- Assumes nothing.
use Rattle.std.specs.Prelude.{Ok}
use Prim.Native.Nat.{ℕ, ◌+◌, ◌/◌, ◌≤◌}
use native.Mathlib.Omega.{arith}
use mathlib.Core.Path.{◌≡◌, sym, ap, ◌∙◌}
use mathlib.Core.List.{List, [], ◌∷◌, ◌++◌}
use lib.ListN.{length, length-append}
use Rattle.basics.specs.Bytes.{Bytes}
use Rattle.item.specs.declared.Fields.{Fields}
use Rattle.item.specs.Layout.{layout_of}
use Rattle.item.specs.Laid.{IsItem}
use Rattle.item.specs.Little.{le16, le32}
use Rattle.item.proofs.Laid.{sound_item}
use Rattle.item.proofs.Places.{at_kind_lem, at_index_lem, at_size_lem, at_count_lem}
use Rattle.item.proofs.Exact.{item_payload, item_key, item_previous}
use Rattle.writing.specs.Bytes.{bytes16, bytes32}
use Rattle.writing.specs.Message.{Message, message_of, following_bytes, item_bytes}
use Rattle.writing.specs.Lines.{Layable}
use Rattle.writing.specs.Reading.{message_in}
use Rattle.writing.proofs.Numbers.{again_16, again_32, part_bytes}
use Rattle.writing.proofs.Reading.{item_dependencies, item_signature}

module _ {s : List ℕ} {f : Fields} (i : IsItem s f) where
  -- The message of the item's parts.
  abbrev parts : Message
  parts = message_of f.mark i.key i.previous f.index i.payload i.dependencies i.signature

  -- What was read are the item's parts.
  read_parts : message_in f s ≡ parts
  read_parts = rw (item_key i, item_previous i, item_payload i, item_dependencies i, item_signature i)

  -- They are within the limits.
  parts_layable : f.mark ≤ 1 → Layable parts
  parts_layable k =
      record {
        full =
            record {
              key_full = i.key_32;
              previous_full = i.previous_32;
              dependencies_full = omega (arith, i.dependencies_32_each);
              signature_full = i.signature_64;
            };
        payload_limit_lem = i.payload_limit_lem;
        count_limit_lem = omega (arith, i.dependencies_32_each, i.count_limit_lem);
        mark_0_or_1 = k;
      }

  -- What follows the length in the item.
  abbrev follows : List ℕ
  follows =
      i.kind
      ++ ((f.mark ∷ []) ++ (i.key ++ (i.previous ++ (i.index ++ (i.size ++ (i.payload ++ (i.count ++ (i.dependencies ++ i.signature))))))))

  module _ (b : Bytes s) where
    -- The parts laid again are what follows the length.
    parts_follow : following_bytes parts ≡ follows
    unfolding following_bytes
    parts_follow =
        let k : bytes16 1 ≡ i.kind = ap bytes16 (sym i.kind_says) ∙ again_16 i.kind i.kind_2 (part_bytes 4 s i.kind _ (at_kind_lem i) b) in
        let x : bytes32 f.index ≡ i.index =
        ap bytes32 (sym i.index_says) ∙ again_32 i.index i.index_4 (part_bytes 71 s i.index _ (at_index_lem i) b) in
        let z : bytes32 (length i.payload) ≡ i.size =
        ap bytes32 (sym i.size_says) ∙ again_32 i.size i.size_4 (part_bytes 75 s i.size _ (at_size_lem i) b) in
        let n : length i.dependencies / 32 ≡ le16 i.count 0 = omega (arith, i.dependencies_32_each, i.count_says) in
        let c : bytes16 (length i.dependencies / 32) ≡ i.count =
        ap bytes16 n ∙ again_16 i.count i.count_2 (part_bytes (79 + length i.payload) s i.count _ (at_count_lem i) b) in
        rw (k, x, z, c)

    -- The parts laid again are the item.
    parts_again : item_bytes parts ≡ s
    unfolding item_bytes
    parts_again =
        let n : length follows ≡ le32 i.len 0 = omega (arith, ap length i.laid ∙ length-append i.len follows, i.len_4, i.len_says) in
        rw parts_follow (ap (λ (l : List ℕ). l ++ follows)
        (ap bytes32 n ∙ again_32 i.len i.len_4 (part_bytes 0 s i.len _ i.laid b)) ∙ sym i.laid)

-- "writing what was read .. gives the same bytes"
pub written_again : (s : List ℕ) (f : Fields) → layout_of s ≡ Ok f → Bytes s → item_bytes (message_in f s) ≡ s
written_again s f e b = let i = sound_item s f e in ap item_bytes (read_parts i) ∙ parts_again i b

-- ".. where its mark is 0 or 1": then it may be written.
pub read_layable : (s : List ℕ) (f : Fields) → layout_of s ≡ Ok f → f.mark ≤ 1 → Layable (message_in f s)
read_layable s f e k = let i = sound_item s f e in rw (read_parts i) (parts_layable i k)

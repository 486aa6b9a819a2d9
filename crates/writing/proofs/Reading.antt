-- Reading what was written: the bytes are an item, and its parts are the fields of the message.
-- Assumes nothing.
use Prim.Native.Nat.{ℕ, ◌+◌, ◌*◌, ◌/◌, ◌<◌}
use native.Mathlib.Omega.{arith}
use mathlib.Core.Path.{◌≡◌, refl, sym, ap, ◌∙◌}
use mathlib.Core.List.{List, ◌++◌}
use lib.ListN.{length, take, drop, length-append}
use lib.Seq.{take_at, drop_at, drop-drop}
use Rattle.basics.specs.Chunk.{chunk_size}
use Rattle.item.specs.declared.Fields.{Fields}
use Rattle.item.specs.Offsets.{at_payload, at_dependencies}
use Rattle.item.specs.Laid.{IsItem}
use Rattle.item.proofs.Places.{item_sound, at_dependencies_lem}
use Rattle.item.proofs.Exact.{item_payload, item_key, item_previous, item_dependency}
use Rattle.writing.specs.Bytes.{bytes16, bytes32}
use Rattle.writing.specs.Message.{Message, following_bytes, item_bytes}
use Rattle.writing.specs.Lines.{Layable}
use Rattle.writing.specs.Reading.{dependencies_of, signature_of, ReadsBack}
use Rattle.writing.proofs.Behind.{length_16, length_32}
use Rattle.writing.proofs.Items.{following_length}
use Rattle.writing.proofs.Numbers.{said_16, said_32}

-- The numbers and places of the item that a message makes.
abbrev pub fields_of : Message → Fields
fields_of m =
    record {
      mark = m.mark;
      index = m.index;
      payload = at_payload;
      size = length m.payload;
      dependencies = at_dependencies + length m.payload;
      count = length m.dependencies / chunk_size;
    }

-- The bytes of a message that is written are an item.
pub written_item : (m : Message) → Layable m → m.index < 4294967296 → IsItem (item_bytes m) (fields_of m)
unfolding item_bytes following_bytes
written_item m l h =
    record {
      len = bytes32 (length (following_bytes m));
      kind = bytes16 1;
      key = m.key;
      previous = m.previous;
      index = bytes32 m.index;
      size = bytes32 (length m.payload);
      payload = m.payload;
      count = bytes16 (length m.dependencies / 32);
      dependencies = m.dependencies;
      signature = m.signature;
      laid = refl;
      len_4 = length_32 (length (following_bytes m));
      kind_2 = length_16 1;
      key_32 = l.full.key_full;
      previous_32 = l.full.previous_full;
      index_4 = length_32 m.index;
      size_4 = length_32 (length m.payload);
      count_2 = length_16 (length m.dependencies / 32);
      dependencies_32_each = omega (arith, l.full.dependencies_full);
      signature_64 = l.full.signature_full;
      len_says = long ∙ ap (λ (n : ℕ). 4 + n) (sym (said_32 (length (following_bytes m)) (omega (arith, follows, l.payload_limit_lem, l.count_limit_lem))));
      kind_says = said_16 1 (omega arith);
      index_says = said_32 m.index h;
      size_says = said_32 (length m.payload) (omega (arith, l.payload_limit_lem));
      count_says = said_16 (length m.dependencies / 32) (omega (arith, l.count_limit_lem));
      payload_limit_lem = l.payload_limit_lem;
      count_limit_lem = l.count_limit_lem;
      payload_size_lem = refl;
      payload_place = refl;
      dependencies_place = refl;
    }
  where
    follows : length (following_bytes m) ≡ 141 + length m.payload + length m.dependencies
    follows = following_length m l.full.key_full l.full.previous_full l.full.signature_full

    long : length (item_bytes m) ≡ 4 + length (following_bytes m)
    long =
        length-append (bytes32 (length (following_bytes m))) (following_bytes m)
        ∙ ap (λ (n : ℕ). n + length (following_bytes m)) (length_32 (length (following_bytes m)))

-- Behind the count stand the dependency ids, and behind them the signature.
module _ {s : List ℕ} {f : Fields} (i : IsItem s f) where
  -- What stands from the dependency ids on.
  from_dependencies : drop f.dependencies s ≡ i.dependencies ++ i.signature
  from_dependencies = ap (λ (n : ℕ). drop n s) i.dependencies_place ∙ at_dependencies_lem i

  -- The dependency ids of an item, one after the other.
  pub item_dependencies : dependencies_of f s ≡ i.dependencies
  item_dependencies = ap (take (32 * f.count)) from_dependencies ∙ take_at i.dependencies i.signature (32 * f.count) i.dependencies_32_each

  -- The signature of an item.
  pub item_signature : signature_of f s ≡ i.signature
  item_signature =
      sym (drop-drop (32 * f.count) f.dependencies s)
      ∙ ap (drop (32 * f.count)) from_dependencies
      ∙ drop_at i.dependencies i.signature (32 * f.count) i.dependencies_32_each

-- "Reading what was written gives the same fields".
pub reads_back : (m : Message) → Layable m → m.index < 4294967296 → ReadsBack m (item_bytes m)
unfolding written_item
reads_back m l h =
    let i = written_item m l h in
    record {
      fields = fields_of m;
      sound = item_sound (item_bytes m) (fields_of m) i;
      mark = refl;
      key = item_key i;
      previous = item_previous i;
      index = refl;
      payload = item_payload i;
      dependency_count = sym i.dependencies_32_each;
      dependency = λ n k. item_dependency i n k;
      dependencies = item_dependencies i;
      signature = item_signature i;
    }

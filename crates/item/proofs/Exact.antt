-- What an answer of `layout_of` says of the item: sound exactly when it is one, with one reading, all of whose parts lie inside it.
-- Assumes nothing.
use Rattle.std.specs.Prelude.{Ok, Err}
use Prim.Native.Nat.{ℕ, ◌+◌, ◌*◌, ◌≤◌, ◌<◌}
use native.Mathlib.Omega.{arith}
use mathlib.Core.Path.{◌≡◌, refl}
use mathlib.Core.Logic.{◌↔◌}
use mathlib.Core.List.{List, ◌++◌}
use lib.ListN.{length, drop, length-drop}
use lib.Seq.{take_at, drop-drop, drop-append-le, take-append-le}
use Rattle.basics.specs.Chunk.{chunk_at}
use Rattle.basics.proofs.Chunks.{length_chunk}
use Rattle.answers.specs.declared.Refusal.{Refusal}
use Rattle.item.specs.declared.Fields.{Fields}
use Rattle.basics.specs.Bytes.{Bytes}
use Rattle.item.specs.Layout.{layout_of, payload_in, payload_of, key_of, previous_of, dependency_of}
use Rattle.item.specs.Laid.{IsItem, Inside}
use Rattle.item.proofs.Numbers.{le32_bound}
use Rattle.item.proofs.Verdict.{sound_passed}
use Rattle.item.proofs.Laid.{sound_item}
use Rattle.item.proofs.Places.{item_sound, at_key_lem, at_previous_lem, at_payload_lem, at_dependencies_lem}

-- Sound exactly when the bytes are an item.
pub sound_exactly : (s : List ℕ) (f : Fields) → (layout_of s ≡ Ok f) ↔ IsItem s f
sound_exactly s f = (sound_item s f, item_sound s f)

-- What is refused is no item.
pub refused_never : (s : List ℕ) (r : Refusal) (f : Fields) → layout_of s ≡ Err r → IsItem s f → ⊥
refused_never s r f e i =
    let p = item_sound s f i in
    let z : ◌≡◌ {A = ℕ} 0 1 = cc in
    omega arith

-- The fields are determined by the bytes.
pub one_reading : (s : List ℕ) (f g : Fields) → IsItem s f → IsItem s g → f ≡ g
one_reading s f g i j =
    let p = item_sound s f i in
    let q = item_sound s g j in
    cc

module _ (s : List ℕ) (f : Fields) (e : layout_of s ≡ Ok f) where
  -- Each part that the fields name lies inside the item.
  pub inside : Inside s f
  inside =
      let p = sound_passed s f e in
      rw p.fields
      (record {
        smallest = omega arith;
        largest = omega arith;
        payload_in_lem = omega arith;
        dependencies_in = omega arith;
        size_limit = p.payload_limit_lem;
        count_limit_lem = p.count_limit_lem;
      })

  -- The mark of an item of bytes is a byte.
  pub mark_bound : Bytes s → f.mark < 256
  mark_bound b = rw (sound_passed s f e).fields (b 6)

  -- The index of an item of bytes has four bytes.
  pub index_bound : Bytes s → f.index < 4294967296
  index_bound b = rw (sound_passed s f e).fields (le32_bound s 71 b)

  -- The key of a sound item has 32 bytes.
  pub key_length : length (key_of s) ≡ 32
  key_length = length_chunk 7 s (omega (arith, inside.smallest))

  -- So has its previous id.
  pub previous_length : length (previous_of s) ≡ 32
  previous_length = length_chunk 39 s (omega (arith, inside.smallest))

  -- So has each dependency id.
  pub dependency_length : (n : ℕ) → n < f.count → length (dependency_of f n s) ≡ 32
  dependency_length n h = length_chunk (f.dependencies + 32 * n) s (omega (arith, inside.dependencies_in))

-- The parts handed out are those that are laid in the item.
module _ {s : List ℕ} {f : Fields} (i : IsItem s f) where
  -- The payload.
  pub item_payload : payload_of s ≡ i.payload
  unfolding payload_in
  item_payload = rw (item_sound s f i, i.payload_place, i.payload_size_lem, at_payload_lem i) (take_at i.payload _ (length i.payload) refl)

  -- The author key.
  pub item_key : key_of s ≡ i.key
  item_key = rw (at_key_lem i) (take_at i.key _ 32 i.key_32)

  -- The previous id.
  pub item_previous : previous_of s ≡ i.previous
  item_previous = rw (at_previous_lem i) (take_at i.previous _ 32 i.previous_32)

  -- The `n`-th dependency id.
  pub item_dependency : (n : ℕ) → n < f.count → dependency_of f n s ≡ chunk_at (32 * n) i.dependencies
  item_dependency n h =
      let e : drop (f.dependencies + 32 * n) s ≡ drop (32 * n) i.dependencies ++ i.signature =
      rw (i.dependencies_place, ← drop-drop, at_dependencies_lem i) (drop-append-le (32 * n) i.dependencies i.signature (omega arith)) in
      let g : 32 ≤ length (drop (32 * n) i.dependencies) = rw length-drop (omega arith) in
      rw e (take-append-le 32 (drop (32 * n) i.dependencies) i.signature g)

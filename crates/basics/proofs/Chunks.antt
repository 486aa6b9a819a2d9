-- Laws of the pieces of 32 bytes.
-- Assumes nothing.
use Prim.Native.Nat.{ℕ, ◌+◌, ◌-◌, ◌≤◌, ◌<◌}
use mathlib.Core.Path.{◌≡◌, sym, ap, ◌∙◌}
use mathlib.Core.List.{List, []}
use native.Mathlib.Omega.{arith}
use lib.ListN.{length, take, drop, get_or, length-drop, drop_of_length-le}
use lib.Seq.{get_or-take, get_or-drop, length-take-le, take_all, paste}
use Rattle.basics.specs.Chunk.{chunk_at}
use Rattle.basics.proofs.Prefixes.{part_of_prefix, before_paste, after_paste, at_paste}

-- A chunk that lies inside has 32 bytes.
pub length_chunk : (i : ℕ) (s : List ℕ) → i + 32 ≤ length s → length (chunk_at i s) ≡ 32
length_chunk i s h = length-take-le 32 (drop i s) (rw length-drop (omega arith))

-- The bytes of a chunk are those of the list.
pub get_d_chunk : (i k : ℕ) (s : List ℕ) → k < 32 → get_or (chunk_at i s) k 0 ≡ get_or s (i + k) 0
get_d_chunk i k s h = get_or-take 32 (drop i s) k 0 h ∙ get_or-drop i s k 0

-- Lists that agree up to n have the same chunks there.
pub chunk_of_prefix : (n i : ℕ) (s t : List ℕ) → i + 32 ≤ n → take n s ≡ take n t → chunk_at i s ≡ chunk_at i t
chunk_of_prefix n i s t h e = part_of_prefix n 32 i s t h e

-- A chunk that was put stands at its place.
pub chunk_pasted : (d : List ℕ) (at : ℕ) (s : List ℕ) → at ≤ length d → 32 ≤ length s → chunk_at at (paste d at s 32) ≡ take 32 s
chunk_pasted d at s h k = at_paste d at s 32 h k

-- A chunk before the one that was put stays.
pub chunk_before_paste : (d : List ℕ) (at : ℕ) (s : List ℕ) (i : ℕ) → at ≤ length d → i + 32 ≤ at → chunk_at i (paste d at s 32) ≡ chunk_at i d
chunk_before_paste d at s i h k = chunk_of_prefix at i (paste d at s 32) d k (before_paste d at s 32 at h (omega arith))

-- A chunk after the one that was put stays.
pub chunk_after_paste : (d : List ℕ) (at : ℕ) (s : List ℕ) (i : ℕ)
    → at ≤ length d → 32 ≤ length s → at + 32 ≤ i → chunk_at i (paste d at s 32) ≡ chunk_at i d
chunk_after_paste d at s i h k j = ap (take 32) (after_paste d at s 32 i h k j)

-- No piece begins at the end of a list or after it.
pub chunk_none : (i : ℕ) (s : List ℕ) → length s ≤ i → [] ≡ chunk_at i s
chunk_none i s h = rw (drop_of_length-le s h)

-- Where fewer than 32 bytes are left, they are the piece.
pub chunk_rest : (i : ℕ) (s : List ℕ) → length s - i < 32 → take (length s - i) (drop i s) ≡ chunk_at i s
chunk_rest i s h =
    let e : length (drop i s) ≡ length s - i = length-drop i s in
    take_all (length s - i) (drop i s) (omega arith) ∙ sym (take_all 32 (drop i s) (omega arith))

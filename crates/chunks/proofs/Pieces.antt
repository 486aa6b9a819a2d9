-- Laws of pieces: their length and bytes, pieces of two lists that agree, and pieces after one was put.
-- Assumes nothing.
use Prim.Native.Nat.{ℕ, zero, suc, ◌-◌, ◌*◌, ◌/◌, ◌≤◌, ◌<◌}
use mathlib.Core.Path.{◌≡◌, refl, sym, ◌∙◌}
use mathlib.Core.Bool.{true, false}
use mathlib.Core.List.{List, [], ◌∷◌}
use mathlib.Core.Logic.{◌≢◌, ⊎_elim}
use native.Mathlib.Omega.{arith}
use native.Mathlib.Nat.{eq-zero-or-pos}
use lib.ListN.{length, take, drop}
use lib.Seq.{length-paste}
use lib.Dec.{eqb, ltb}
use borrow.Author.Tests.{ne_eqb, le-ltb, lt-ltb}
use Rattle.basics.specs.Chunk.{chunk_at}
use Rattle.basics.proofs.Tests.{by_pick, by_leb, by_ltb}
use Rattle.basics.proofs.Chunks.{length_chunk, chunk_of_prefix, chunk_pasted, chunk_before_paste, chunk_after_paste}
use Rattle.basics.specs.Bytes.{Bytes}
use Rattle.chunks.specs.Piece.{piece_at, put_at}

-- There is no piece 0.
pub piece_none : (s : List ℕ) → piece_at s 0 ≡ []
unfolding piece_at
piece_none s = refl

-- A piece that the list holds is the chunk at its place.
pub piece_chunk : (s : List ℕ) (r : ℕ) → 1 ≤ r → r * 32 ≤ length s → piece_at s r ≡ chunk_at ((r - 1) * 32) s
unfolding piece_at
piece_chunk s r h k =
    let e : eqb r 0 ≡ false = ne_eqb r 0 (λ z. omega arith) in
    let f : ltb (length s / 32) r ≡ false = le-ltb (length s / 32) r (omega arith) in
    rw (e, f)

-- A piece that the list does not hold is empty.
pub piece_past : (s : List ℕ) (r : ℕ) → length s < r * 32 → piece_at s r ≡ []
unfolding piece_at
piece_past s r h =
    let e : eqb r 0 ≡ false = ne_eqb r 0 (λ z. omega arith) in
    let f : ltb (length s / 32) r ≡ true = lt-ltb (length s / 32) r (omega arith) in
    rw (e, f)

-- A piece has 32 bytes.
pub length_piece : (s : List ℕ) (r : ℕ) → 1 ≤ r → r * 32 ≤ length s → length (piece_at s r) ≡ 32
length_piece s r h k = rw (piece_chunk s r h k) (length_chunk ((r - 1) * 32) s (omega arith))

-- Two pieces that a list holds have one length.
pub length_pieces : (s u : List ℕ) (r q : ℕ) → 1 ≤ r → r * 32 ≤ length s → 1 ≤ q → q * 32 ≤ length u
    → length (piece_at s r) ≡ length (piece_at u q)
length_pieces s u r q h k l m = length_piece s r h k ∙ sym (length_piece u q l m)

-- No bytes are bytes.
bytes_nil : Bytes []
bytes_nil i = omega arith

-- A byte before bytes.
bytes_cons : (x : ℕ) (s : List ℕ) → x < 256 → Bytes s → Bytes (x ∷ s)
bytes_cons x s h b zero = h
bytes_cons x s h b (suc i) = b i

-- The first bytes of a byte list are bytes.
bytes_take : (n : ℕ) (s : List ℕ) → Bytes s → Bytes (take n s)
bytes_take zero s b = bytes_nil
bytes_take (suc n) [] b = bytes_nil
bytes_take (suc n) (x ∷ s) b = bytes_cons x (take n s) (b zero) (bytes_take n s (λ k. b (suc k)))

-- The last bytes of a byte list are bytes.
bytes_drop : (n : ℕ) (s : List ℕ) → Bytes s → Bytes (drop n s)
bytes_drop zero s b = b
bytes_drop (suc n) [] b = bytes_nil
bytes_drop (suc n) (x ∷ s) b = bytes_drop n s (λ k. b (suc k))

-- The bytes of a piece are bytes.
pub bytes_piece : (s : List ℕ) (r : ℕ) → Bytes s → Bytes (piece_at s r)
unfolding piece_at
bytes_piece s r b =
    by_pick Bytes (eqb r 0) [] _ (λ _. bytes_nil)
    (λ _. by_pick Bytes (ltb (length s / 32) r) [] (chunk_at ((r - 1) * 32) s) (λ _. bytes_nil)
    (λ _. bytes_take 32 (drop ((r - 1) * 32) s) (bytes_drop ((r - 1) * 32) s b)))

-- Lists that agree up to a place have the same pieces there.
pub piece_of_prefix : (n : ℕ) (s u : List ℕ) (r : ℕ) → n ≤ length s → n ≤ length u → r * 32 ≤ n → take n s ≡ take n u
    → piece_at s r ≡ piece_at u r
piece_of_prefix n s u r h k l e =
    ⊎_elim
    (λ z. rw z (piece_none s ∙ sym (piece_none u)))
    (λ p. piece_chunk s r p (omega arith) ∙ chunk_of_prefix n ((r - 1) * 32) s u (omega arith) e ∙ sym (piece_chunk u r p (omega arith)))
    (eq-zero-or-pos r)

module _ (s : List ℕ) (r : ℕ) (x : List ℕ) (h : 1 ≤ r) (k : r * 32 ≤ length s) (l : 32 ≤ length x) where
  -- Putting a piece leaves the length.
  pub length_put : length (put_at s r x) ≡ length s
  length_put = length-paste s ((r - 1) * 32) x 32 (omega arith) l

  -- The piece that was put stands.
  pub piece_put : piece_at (put_at s r x) r ≡ take 32 x
  piece_put = piece_chunk (put_at s r x) r h (rw length_put k) ∙ chunk_pasted s ((r - 1) * 32) x (omega arith) l

  -- Every other piece stays.
  pub piece_put_other : (q : ℕ) → q ≢ r → piece_at (put_at s r x) q ≡ piece_at s q
  piece_put_other q n =
      ⊎_elim
      (λ z. rw z (piece_none (put_at s r x) ∙ sym (piece_none s)))
      (λ p. by_leb (λ _. piece_at (put_at s r x) q ≡ piece_at s q) (q * 32) (length s)
      (λ m.
      piece_chunk (put_at s r x) q p (rw length_put m)
      ∙ by_ltb (λ _. chunk_at ((q - 1) * 32) (put_at s r x) ≡ chunk_at ((q - 1) * 32) s) q r
      (λ f. chunk_before_paste s ((r - 1) * 32) x ((q - 1) * 32) (omega arith) (omega arith))
      (λ f. chunk_after_paste s ((r - 1) * 32) x ((q - 1) * 32) (omega arith) l (omega arith))
      ∙ sym (piece_chunk s q p m))
      (λ m. piece_past (put_at s r x) q (rw length_put m) ∙ sym (piece_past s q m)))
      (eq-zero-or-pos q)

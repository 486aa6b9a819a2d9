-- One turn of each loop that lays, and the puts of each field one after the other.
-- Assumes nothing.
use Rattle.std.proofs.lemmas.List.Edits.{fill_none, fill_more}
use Prim.Native.Nat.{ℕ, zero, suc, ◌≤◌, ◌<◌, ◌+◌, ◌*◌, ◌-◌, ◌/◌, ◌%◌}
use mathlib.Core.Path.{◌≡◌, refl, sym, ap, ◌∙◌}
use mathlib.Core.List.{List, ◌++◌}
use native.Mathlib.Numerals.{add-one}
use native.Mathlib.Omega.{arith}
use lib.ListN.{length, drop, replicate, set}
use lib.Seq.{drop-length}
use Rattle.std.proofs.lemmas.List.{append-nil}
use Rattle.chunks.specs.Piece.{piece_at}
use Rattle.item.specs.Offsets.{at_kind, at_mark, at_key, at_index, at_size, at_payload, smallest_item}
use Rattle.lines.specs.Line.{Put}
use Rattle.limits.specs.Laid.{zeroed, number_put, bytes_put, ids_put, sizes_put, author_put}

-- The first bytes are zero, and those behind them stay.
zeroed_front : (s : List ℕ) (n : ℕ) → n ≤ length s → zeroed s n ≡ replicate n 0 ++ drop n s
unfolding zeroed
zeroed_front s zero h = fill_none s 0
zeroed_front s (suc n) h =
    let m : n < length s = omega arith in
    let e = zeroed_front s n (omega arith) in
    let f = fill_more n 0 s m in
    rw (e, f, add-one)

-- As many zero bytes as there are bytes are all of them.
pub zeroed_all : (s : List ℕ) → replicate (length s) 0 ≡ zeroed s (length s)
zeroed_all s =
    sym (zeroed_front s (length s) (omega arith) ∙ ap (λ (t : List ℕ). replicate (length s) 0 ++ t) (drop-length s) ∙ append-nil (replicate (length s) 0))

-- No id is put yet.
pub ids_none : (s : List ℕ) (at : ℕ) (ids : List ℕ) → s ≡ ids_put s at ids 0
unfolding ids_put
ids_none s at ids = refl

-- One id more is put.
pub ids_more : (s : List ℕ) (at : ℕ) (ids : List ℕ) (n : ℕ) (w r : List ℕ) → w ≡ ids_put s at ids n → r ≡ bytes_put w (at + 32 * n) (piece_at ids (n + 1))
    → r ≡ ids_put s at ids (n + 1)
unfolding ids_put
ids_more s at ids n w r e f = f ∙ ap (λ (x : List ℕ). bytes_put x (at + 32 * n) (piece_at ids (n + 1))) e ∙ step
  where
    step : bytes_put (ids_put s at ids n) (at + 32 * n) (piece_at ids (n + 1)) ≡ ids_put s at ids (n + 1)
    step = rw (add-one)

-- The two bytes of a number.
pub number_put_lem : (s : List ℕ) (at n : ℕ) (u v : List ℕ) → u ≡ set s at (n % 256) → v ≡ set u (at + 1) (n / 256 % 256) → v ≡ number_put s at n
number_put_lem s at n u v e f = f ∙ ap (λ (x : List ℕ). set x (at + 1) (n / 256 % 256)) e

-- The mark, the key and the index.
pub author_put_lem : (s : List ℕ) (author index : ℕ) (u v w : List ℕ) → u ≡ set s at_mark 1 → v ≡ number_put u at_key author → w ≡ number_put v at_index index
    → w ≡ author_put s author index
unfolding author_put
author_put_lem s author index u v w e f g = g ∙ ap (λ (x : List ℕ). number_put x at_index index) (f ∙ ap (λ (x : List ℕ). number_put x at_key author) e)

-- The length, the kind and the two counts.
pub sizes_put_lem : (s : List ℕ) (payload count : ℕ) (u v w x : List ℕ) → u ≡ number_put s 0 (smallest_item - 4 + payload + 32 * count) → v ≡ number_put u at_kind 1
    → w ≡ number_put v at_size payload → x ≡ number_put w (at_payload + payload) count → x ≡ sizes_put s payload count
unfolding sizes_put
sizes_put_lem s payload count u v w x e f g h =
    h
    ∙ ap (λ (y : List ℕ). number_put y (at_payload + payload) count)
    (g ∙ ap (λ (y : List ℕ). number_put y at_size payload) (f ∙ ap (λ (y : List ℕ). number_put y at_kind 1) e))

-- Bytes that are put as a line's text is.
pub bytes_put_lem : (s : List ℕ) (at : ℕ) (t text s' : List ℕ) (n : ℕ) → Put s at t s' n → t ≡ text → s' ≡ bytes_put s at text
unfolding bytes_put
bytes_put_lem s at t text s' n p q = p.content ∙ ap (λ (x : List ℕ). bytes_put s at x) q

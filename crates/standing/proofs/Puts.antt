-- The bytes that are put, one part behind the other.
-- Assumes nothing.
use Prim.Native.Nat.{ℕ, ◌+◌, ◌*◌, ◌≤◌}
use mathlib.Core.Path.{◌≡◌, refl, sym, ap, ◌∙◌}
use mathlib.Core.Bool.{Bool}
use mathlib.Core.Logic.{◌≢◌}
use mathlib.Core.List.{List, [], ◌∷◌, ◌++◌}
use mathlib.Core.Option.{none, some}
use native.Mathlib.Numerals.{add-one}
use native.Mathlib.Omega.{arith}
use lib.ListN.{length, set, length-append, length-replicate}
use lib.Seq.{sets-eq}
use borrow.Author.Tests.{eq-eqb, ne_eqb}
use Rattle.basics.specs.Pick.{pick}
use Rattle.basics.proofs.Tests.{by_eqb}
use Rattle.chunks.specs.Piece.{piece_at}
use Rattle.chunks.proofs.Pieces.{length_piece}
use Rattle.chains.specs.Chain.{State, growing, forked}
use Rattle.writing.specs.Laying.{laid_at}
use Rattle.writing.proofs.Behind.{length_laid, laid_two, laid_three}
use Rattle.standing.specs.Standing.{id_of, by_ids}
use Rattle.standing.specs.Bytes.{no_id, last_bytes, says_bytes, sent_bytes}
use Rattle.standing.specs.Selecting.{keys_and_ids, Sendable, id_bytes, presence, rows_bytes}

-- Zero bytes are 32.
pub length_no_id : length no_id ≡ 32
length_no_id = length-replicate {A = ℕ} 32 0

-- The bytes of an id are 32.
pub length_id : (ids : List ℕ) (r : ℕ) → r * 32 ≤ length ids → length (id_bytes ids r) ≡ 32
length_id ids r h =
    by_eqb (λ (t : Bool). length (pick t no_id (piece_at ids r)) ≡ 32) r 0 (λ e. length_no_id) (λ e. length_piece ids r (omega arith) h)

-- The bytes of no row's id, and of a row's.
pub id_none : (ids : List ℕ) (r : ℕ) → r ≡ 0 → id_bytes ids r ≡ no_id
id_none ids r e = rw (eq-eqb r 0 e)

pub id_some : (ids : List ℕ) (r : ℕ) → r ≢ 0 → id_bytes ids r ≡ piece_at ids r
id_some ids r n = rw (ne_eqb r 0 n)

-- Two bytes stored.
pub laid_bytes : (out : List ℕ) (at v w : ℕ) → at + 2 ≤ length out → set (set out at v) (at + 1) w ≡ laid_at out at (v ∷ w ∷ [])
laid_bytes out at v w h = rw add-one (sets-eq (v ∷ w ∷ []) out at h)

-- Phase, presence and the three ids, each behind the one before.
pub rows_laid : (ids out : List ℕ) (at phase last low high : ℕ) (u v x y : List ℕ) → at + 98 ≤ length out → last * 32 ≤ length ids → low * 32 ≤ length ids
    → u ≡ laid_at out at (phase ∷ presence last ∷ []) → v ≡ laid_at u (at + 2) (id_bytes ids last)
    → x ≡ laid_at v (at + 34) (id_bytes ids low) → y ≡ laid_at x (at + 66) (id_bytes ids high) → y ≡ laid_at out at (rows_bytes ids phase last low high)
rows_laid ids out at phase last low high u v x y h k m a b c d =
    let l = length_id ids last k in
    let n = length_id ids low m in
    laid_two out at (phase ∷ presence last ∷ []) (at + 2) (id_bytes ids last ++ (id_bytes ids low ++ id_bytes ids high)) u y a
    (laid_three u (at + 2) (id_bytes ids last) (at + 34) (id_bytes ids low) (at + 66) (id_bytes ids high) v x y b c d (omega arith) (omega arith)
    (omega (arith, long)))
    (omega arith) (omega arith)
  where
    long : length u ≡ length out
    long = ap length a ∙ length_laid out at (phase ∷ presence last ∷ []) (omega arith)

-- The bytes of a last row, by its id.
last_bytes_lem : (keys ids : List ℕ) (l : ℕ) → last_bytes (id_of (keys_and_ids keys ids) l) ≡ presence l ∷ id_bytes ids l
last_bytes_lem keys ids l =
    by_eqb (λ (t : Bool). last_bytes (pick t none (some (piece_at ids l))) ≡ pick t 0 1 ∷ pick t no_id (piece_at ids l)) l 0 (λ e. refl) (λ e. refl)

-- A growing state's bytes, and a forked one's.
growing_bytes : (keys ids : List ℕ) (l : ℕ) → rows_bytes ids 0 l 0 0 ≡ says_bytes (by_ids (keys_and_ids keys ids) (growing l))
growing_bytes keys ids l = rw (last_bytes_lem keys ids l)

forked_bytes : (keys ids : List ℕ) (l lo hi : ℕ) → 1 ≤ lo → 1 ≤ hi → rows_bytes ids 1 l lo hi ≡ says_bytes (by_ids (keys_and_ids keys ids) (forked l lo hi))
forked_bytes keys ids l lo hi h k = rw (last_bytes_lem keys ids l, id_some ids lo (λ z. omega arith), id_some ids hi (λ z. omega arith))

-- The rest of an entry behind its key has 98 bytes,
rows_length : (ids : List ℕ) (phase last low high : ℕ) → last * 32 ≤ length ids → low * 32 ≤ length ids → high * 32 ≤ length ids
    → length (rows_bytes ids phase last low high) ≡ 98
rows_length ids phase last low high h k m =
    let a = length_id ids last h in
    let b = length_id ids low k in
    let c = length_id ids high m in
    let x = length-append (id_bytes ids last) (id_bytes ids low ++ id_bytes ids high) in
    let y = length-append (id_bytes ids low) (id_bytes ids high) in
    omega arith

-- and the whole entry 130.
pub sent_length : (keys ids : List ℕ) (a : ℕ) (l : State) → Sendable keys ids a l
    → length (sent_bytes (record { key = piece_at keys a; says = by_ids (keys_and_ids keys ids) l })) ≡ 130
sent_length keys ids a (growing l) s =
    let x = length-append (piece_at keys a) (says_bytes (by_ids (keys_and_ids keys ids) (growing l))) in
    let y = length_piece keys a s.author s.key in
    let z = ap length (sym (growing_bytes keys ids l)) ∙ rows_length ids 0 l 0 0 s.rows (omega arith) (omega arith) in
    omega (arith, x, y, z)
sent_length keys ids a (forked l lo hi) s =
    let r = s.rows in
    let x = length-append (piece_at keys a) (says_bytes (by_ids (keys_and_ids keys ids) (forked l lo hi))) in
    let y = length_piece keys a s.author s.key in
    let z = ap length (sym (forked_bytes keys ids l lo hi r.1.0.0 r.1.1.0)) ∙ rows_length ids 1 l lo hi r.0 r.1.0.1 r.1.1.1 in
    omega (arith, x, y, z)

module _ (keys ids out p u v : List ℕ) (at a w : ℕ) (room : at + 130 ≤ length out) (e : w ≡ a) (d : p ≡ piece_at keys w) (g : u ≡ laid_at out at p) where
  key_laid : 1 ≤ a → a * 32 ≤ length keys → (st : State) → v ≡ laid_at u (at + 32) (says_bytes (by_ids (keys_and_ids keys ids) st))
      → v ≡ laid_at out at (sent_bytes (record { key = piece_at keys a; says = by_ids (keys_and_ids keys ids) st }))
  key_laid h k st f =
      let l : p ≡ piece_at keys a = rw e at d in
      let n = length_piece keys a h k in
      laid_two out at (piece_at keys a) (at + 32) (says_bytes (by_ids (keys_and_ids keys ids) st)) u v (rw l at g) f (omega arith) (omega arith)

  -- The entry of a growing state, and of a forked one.
  pub growing_laid : (l : ℕ) → Sendable keys ids a (growing l) → v ≡ laid_at u (at + 32) (rows_bytes ids 0 l 0 0)
      → v ≡ laid_at out at (sent_bytes (record { key = piece_at keys a; says = by_ids (keys_and_ids keys ids) (growing l) }))
  growing_laid l s f = key_laid s.author s.key (growing l) (f ∙ ap (laid_at u (at + 32)) (growing_bytes keys ids l))

  pub forked_laid : (l lo hi : ℕ) → Sendable keys ids a (forked l lo hi) → v ≡ laid_at u (at + 32) (rows_bytes ids 1 l lo hi)
      → v ≡ laid_at out at (sent_bytes (record { key = piece_at keys a; says = by_ids (keys_and_ids keys ids) (forked l lo hi) }))
  forked_laid l lo hi s f =
      key_laid s.author s.key (forked l lo hi)
      (f ∙ ap (laid_at u (at + 32)) (forked_bytes keys ids l lo hi s.rows.1.0.0 s.rows.1.1.0))

-- A piece that is held fits where there is room for 32 bytes,
pub piece_fits : (s out p : List ℕ) (at r w : ℕ) → at + 32 ≤ length out → r * 32 ≤ length s → r ≢ 0 → w ≡ r → p ≡ piece_at s w → at + length p ≤ length out
piece_fits s out p at r w h k n e d =
    let q : p ≡ piece_at s r = rw e at d in
    let l : length p ≡ 32 = ap length q ∙ length_piece s r (omega arith) k in
    omega arith

-- and is the id of its row.
pub piece_laid : (s out v p : List ℕ) (at r w : ℕ) → r ≢ 0 → w ≡ r → p ≡ piece_at s w → v ≡ laid_at out at p → v ≡ laid_at out at (id_bytes s r)
piece_laid s out v p at r w n e d f = let q : p ≡ piece_at s r = rw e at d in f ∙ ap (laid_at out at) (q ∙ sym (id_some s r n))

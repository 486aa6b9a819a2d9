-- What looking for a piece finds, and when pieces are distinct.
-- Assumes nothing.
use Rattle.std.specs.Prelude.{Option, Some, None}
use Rattle.std.specs.Option.{is_some}
use Prim.Native.Nat.{ℕ, zero, suc, ◌+◌, ◌*◌, ◌≤◌, ◌<◌}
use mathlib.Core.Path.{◌≡◌, refl, sym, ap, ◌∙◌}
use mathlib.Core.Bool.{Bool, true, false}
use mathlib.Core.List.{List, []}
use mathlib.Core.Logic.{◌≢◌, ⊎_elim}
use native.Mathlib.Nat.{eq-or-lt_of_le, le_antisymm}
use native.Mathlib.Omega.{arith}
use lib.ListN.{length}
use lib.Dec.{eqb}
use borrow.Author.Tests.{ne_eqb}
use Rattle.basics.specs.Pick.{pick}
use Rattle.basics.proofs.Tests.{by_eqb, by_leb, by_ltb}
use Rattle.chunks.specs.Bytes.{same_bytes}
use Rattle.chunks.specs.Piece.{piece_at}
use Rattle.chunks.specs.Lookup.{place_of, found_of, Distinct, NoneIs, IsFirst}
use Rattle.chunks.proofs.Pieces.{piece_past, length_piece}
use Rattle.chunks.proofs.Sameness.{same_equal, same_differs}

-- A number is the first place of a piece, or 0 where there is none.
record IsPlace (s : List ℕ) (n : ℕ) (x : List ℕ) (p : ℕ) : Type 0 where
  some : p ≢ 0 → IsFirst s n x p
  none : p ≡ 0 → NoneIs s n x

module _ (s x : List ℕ) where
  -- None of the pieces before piece `r` is the one looked for.
  abbrev pub NoneBefore : ℕ → Type 0
  NoneBefore r = (i : ℕ) → i < r → 1 ≤ i → piece_at s i ≢ x

  -- Nor is piece `r`.
  pub none_more : (r : ℕ) → NoneBefore r → same_bytes (piece_at s r) x ≡ false → NoneIs s r x
  none_more r p e i h k = ⊎_elim (λ q. rw q (same_differs (piece_at s r) x e)) (λ q. p i q k) (eq-or-lt_of_le h)

  -- Piece `r` is, and so it is the first.
  pub first_here : (r n : ℕ) → NoneBefore r → 1 ≤ r → r ≤ n → same_bytes (piece_at s r) x ≡ true → IsFirst s n x r
  first_here r n p k h e = record { some = k; within = h; here = same_equal (piece_at s r) x e; earlier = p }

  -- One piece more, where none was found before.
  new_place : (n : ℕ) → NoneIs s n x → (b : Bool) → same_bytes (piece_at s (suc n)) x ≡ b → IsPlace s (suc n) x (pick b (suc n) 0)
  new_place n p true e =
      let q : NoneBefore (suc n) = λ i h. p i (omega arith) in
      record { some = λ _. first_here (suc n) (suc n) q (omega arith) (omega arith) e; none = λ z. absurd (omega arith) }
  new_place n p false e =
      let q : NoneBefore (suc n) = λ i h. p i (omega arith) in
      record { some = λ z. absurd (z refl); none = λ _. none_more (suc n) q e }

  -- One piece more, where it was found before.
  old_place : (n k : ℕ) → IsFirst s n x k → IsPlace s (suc n) x k
  old_place n k p =
      record {
        some = λ _. record { some = p.some; within = omega (arith, p.within); here = p.here; earlier = p.earlier };
        none = λ z. absurd (omega (arith, p.some));
      }

  -- The place is the first one, or there is none.
  place_is : (n : ℕ) → IsPlace s n x (place_of s n x)
  unfolding place_of
  place_is zero = record { some = λ z. absurd (z refl); none = λ _ i h k. absurd (omega arith) }
  place_is (suc n) =
      let q : IsPlace s n x (place_of s n x) = place_is n in
      by_eqb (λ t. IsPlace s (suc n) x (pick t (pick (same_bytes (piece_at s (suc n)) x) (suc n) 0) (place_of s n x))) (place_of s n x) 0
      (λ z. new_place n (q.none z) (same_bytes (piece_at s (suc n)) x) refl)
      (λ z. old_place n (place_of s n x) (q.some z))

  -- Where a piece was found, it is the first that is the one looked for.
  pub place_some : (n : ℕ) → place_of s n x ≢ 0 → IsFirst s n x (place_of s n x)
  place_some n = (place_is n).some

  -- Where nothing was found, no piece is the one looked for.
  pub place_none : (n : ℕ) → place_of s n x ≡ 0 → NoneIs s n x
  place_none n = (place_is n).none

  -- The first is not after another that is.
  not_after : (n k m : ℕ) → IsFirst s n x k → IsFirst s n x m → k ≤ m
  not_after n k m p q = by_ltb (λ _. k ≤ m) m k (λ h. absurd (p.earlier m h q.some q.here)) (λ h. h)

  -- The first piece that is the one looked for is found.
  pub first_place_lem : (n k : ℕ) → IsFirst s n x k → place_of s n x ≡ k
  first_place_lem n k p =
      by_eqb (λ _. place_of s n x ≡ k) (place_of s n x) 0
      (λ z. absurd (place_none n z k p.within p.some p.here))
      (λ z.
      let q : IsFirst s n x (place_of s n x) = place_some n z in
      le_antisymm (not_after n (place_of s n x) k q p) (not_after n k (place_of s n x) p q))

  -- Where no piece is the one looked for, nothing is found.
  pub none_place : (n : ℕ) → NoneIs s n x → place_of s n x ≡ 0
  none_place n p =
      by_eqb (λ _. place_of s n x ≡ 0) (place_of s n x) 0
      (λ z. z)
      (λ z. let q : IsFirst s n x (place_of s n x) = place_some n z in absurd (p (place_of s n x) q.within q.some q.here))

  -- The answer where the first is known.
  pub found_first : (n k : ℕ) → IsFirst s n x k → found_of (place_of s n x) ≡ Some k
  found_first n k p =
      let e : eqb k 0 ≡ false = ne_eqb k 0 (λ z. omega (arith, p.some)) in
      rw (first_place_lem n k p, e)

  -- The answer where none is.
  pub found_none : (n : ℕ) → NoneIs s n x → found_of (place_of s n x) ≡ None
  found_none n p = rw (none_place n p)

  -- What an answer says: the first piece that is the one looked for,
  pub at_first : (n k : ℕ) → found_of (place_of s n x) ≡ Some k → IsFirst s n x k
  at_first n k =
      by_eqb (λ t. pick t None (Some (place_of s n x)) ≡ Some k → IsFirst s n x k) (place_of s n x) 0
      (λ z e. let o : ◌≡◌ {A = ℕ} 0 1 = cc in absurd (omega arith))
      (λ z e. let f : place_of s n x ≡ k = cc in rw f at (place_some n z))

  -- or that there is none.
  pub none_there : (n : ℕ) → found_of (place_of s n x) ≡ None → NoneIs s n x
  none_there n =
      by_eqb (λ t. pick t None (Some (place_of s n x)) ≡ None → NoneIs s n x) (place_of s n x) 0
      (λ z e. place_none n z)
      (λ z e. let o : ◌≡◌ {A = ℕ} 0 1 = cc in absurd (omega arith))

-- Whether anything is found: where something is, not each piece differs from the one looked for,
pub found_some : (s x : List ℕ) (n : ℕ) (o : Option ℕ) → o ≡ found_of (place_of s n x) → is_some o ≡ true → NoneIs s n x → ⊥
found_some s x n (Some k) e t p = let q = at_first s x n k (sym e) in p k q.within q.some q.here
found_some s x n None e t p = absurd cc

-- and where nothing is, each does.
pub found_nothing : (s x : List ℕ) (n : ℕ) (o : Option ℕ) → o ≡ found_of (place_of s n x) → is_some o ≡ false → NoneIs s n x
found_nothing s x n (Some k) e t = absurd cc
found_nothing s x n None e t = none_there s x n (sym e)

-- Whatever `n` is, a piece that is found is one that the list holds whole, unless no bytes were looked for.
pub found_held : (s x : List ℕ) (n k : ℕ) → 1 ≤ length x → found_of (place_of s n x) ≡ Some k → (k * 32 ≤ length s) × (length x ≡ 32)
found_held s x n k h e =
    let p : IsFirst s n x k = at_first s x n k e in
    by_leb (λ _. (k * 32 ≤ length s) × (length x ≡ 32)) (k * 32) (length s)
    (λ l. (l, ap length (sym p.here) ∙ length_piece s k p.some l))
    (λ l. let z : length x ≡ 0 = ap length (sym p.here ∙ piece_past s k l) in absurd (omega arith))

module _ (s : List ℕ) where
  -- No piece that the list holds whole is empty.
  not_empty : (i : ℕ) → i * 32 ≤ length s → 1 ≤ i → piece_at s i ≢ []
  not_empty i h k e = omega (arith, length_piece s i k h, ap length e)

  -- No bytes, looked for, are found at the first place past the list where `n` goes beyond the list,
  pub found_empty : (n k : ℕ) → 1 ≤ k → k ≤ n → length s < k * 32 → k * 32 ≤ length s + 32 → found_of (place_of s n []) ≡ Some k
  found_empty n k h l p q =
      found_first s [] n k (record { some = h; within = l; here = piece_past s k p; earlier = λ i m. not_empty i (omega arith) })

  -- and nowhere else.
  pub none_empty : (n : ℕ) → n * 32 ≤ length s → found_of (place_of s n []) ≡ None
  none_empty n h = found_none s [] n (λ i l. not_empty i (omega arith))

-- Lists with the same first pieces have one place.
pub place_agree : (s u x : List ℕ) (n : ℕ) → ((i : ℕ) → i ≤ n → 1 ≤ i → piece_at s i ≡ piece_at u i) → place_of s n x ≡ place_of u n x
unfolding place_of
place_agree s u x zero e = refl
place_agree s u x (suc n) e =
    let p : piece_at s (suc n) ≡ piece_at u (suc n) = e (suc n) (omega arith) (omega arith) in
    let q : place_of s n x ≡ place_of u n x = place_agree s u x n (λ i h. e i (omega arith)) in
    rw (p, q)

-- Where pieces are distinct, looking for one of them finds it.
pub place_own : (s : List ℕ) (n k : ℕ) → Distinct s n → 1 ≤ k → k ≤ n → place_of s n (piece_at s k) ≡ k
place_own s n k d h l = first_place_lem s (piece_at s k) n k (record { some = h; within = l; here = refl; earlier = λ i m. d k l i m })

-- Lists with the same first pieces have them distinct together.
pub distinct_agree : (s u : List ℕ) (n : ℕ) → ((i : ℕ) → i ≤ n → 1 ≤ i → piece_at s i ≡ piece_at u i) → Distinct s n → Distinct u n
distinct_agree s u n e d j h i l m f = d j h i l m (e i (omega arith) m ∙ f ∙ sym (e j h (omega arith)))

-- No pieces are distinct.
pub distinct_none : (s : List ℕ) → Distinct s 0
distinct_none s j h i l m = absurd (omega arith)

-- A piece that is not among distinct ones makes one more.
pub distinct_more : (s : List ℕ) (n : ℕ) → Distinct s n → NoneIs s n (piece_at s (n + 1)) → Distinct s (n + 1)
distinct_more s n d p j h i l m =
    ⊎_elim (λ q. let o = p i (omega arith) m in rw q o) (λ q. d j (omega arith) i l m) (eq-or-lt_of_le h)

-- A piece that is among the ones before it is not distinct from them.
pub distinct_broken : (s : List ℕ) (i n : ℕ) → i < n → (NoneIs s i (piece_at s (i + 1)) → ⊥) → Distinct s n → ⊥
distinct_broken s i n h p d = p (λ k l. d (i + 1) (omega arith) k (omega arith))

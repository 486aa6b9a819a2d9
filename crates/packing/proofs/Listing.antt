-- Laws of the marked rows as a list.
-- Assumes nothing.
use Prim.Native.Nat.{ℕ, zero, suc, ◌+◌, ◌≤◌, ◌<◌}
use mathlib.Core.Path.{◌≡◌, refl, sym, ap, subst, ◌∙◌}
use mathlib.Core.List.{List, [], ◌∷◌, ◌++◌, append_assoc}
use mathlib.Core.Logic.{◌≢◌}
use native.Mathlib.Omega.{arith}
use native.Mathlib.Numerals.{add-one}
use lib.ListN.{length, get_or, set, take, drop, length-append, length-set, length-drop}
use lib.Seq.{drop-cons, set-append_seam}
use borrow.Author.Tests.{eq-eqb, ne_eqb}
use Rattle.std.specs.List.{count_by}
use Rattle.std.proofs.lemmas.List.Sums.{count_by_more_no, count_by_more_yes}
use Rattle.std.proofs.lemmas.Grind.{get_or_after_one}
use lib.Dec.{eqb}
use Rattle.basics.proofs.Tests.{by_eqb}
use Rattle.packing.specs.Marks.{listing}

-- A marked row is the list's next.
pub listing_marked : (marks : List ℕ) (n : ℕ) → get_or marks (n + 1) 0 ≡ 1 → listing marks (n + 1) ≡ listing marks n ++ ((n + 1) ∷ [])
unfolding listing
listing_marked marks n e = let f : get_or marks (suc n) 0 ≡ 1 = rw add-one at e in rw (add-one, eq-eqb (get_or marks (suc n) 0) 1 f)

-- A row that is not marked is left out.
pub listing_skipped : (marks : List ℕ) (n : ℕ) → get_or marks (n + 1) 0 ≢ 1 → listing marks (n + 1) ≡ listing marks n
unfolding listing
listing_skipped marks n e = let f : get_or marks (suc n) 0 ≢ 1 = rw add-one at e in rw (add-one, ne_eqb (get_or marks (suc n) 0) 1 f)

-- One more, and its length.
length_next : (l : List ℕ) (x : ℕ) → length (l ++ (x ∷ [])) ≡ length l + 1
length_next l x = length-append l (x ∷ [])

pub length_marked : (marks : List ℕ) (n : ℕ) → get_or marks (n + 1) 0 ≡ 1 → length (listing marks (n + 1)) ≡ length (listing marks n) + 1
length_marked marks n e = ap length (listing_marked marks n e) ∙ length_next (listing marks n) (n + 1)

-- The list is no longer than the rows are many, and grows with them.
grows : (marks : List ℕ) (n : ℕ) → (length (listing marks n) ≤ length (listing marks (n + 1))) × (length (listing marks (n + 1)) ≤ length (listing marks n) + 1)
grows marks n =
    by_eqb (λ b. (length (listing marks n) ≤ length (listing marks (n + 1))) × (length (listing marks (n + 1)) ≤ length (listing marks n) + 1))
    (get_or marks (n + 1) 0) 1
    (λ e. let k = length_marked marks n e in (omega arith, omega arith))
    (λ d. let k = ap length (listing_skipped marks n d) in (omega arith, omega arith))

pub listing_short : (marks : List ℕ) (n : ℕ) → length (listing marks n) ≤ n
unfolding listing
listing_short marks zero = omega arith
listing_short marks (suc n) =
    let k = listing_short marks n in
    let g = (grows marks n).1 in
    let h : length (listing marks (suc n)) ≤ length (listing marks n) + 1 = rw (add-one n) at g in
    omega arith

pub listing_mono : (marks : List ℕ) (m n : ℕ) → m ≤ n → length (listing marks m) ≤ length (listing marks n)
listing_mono marks m zero h = let e : m ≡ 0 = omega arith in rw e (omega arith)
listing_mono marks m (suc n) h =
    by_eqb (λ b. length (listing marks m) ≤ length (listing marks (suc n))) m (suc n)
    (λ e. rw e (omega arith))
    (λ d.
    let k = listing_mono marks m n (omega arith) in
    let g = (grows marks n).0 in
    let i : length (listing marks n) ≤ length (listing marks (suc n)) = rw add-one at g in
    omega arith)

-- The rows up to `n` that are marked are the numbers behind the first that are 1.
pub marks_counted : (marks : List ℕ) (n : ℕ) → n < length marks → count_by (λ x. eqb x 1) (take n (drop 1 marks)) ≡ length (listing marks n)
unfolding listing
marks_counted marks zero h = refl
marks_counted marks (suc n) h =
    let s : n + 1 ≡ suc n = omega arith in
    let g : get_or (drop 1 marks) n 0 ≡ get_or marks (n + 1) 0 = get_or_after_one marks n 0 ∙ ap (λ k. get_or marks k 0) (omega arith) in
    let i = marks_counted marks n (omega arith) in
    let l : n < length (drop 1 marks) = omega (arith, length-drop 1 marks) in
    subst (λ k. count_by (λ x. eqb x 1) (take k (drop 1 marks)) ≡ length (listing marks k)) s
    (by_eqb (λ _. count_by (λ x. eqb x 1) (take (n + 1) (drop 1 marks)) ≡ length (listing marks (n + 1))) (get_or marks (n + 1) 0) 1
    (λ e. count_by_more_yes (λ x. eqb x 1) (drop 1 marks) n 0 l (eq-eqb _ _ (g ∙ e)) ∙ ap (λ k. k + 1) i ∙ sym (length_marked marks n e))
    (λ d. count_by_more_no (λ x. eqb x 1) (drop 1 marks) n 0 l (ne_eqb _ _ (λ e. d (sym g ∙ e))) ∙ i ∙ sym (ap length (listing_skipped marks n d))))

-- The first `row` rows are counted.
pub record Counted (marks : List ℕ) (count used row : ℕ) : Type 0 where
  pub high : row ≤ count
  pub number : used ≡ length (listing marks row)

counted_none : (marks : List ℕ) (count : ℕ) → Counted marks count 0 0
unfolding listing
counted_none marks count = record { high = omega arith; number = refl }

counted_marked : {marks : List ℕ} {count used row : ℕ} → Counted marks count used row → row < count → get_or marks (row + 1) 0 ≡ 1
    → Counted marks count (used + 1) (row + 1)
counted_marked {marks} {row = row} d h e =
    let n = d.number in
    let k = length_marked marks row e in
    record { high = omega arith; number = omega arith }

counted_skipped : {marks : List ℕ} {count used row : ℕ} → Counted marks count used row → row < count → get_or marks (row + 1) 0 ≢ 1
    → Counted marks count used (row + 1)
counted_skipped {marks} {row = row} d h e = record { high = omega arith; number = d.number ∙ sym (ap length (listing_skipped marks row e)) }

counted_all : {marks : List ℕ} {count used row : ℕ} → Counted marks count used row → count ≤ row → used ≡ length (listing marks count)
counted_all {marks} {count} {row = row} d h =
    let high = d.high in
    let e : row ≡ count = omega arith in
    d.number ∙ ap (λ (n : ℕ). length (listing marks n)) e

-- The first `row` rows are written.
pub record Put (marks before out : List ℕ) (count used row : ℕ) : Type 0 where
  pub counted : Counted marks count used row
  pub size : length out ≡ length before
  pub front : out ≡ listing marks row ++ drop (length (listing marks row)) before

pub put_none : (marks out : List ℕ) (count : ℕ) → Put marks out out count 0 0
unfolding listing
put_none marks out count = record { counted = counted_none marks count; size = refl; front = refl }

-- Room for a marked row.
put_room : {marks before out : List ℕ} {count used row : ℕ} → Put marks before out count used row → row < count → get_or marks (row + 1) 0 ≡ 1
    → length (listing marks count) ≤ length before → used < length out
put_room {marks} {count = count} {row = row} p h e room =
    let n = p.counted.number in
    let s = p.size in
    let k = length_marked marks row e in
    let m = listing_mono marks (row + 1) count (omega arith) in
    omega arith

-- A number put behind a list that was put at the front.
next_put : (l before : List ℕ) (v : ℕ) → length l < length before
    → set (l ++ drop (length l) before) (length l) v ≡ (l ++ (v ∷ [])) ++ drop (length (l ++ (v ∷ []))) before
next_put l before v h =
    rw (drop-cons before (length l) 0 h) (set-append_seam l (get_or before (length l) 0) (drop (suc (length l)) before) v
    ∙ sym (append_assoc l (v ∷ []) (drop (suc (length l)) before))
    ∙ ap (λ (k : ℕ). (l ++ (v ∷ [])) ++ drop k before) (sym (length_next l v ∙ add-one (length l))))

put_marked : {marks before out : List ℕ} {count used row v : ℕ} → Put marks before out count used row → row < count → get_or marks (row + 1) 0 ≡ 1
    → length (listing marks count) ≤ length before → v ≡ row + 1 → Put marks before (set out used v) count (used + 1) (row + 1)
put_marked {marks} {before} {out} {count} {used} {row} {v} p h e room f =
    let used-room = put_room p h e room in
    let s = p.size in
    let n = p.counted.number in
    let low : length (listing marks row) < length before = omega arith in
    record {
      counted = counted_marked p.counted h e;
      size = simp length-set s;
      front = ap (λ (k : ℕ). set out k v) n
          ∙ ap (λ (l : List ℕ). set l (length (listing marks row)) v) p.front
          ∙ next_put (listing marks row) before v low
          ∙ ap (λ (w : ℕ). (listing marks row ++ (w ∷ [])) ++ drop (length (listing marks row ++ (w ∷ []))) before) f
          ∙ ap (λ (l : List ℕ). l ++ drop (length l) before) (sym (listing_marked marks row e));
    }

put_skipped : {marks before out : List ℕ} {count used row : ℕ} → Put marks before out count used row → row < count → get_or marks (row + 1) 0 ≢ 1
    → Put marks before out count used (row + 1)
put_skipped {marks} {before} {out} {row = row} p h e =
    record {
      counted = counted_skipped p.counted h e;
      size = p.size;
      front = p.front ∙ ap (λ (l : List ℕ). l ++ drop (length l) before) (sym (listing_skipped marks row e));
    }

-- The same, of a row `row` that follows those up to `last`.
module _ {marks before out : List ℕ} {count used row last : ℕ} (p : Put marks before out count used last) (e : row ≡ last + 1) (h : row ≤ count) where
  pub room_at : get_or marks row 0 ≡ 1 → length (listing marks count) ≤ length before → used < length out
  room_at m room = put_room p (omega arith) (rw e at m) room

  pub marked_at : get_or marks row 0 ≡ 1 → length (listing marks count) ≤ length before → Put marks before (set out used row) count (used + 1) row
  marked_at m room = rw e (put_marked p (omega arith) (rw e at m) room refl)

  pub skipped_at : get_or marks row 0 ≢ 1 → Put marks before out count used row
  skipped_at m = rw e (put_skipped p (omega arith) (rw e at m))

pub put_all : {marks before out : List ℕ} {count used row : ℕ} → Put marks before out count used row → count ≤ row
    → out ≡ listing marks count ++ drop (length (listing marks count)) before
put_all {marks} {before} {out} {count} {row = row} p h =
    let high = p.counted.high in
    let e : row ≡ count = omega arith in
    p.front ∙ ap (λ (n : ℕ). listing marks n ++ drop (length (listing marks n)) before) e

-- Where the items of a stick begin.
-- Assumes nothing.
use Prim.Native.Nat.{ℕ, zero, suc, ◌+◌, ◌-◌, ◌≤◌, ◌<◌}
use mathlib.Core.Path.{◌≡◌, refl, sym, ap, subst, ◌∙◌}
use mathlib.Core.Bool.{Bool}
use mathlib.Core.List.{List, [], ◌∷◌, ◌++◌}
use mathlib.Core.Logic.{⊎_elim}
use native.Mathlib.Omega.{arith}
use native.Mathlib.Nat.{eq-or-lt_of_le}
use lib.ListN.{length, take, drop, get_or, set, length-drop, length-append}
use lib.Seq.{get_or-drop, get_or-set_same, get_or-set_other, drop-drop, take-append_seam, drop-append_seam, length-take-le}
use Rattle.cutting.specs.Cutting.{size_of, CutOff, items_of, joined}
use Rattle.cutting.proofs.Items.{Counted, cut_ahead, counted_more, items_cut, items_joined}
use Rattle.rescue.specs.Greedy.{item_of}
use Rattle.salvage.specs.Marks.{total, begin_of, BeginsIn}
use Rattle.salvage.proofs.Totals.{total_none, total_more}

-- Behind one item more.
begin_cons : (i : List ℕ) (is : List (List ℕ)) (p : ℕ) → begin_of (i ∷ is) (suc p) ≡ length i + begin_of is p
unfolding total
begin_cons i is zero = omega arith
begin_cons i is (suc p) = let e = begin_cons i is p in omega arith

-- Every item begins within all of them joined,
begin_within : (is : List (List ℕ)) (p : ℕ) → p ≤ length is → begin_of is p ≤ length (joined is)
unfolding total joined
begin_within is zero h = omega arith
begin_within [] (suc p) h = absurd (omega arith)
begin_within (i ∷ is) (suc p) h = omega (arith, begin_cons i is p, begin_within is p (omega arith), length-append i (joined is))

-- and lies there.
part_joined : (is : List (List ℕ)) (p : ℕ) → p < length is → take (length (item_of is p)) (drop (begin_of is p) (joined is)) ≡ item_of is p
unfolding total joined
part_joined [] p h = absurd (omega arith)
part_joined (i ∷ is) zero h = take-append_seam i (joined is)
part_joined (i ∷ is) (suc p) h =
    let d : drop (begin_of (i ∷ is) (suc p)) (i ++ joined is) ≡ drop (begin_of is p) (joined is) =
    ap (λ (n : ℕ). drop n (i ++ joined is)) (begin_cons i is p)
    ∙ sym (drop-drop (begin_of is p) (length i) (i ++ joined is))
    ∙ ap (drop (begin_of is p)) (drop-append_seam i (joined is)) in
    ap (take (length (item_of is p))) d ∙ part_joined is p (omega arith)

-- The bytes between two beginnings of a stick are the item.
pub part_item : (s : List ℕ) (p at end : ℕ) → p < length (items_of s) → at ≡ begin_of (items_of s) p → end ≡ begin_of (items_of s) (p + 1)
    → take (end - at) (drop at s) ≡ item_of (items_of s) p
part_item s p at end h e f =
    let m = total_more (λ (q : ℕ). length (item_of (items_of s) q)) p in
    let z : end - at ≡ length (item_of (items_of s) p) = omega arith in
    let j = part_joined (items_of s) p h in
    let k : take (length (item_of (items_of s) p)) (drop (begin_of (items_of s) p) s) ≡ item_of (items_of s) p =
    subst (λ (b : List ℕ). take (length (item_of (items_of s) p)) (drop (begin_of (items_of s) p) b) ≡ item_of (items_of s) p) (items_joined s) j in
    ap (λ (n : ℕ). take n (drop at s)) z ∙ ap (λ (n : ℕ). take (length (item_of (items_of s) p)) (drop n s)) e ∙ k

-- It has so many bytes, and ends within the stick.
pub part_size : (s : List ℕ) (p at end : ℕ) → at ≡ begin_of (items_of s) p → end ≡ begin_of (items_of s) (p + 1) → end ≡ at + length (item_of (items_of s) p)
part_size s p at end e f = omega (arith, total_more (λ (q : ℕ). length (item_of (items_of s) q)) p)

pub end_within : (s : List ℕ) (p : ℕ) → p ≤ length (items_of s) → begin_of (items_of s) p ≤ length s
end_within s p h = omega (arith, begin_within (items_of s) p h, ap length (items_joined s))

-- What the table gives of an item: it lies within the stick, and its bytes are there.
pub record Laid (s : List ℕ) (p at end : ℕ) : Type 0 where
  pub forward : at ≤ end
  pub inside : end ≤ length s
  pub bytes : take (end - at) (drop at s) ≡ item_of (items_of s) p

pub laid_item : (s begins : List ℕ) (n p : ℕ) → BeginsIn s begins n → p < n → Laid s p (get_or begins p 0) (get_or begins (p + 1) 0)
laid_item s begins n p b h =
    let a : n ≡ length (items_of s) = b.all in
    let e = b.table.begin p (omega arith) in
    let f = b.table.begin (p + 1) (omega arith) in
    let z = part_size s p (get_or begins p 0) (get_or begins (p + 1) 0) e f in
    record {
      forward = omega arith;
      inside = omega (arith, end_within s (p + 1) (omega arith));
      bytes = part_item s p (get_or begins p 0) (get_or begins (p + 1) 0) (omega arith) e f;
    }

-- An item below the number of a table's items may be taken.
pub may_take : (s begins : List ℕ) (n p : ℕ) → BeginsIn s begins n → p < n → (p < length (items_of s)) × BeginsIn s begins (length (items_of s))
may_take s begins n p b h = (omega (arith, b.all), subst (BeginsIn s begins) b.all b)

-- So many items are passed, up to a place.
pub record Reached (s : List ℕ) (at k : ℕ) : Type 0 where
  pub counted : Counted s at k
  pub place : at ≡ begin_of (items_of s) k
  pub rest : items_of (drop at s) ≡ drop k (items_of s)

pub reached_none : (s : List ℕ) → Reached s 0 0
reached_none s =
    record {
      counted = record { inside = omega arith; fewer = omega arith; all = omega arith };
      place = sym (total_none (λ (q : ℕ). length (item_of (items_of s) q)));
      rest = refl;
    }

-- The head and the tail of what is left of a list.
head_left : (is : List (List ℕ)) (k : ℕ) (x : List ℕ) (ys : List (List ℕ)) → drop k is ≡ x ∷ ys → (get_or is k [] ≡ x) × (drop (k + 1) is ≡ ys)
head_left is k x ys e = (
  ap (λ (n : ℕ). get_or is n []) (let z : k ≡ k + 0 = omega arith in z) ∙ sym (get_or-drop k is 0 []) ∙ ap (λ (l : List (List ℕ)). get_or l 0 []) e,
  sym (drop-drop 1 k is) ∙ ap (drop 1) e,
)

-- One item more is passed.
pub reached_more : (s : List ℕ) (at k size : ℕ) (whole : Bool) → at < length s → CutOff (take (length s - at) (drop at s)) size whole → Reached s at k
    → Reached s (at + size) (k + 1)
reached_more s at k size whole h c r =
    let m = cut_ahead s at size whole h c in
    let l : length (drop at s) ≡ length s - at = length-drop at s in
    let n : length (take size (drop at s)) ≡ size = length-take-le size (drop at s) (omega (arith, m.1.1)) in
    let d : drop (at + size) s ≡ drop size (drop at s) = sym (drop-drop size at s) in
    let q : items_of (drop at s) ≡ take size (drop at s) ∷ items_of (drop (at + size) s) =
    items_cut (drop at s) (omega arith)
    ∙ ap (λ (x : ℕ). take x (drop at s) ∷ items_of (drop x (drop at s))) (sym m.0)
    ∙ ap (λ (x : List ℕ). take size (drop at s) ∷ items_of x) (sym d) in
    let z = head_left (items_of s) k (take size (drop at s)) (items_of (drop (at + size) s)) (sym r.rest ∙ q) in
    let y : length (item_of (items_of s) k) ≡ size = ap length z.0 ∙ n in
    let b = total_more (λ (p : ℕ). length (item_of (items_of s) p)) k in
    let a : at ≡ begin_of (items_of s) k = r.place in
    record { counted = counted_more s at k size whole h c r.counted; place = omega arith; rest = sym z.1 }

-- There is an item where bytes are left.
pub reached_below : (s : List ℕ) (at k : ℕ) → at < length s → Reached s at k → k < length (items_of s)
reached_below s at k h r =
    let l : length (drop at s) ≡ length s - at = length-drop at s in
    let m : length (items_of (drop at s)) ≡ suc (length (items_of (drop (size_of (drop at s)) (drop at s)))) = ap length (items_cut (drop at s) (omega arith)) in
    let a : k + length (items_of (drop at s)) ≡ length (items_of s) = r.counted.all in
    omega arith

-- The first beginning, and one more.
pub begins_first : (is : List (List ℕ)) (b : List ℕ) → 0 < length b → (p : ℕ) → p ≤ 0 → get_or (set b 0 0) p 0 ≡ begin_of is p
begins_first is b h p k =
    let z : p ≡ 0 = omega arith in
    rw z (get_or-set_same b 0 0 0 h ∙ sym (total_none (λ (q : ℕ). length (item_of is q))))

pub begins_more : (is : List (List ℕ)) (b : List ℕ) (k at : ℕ) → k + 1 < length b → at ≡ begin_of is (k + 1)
    → ((p : ℕ) → p ≤ k → get_or b p 0 ≡ begin_of is p) → (p : ℕ) → p ≤ k + 1 → get_or (set b (k + 1) at) p 0 ≡ begin_of is p
begins_more is b k at h e g p l =
    ⊎_elim
    (λ (z : p ≡ k + 1). rw z (get_or-set_same b (k + 1) at 0 h ∙ e))
    (λ (z : p < k + 1). get_or-set_other b (k + 1) p at 0 (λ y. omega arith) ∙ g p (omega arith))
    (eq-or-lt_of_le l)

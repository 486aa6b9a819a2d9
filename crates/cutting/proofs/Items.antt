-- The laws of an intake's items.
-- Assumes nothing.
use Prim.Native.Nat.{ℕ, zero, suc, ◌+◌, ◌-◌, ◌≤◌, ◌<◌}
use mathlib.Core.Path.{◌≡◌, refl, sym, ap, subst, ◌∙◌}
use mathlib.Core.Bool.{Bool, true, false}
use mathlib.Core.List.{List, [], ◌∷◌, ◌++◌}
use mathlib.Core.Logic.{⊎_elim}
use native.Mathlib.Omega.{arith}
use lib.ListN.{length, take, drop, length-drop, take-append-drop, drop_of_length-le, get_or-append}
use lib.Seq.{take_all, drop-drop}
use Rattle.basics.proofs.Prefixes.{rest_all}
use Rattle.basics.proofs.Tests.{by_pick, true_or_false, not_both_ways}
use Rattle.item.specs.Little.{le16, le32}
use Rattle.item.specs.Layout.{length_of}
use Rattle.cutting.specs.Cutting.{starts_whole, size_of, CutOff, FallsInto, items_within, items_of, joined}

-- An item of some bytes has a byte or more.
pub size_some : (s : List ℕ) → 1 ≤ length s → 1 ≤ size_of s
size_some s h = by_pick (λ (n : ℕ). 1 ≤ n) (starts_whole s) (4 + length_of s) (length s) (λ e. omega arith) (λ e. h)

-- Fewer bytes are left behind an item.
pub fewer_left : (s : List ℕ) → 1 ≤ length s → length (drop (size_of s) s) < length s
fewer_left s h = omega (arith, length-drop (size_of s) s, size_some s h)

-- As many items as one may ask for, there are no more than bytes.
fuel_enough : (n m : ℕ) (s : List ℕ) → length s ≤ n → length s ≤ m → items_within n s ≡ items_within m s
unfolding items_within
fuel_enough zero zero s h k = refl
fuel_enough zero (suc m) [] h k = refl
fuel_enough zero (suc m) (b ∷ s) h k = absurd (omega arith)
fuel_enough (suc n) zero [] h k = refl
fuel_enough (suc n) zero (b ∷ s) h k = absurd (omega arith)
fuel_enough (suc n) (suc m) [] h k = refl
fuel_enough (suc n) (suc m) (b ∷ s) h k =
    let l = fewer_left (b ∷ s) (omega arith) in
    ap (λ (is : List (List ℕ)). take (size_of (b ∷ s)) (b ∷ s) ∷ is)
    (fuel_enough n m (drop (size_of (b ∷ s)) (b ∷ s)) (omega (arith, l)) (omega (arith, l)))

-- Where no bytes are left there are no items.
pub items_none : (s : List ℕ) → length s ≤ 0 → [] ≡ items_of s
unfolding items_within
items_none [] h = refl
items_none (b ∷ s) h = absurd (omega arith)

-- The items of some bytes are the first one, and those of the bytes behind it.
pub items_cut : (s : List ℕ) → 1 ≤ length s → items_of s ≡ take (size_of s) s ∷ items_of (drop (size_of s) s)
unfolding items_within
items_cut [] h = absurd (omega arith)
items_cut (b ∷ s) h =
    let l = fewer_left (b ∷ s) h in
    ap (λ (is : List (List ℕ)). take (size_of (b ∷ s)) (b ∷ s) ∷ is)
    (fuel_enough (length s) (length (drop (size_of (b ∷ s)) (b ∷ s))) (drop (size_of (b ∷ s)) (b ∷ s)) (omega (arith, l)) (omega arith))

-- What holds of no bytes, and of some bytes where it holds of those behind their first item, holds of all.
pub by_items : (P : List ℕ → List (List ℕ) → Type 0) → P [] []
    → ((s : List ℕ) → 1 ≤ length s → P (drop (size_of s) s) (items_of (drop (size_of s) s)) → P s (take (size_of s) s ∷ items_of (drop (size_of s) s)))
    → (s : List ℕ) → P s (items_of s)
unfolding items_within
by_items P e f s = go (length s) s (omega arith)
  where
    go : (n : ℕ) (s : List ℕ) → length s ≤ n → P s (items_of s)
    go zero [] h = e
    go (suc n) [] h = e
    go zero (b ∷ s) h = absurd (omega arith)
    go (suc n) (b ∷ s) h =
        let l = fewer_left (b ∷ s) (omega arith) in
        subst (λ (is : List (List ℕ)). P (b ∷ s) is) (sym (items_cut (b ∷ s) (omega arith)))
        (f (b ∷ s) (omega arith) (go n (drop (size_of (b ∷ s)) (b ∷ s)) (omega (arith, l))))

-- Joined, the items are the bytes.
pub items_joined : (s : List ℕ) → joined (items_of s) ≡ s
unfolding joined
items_joined =
    by_items (λ (s : List ℕ) (is : List (List ℕ)). joined is ≡ s) refl
    (λ (s : List ℕ) (h : 1 ≤ length s) (e : joined (items_of (drop (size_of s) s)) ≡ drop (size_of s) s).
    ap (λ (r : List ℕ). take (size_of s) s ++ r) e ∙ take-append-drop (size_of s) s)

-- A whole item has a byte or more.
pub whole_some : (s : List ℕ) → starts_whole s ≡ true → 1 ≤ length s
whole_some [] e = let z : true ≡ false = sym e in absurd (not_both_ways true refl z)
whole_some (b ∷ s) e = omega arith

-- Bytes that do not begin with a whole item are one item, and nothing is behind it.
broken_all : (s : List ℕ) → starts_whole s ≡ false → take (size_of s) s ∷ items_of (drop (size_of s) s) ≡ s ∷ []
unfolding items_within
broken_all s e =
    let z : size_of s ≡ length s = rw e in
    rw (z, take_all (length s) s (omega arith), drop_of_length-le s {i = length s} (omega arith))

-- The items are those that the bytes fall into,
pub items_fall : (s : List ℕ) → FallsInto s (items_of s)
items_fall =
    by_items FallsInto FallsInto.ended
    (λ (s : List ℕ) (h : 1 ≤ length s) (f : FallsInto (drop (size_of s) s) (items_of (drop (size_of s) s))).
    ⊎_elim (λ (e : starts_whole s ≡ true). FallsInto.whole s (items_of (drop (size_of s) s)) e f)
    (λ (e : starts_whole s ≡ false). subst (FallsInto s) (sym (broken_all s e)) (FallsInto.broken s h e)) (true_or_false (starts_whole s)))

-- and no others.
pub falls_once : {s : List ℕ} {is : List (List ℕ)} → FallsInto s is → is ≡ items_of s
unfolding items_within
falls_once FallsInto.ended = refl
falls_once (FallsInto.whole s is e f) =
    ap (λ (r : List (List ℕ)). take (size_of s) s ∷ r) (falls_once f) ∙ sym (items_cut s (whole_some s e))
falls_once (FallsInto.broken s h e) = sym (items_cut s h ∙ broken_all s e)

-- The length of an item is in its first four bytes, whatever follows it.
pub same_length : (i r : List ℕ) → 4 ≤ length i → length_of (i ++ r) ≡ length_of i
unfolding le32 le16
same_length i r h =
    rw (
      get_or-append i r 0 0 (omega arith),
      get_or-append i r 0 1 (omega arith),
      get_or-append i r 0 2 (omega arith),
      get_or-append i r 0 3 (omega arith),
    )

-- So many items stand before a place, and those of the bytes from it on are the rest of all.
pub record Counted (s : List ℕ) (at n : ℕ) : Type 0 where
  pub inside : at ≤ length s
  pub fewer : n ≤ at
  pub all : n + length (items_of (drop at s)) ≡ length (items_of s)

-- The cut from a place on has a byte or more, and ends within the bytes.
pub cut_ahead : (s : List ℕ) (at size : ℕ) (whole : Bool) → at < length s → CutOff (take (length s - at) (drop at s)) size whole
    → (size ≡ size_of (drop at s)) × ((1 ≤ size) × (at + size ≤ length s))
cut_ahead s at size whole h c =
    let l : length (drop at s) ≡ length s - at = length-drop at s in
    let r : CutOff (drop at s) size whole = subst (λ (left : List ℕ). CutOff left size whole) (rest_all at s) c in
    let e : size ≡ size_of (drop at s) = r.size in
    let i : size ≤ length (drop at s) = r.inside in
    let p : 1 ≤ size_of (drop at s) = size_some (drop at s) (omega arith) in
    (e, (rw e p, omega arith))

-- Fewer bytes are left behind it.
pub left_less : (s : List ℕ) (at size : ℕ) (whole : Bool) → at < length s → CutOff (take (length s - at) (drop at s)) size whole
    → length s - (at + size) < length s - at
left_less s at size whole h c = omega (arith, (cut_ahead s at size whole h c).1)

-- One item more is counted, up to its end.
pub counted_on : (s : List ℕ) (at n end : ℕ) → at < length s → end ≡ at + size_of (drop at s) → end ≤ length s → at < end
    → Counted s at n → Counted s end (n + 1)
counted_on s at n end h b i o k =
    let l : length (drop at s) ≡ length s - at = length-drop at s in
    let g : length (items_of (drop at s)) ≡ suc (length (items_of (drop (size_of (drop at s)) (drop at s)))) = ap length (items_cut (drop at s) (omega arith)) in
    let d : drop end s ≡ drop (size_of (drop at s)) (drop at s) = ap (λ (x : ℕ). drop x s) b ∙ sym (drop-drop (size_of (drop at s)) at s) in
    let m : length (items_of (drop end s)) ≡ length (items_of (drop (size_of (drop at s)) (drop at s))) = ap (λ (r : List ℕ). length (items_of r)) d in
    let f : n ≤ at = k.fewer in
    let a : n + length (items_of (drop at s)) ≡ length (items_of s) = k.all in
    record { inside = i; fewer = omega arith; all = omega arith }

-- The same of a cut.
pub counted_more : (s : List ℕ) (at n size : ℕ) (whole : Bool) → at < length s → CutOff (take (length s - at) (drop at s)) size whole → Counted s at n
    → Counted s (at + size) (n + 1)
counted_more s at n size whole h c k =
    let e = cut_ahead s at size whole h c in
    counted_on s at n (at + size) h (ap (λ (x : ℕ). at + x) e.0) e.1.1 (omega (arith, e.1.0)) k

-- Where nothing is left all are counted.
pub counted_all : (s : List ℕ) (at n : ℕ) → length s ≤ at → Counted s at n → n ≡ length (items_of s)
counted_all s at n h k =
    let e : length (items_of (drop at s)) ≡ 0 = sym (ap length (items_none (drop at s) (omega (arith, length-drop at s)))) in
    let a : n + length (items_of (drop at s)) ≡ length (items_of s) = k.all in
    omega arith

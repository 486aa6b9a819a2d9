-- Whole items, whatever follows them, and the front of an intake against all of it.
-- Assumes nothing.
use Prim.Native.Nat.{ℕ, ◌+◌, ◌-◌, ◌≤◌}
use mathlib.Core.Path.{◌≡◌, refl, sym, ap, ◌∙◌}
use mathlib.Core.Bool.{Bool, true, false}
use mathlib.Core.List.{List, [], ◌∷◌, ◌++◌, append_assoc, append-nil}
use native.Mathlib.Omega.{arith}
use borrow.Author.Tests.{le-leb, leb-true}
use lib.ListN.{length, take, drop, length-drop, length-append, take-append-drop}
use lib.Seq.{length-take-le, take-append_seam, drop-append_seam}
use lib.Dec.{leb}
use Rattle.basics.specs.Pick.{pick, both}
use Rattle.basics.proofs.Tests.{by_leb, both_left, both_right}
use Rattle.item.specs.Layout.{length_of}
use Rattle.item.specs.Offsets.{length_limit, largest_item}
use Rattle.cutting.specs.Cutting.{starts_whole, size_of, items_within, items_of, joined, IsWhole, AllWhole}
use Rattle.cutting.proofs.Items.{same_length, whole_some, items_cut, items_none}

-- A whole item starts whole, and is as long, whatever follows it.
pub whole_with : (i r : List ℕ) → IsWhole i → (starts_whole (i ++ r) ≡ true) × (size_of (i ++ r) ≡ length i)
whole_with i r w =
    let b = w.starts in
    let four : 4 ≤ length i = leb-true 4 (length i) (both_left _ _ b) in
    let rest = both_right (leb 4 (length i)) (both (leb (length_of i) length_limit) (leb (4 + length_of i) (length i))) b in
    let low : length_of i ≤ length_limit = leb-true (length_of i) length_limit (both_left _ _ rest) in
    let e : length_of (i ++ r) ≡ length_of i = same_length i r four in
    let z : 4 + length_of i ≡ length i = ap (λ (t : Bool). pick t (4 + length_of i) (length i)) (sym b) ∙ w.ends in
    let l : length (i ++ r) ≡ length i + length r = length-append i r in
    let t : starts_whole (i ++ r) ≡ true =
    rw (
      e,
      le-leb 4 (length (i ++ r)) (omega arith),
      le-leb (length_of i) length_limit low,
      le-leb (4 + length_of i) (length (i ++ r)) (omega arith),
    ) in
    (t, ap (λ (u : Bool). pick u (4 + length_of (i ++ r)) (length (i ++ r))) t ∙ ap (λ (n : ℕ). 4 + n) e ∙ z)

-- Whole items and any bytes behind them fall into just these, and the items of those bytes.
pub whole_first : {is : List (List ℕ)} → AllWhole is → (r : List ℕ) → items_of (joined is ++ r) ≡ is ++ items_of r
unfolding joined
whole_first AllWhole.none r = refl
whole_first (AllWhole.more i is w ws) r =
    let z = joined is ++ r in
    let p = whole_with i z w in
    ap items_of (append_assoc i (joined is) r)
    ∙ items_cut (i ++ z) (whole_some (i ++ z) p.0)
    ∙ ap (λ (n : ℕ). take n (i ++ z) ∷ items_of (drop n (i ++ z))) p.1
    ∙ rw (take-append_seam i z, drop-append_seam i z, whole_first ws r)

-- Whole items joined fall into just these.
pub whole_apart : {is : List (List ℕ)} → AllWhole is → items_of (joined is) ≡ is
unfolding items_within
whole_apart {is} w = ap items_of (sym (append-nil (joined is))) ∙ whole_first w [] ∙ append-nil is

-- One whole item more.
pub all_whole_more : {is : List (List ℕ)} → AllWhole is → (i : List ℕ) → IsWhole i → AllWhole (is ++ (i ∷ []))
all_whole_more AllWhole.none i w = AllWhole.more i [] w AllWhole.none
all_whole_more (AllWhole.more j is v vs) i w = AllWhole.more j (is ++ (i ∷ [])) v (all_whole_more vs i w)

-- One item more joined.
pub joined_more : (is : List (List ℕ)) (i : List ℕ) → joined (is ++ (i ∷ [])) ≡ joined is ++ i
unfolding joined
joined_more [] i = append-nil i
joined_more (j ∷ is) i = ap (λ (r : List ℕ). j ++ r) (joined_more is i) ∙ sym (append_assoc j (joined is) i)

-- What is cut off as a whole item is one.
pub cut_is_whole : (s : List ℕ) → starts_whole s ≡ true → IsWhole (take (size_of s) s)
cut_is_whole s b =
    let n = 4 + length_of s in
    let rest = both_right (leb 4 (length s)) (both (leb (length_of s) length_limit) (leb n (length s))) b in
    let low : length_of s ≤ length_limit = leb-true (length_of s) length_limit (both_left _ _ rest) in
    let all : n ≤ length s = leb-true n (length s) (both_right (leb (length_of s) length_limit) (leb n (length s)) rest) in
    let z : size_of s ≡ n = ap (λ (t : Bool). pick t n (length s)) b in
    let i = take n s in
    let l : length i ≡ n = length-take-le n s all in
    let e : length_of i ≡ length_of s = sym (same_length i (drop n s) (omega arith)) ∙ ap length_of (take-append-drop n s) in
    let t : starts_whole i ≡ true = rw (e, l, le-leb 4 n (omega arith), le-leb (length_of s) length_limit low, le-leb n n (omega arith)) in
    let w : IsWhole i =
    record { starts = t; ends = ap (λ (u : Bool). pick u (4 + length_of i) (length i)) t ∙ ap (λ (m : ℕ). 4 + m) e ∙ sym l } in
    rw z w

-- A front as long as the largest item tells whether the intake begins with a whole item.
pub front_starts : (s r : List ℕ) → largest_item ≤ length s → starts_whole (s ++ r) ≡ starts_whole s
front_starts s r h =
    let e : length_of (s ++ r) ≡ length_of s = same_length s r (omega arith) in
    let l : length (s ++ r) ≡ length s + length r = length-append s r in
    rw (e, le-leb 4 (length (s ++ r)) (omega arith), le-leb 4 (length s) (omega arith))
    (by_leb (λ t. both t (leb (4 + length_of s) (length (s ++ r))) ≡ both t (leb (4 + length_of s) (length s))) (length_of s) length_limit
    (λ k. rw (le-leb (4 + length_of s) (length (s ++ r)) (omega arith), le-leb (4 + length_of s) (length s) (omega arith))) (λ k. refl))

-- and where it does, the item is the front's.
pub front_item : (s r : List ℕ) → largest_item ≤ length s → starts_whole s ≡ true → take (size_of (s ++ r)) (s ++ r) ≡ take (size_of s) s
front_item s r h b =
    let w = cut_is_whole s b in
    let i = take (size_of s) s in
    let z : s ++ r ≡ i ++ (drop (size_of s) s ++ r) =
    ap (λ (x : List ℕ). x ++ r) (sym (take-append-drop (size_of s) s)) ∙ append_assoc i (drop (size_of s) s) r in
    ap (λ (x : List ℕ). take (size_of x) x) z
    ∙ ap (λ (n : ℕ). take n (i ++ (drop (size_of s) s ++ r))) (whole_with i (drop (size_of s) s ++ r) w).1
    ∙ take-append_seam i (drop (size_of s) s ++ r)

-- Some bytes that do not begin with a whole item are one item.
pub broken_last : (s : List ℕ) → 1 ≤ length s → starts_whole s ≡ false → items_of s ≡ take (size_of s) s ∷ []
broken_last s h b =
    let z : size_of s ≡ length s = ap (λ (t : Bool). pick t (4 + length_of s) (length s)) b in
    let d : length (drop (size_of s) s) ≡ length s - size_of s = length-drop (size_of s) s in
    items_cut s h ∙ ap (λ (is : List (List ℕ)). take (size_of s) s ∷ is) (sym (items_none (drop (size_of s) s) (omega arith)))

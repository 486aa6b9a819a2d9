-- Two lists that agree up to a place, and a list into which another was copied.
-- Assumes nothing.
use Prim.Native.Nat.{ℕ, zero, suc, ◌+◌, ◌-◌, ◌≤◌, ◌<◌}
use mathlib.Core.Path.{◌≡◌, refl, sym, ap, ◌∙◌}
use mathlib.Core.List.{List, [], ◌∷◌, ◌++◌, append_assoc}
use native.Mathlib.Omega.{arith}
use native.Mathlib.Nat.{add-sub_of_le, suc-add, zero-add}
use lib.ListN.{length, take, drop, get_or, length-drop, drop_of_length-le}
use lib.Seq.{take-take, take-nil, get_or-take, take_at, drop_at, drop-drop, length-take-le, take-add, take_all, paste, drop-paste}

module _ {A : Type 0} where
  -- What agrees up to n agrees up to every place before.
  pub shorter_prefix : (n m : ℕ) (s t : List A) → m ≤ n → take n s ≡ take n t → take m s ≡ take m t
  shorter_prefix n m s t h e = sym (take-take m n s h) ∙ ap (take m) e ∙ take-take m n t h

  -- What agrees up to n has the same element at every place before n.
  pub prefix_get_d : (n i : ℕ) (s t : List A) (d : A) → i < n → take n s ≡ take n t → get_or s i d ≡ get_or t i d
  prefix_get_d n i s t d h e = sym (get_or-take n s i d h) ∙ ap (λ (l : List A). get_or l i d) e ∙ get_or-take n t i d h

  -- What is dropped up to n is dropped of the rest from m on, for m at most n.
  pub drop_rest : (n m : ℕ) (s t : List A) → m ≤ n → drop m s ≡ drop m t → drop n s ≡ drop n t
  drop_rest n m s t h e =
      let p : m + (n - m) ≡ n = add-sub_of_le h in
      let f : drop (m + (n - m)) s ≡ drop (m + (n - m)) t = sym (drop-drop (n - m) m s) ∙ ap (drop (n - m)) e ∙ drop-drop (n - m) m t in
      rw p at f

  -- A part of a list, cut at its end first or at its start first.
  pub drop_of_take : (i k : ℕ) (s : List A) → drop i (take (i + k) s) ≡ take k (drop i s)
  drop_of_take zero k s = rw zero-add refl
  drop_of_take (suc i) k [] = rw suc-add (sym (take-nil k))
  drop_of_take (suc i) k (x ∷ s) = rw suc-add (drop_of_take i k s)

  -- Lists that agree up to n have the same parts there.
  pub part_of_prefix : (n k i : ℕ) (s t : List A) → i + k ≤ n → take n s ≡ take n t → take k (drop i s) ≡ take k (drop i t)
  part_of_prefix n k i s t h e = sym (drop_of_take i k s) ∙ ap (drop i) (shorter_prefix n (i + k) s t h e) ∙ drop_of_take i k t

  -- A copy to a place leaves all before it.
  pub before_paste : (d : List A) (at : ℕ) (s : List A) (n m : ℕ) → at ≤ length d → m ≤ at → take m (paste d at s n) ≡ take m d
  before_paste d at s n m h k =
      shorter_prefix at m (paste d at s n) d k
      (ap (take at) (append_assoc (take at d) (take n s) (drop (at + n) d)) ∙ take_at (take at d) (take n s ++ drop (at + n) d) at (length-take-le at d h))

  -- A copy of n elements to a place leaves all from n places on.
  pub after_paste : (d : List A) (at : ℕ) (s : List A) (n m : ℕ)
      → at ≤ length d → n ≤ length s → at + n ≤ m → drop m (paste d at s n) ≡ drop m d
  after_paste d at s n m h k j = drop_rest m (at + n) (paste d at s n) d j (drop-paste d at s n h k)

  -- What was copied stands at its place.
  pub at_paste : (d : List A) (at : ℕ) (s : List A) (n : ℕ) → at ≤ length d → n ≤ length s → take n (drop at (paste d at s n)) ≡ take n s
  at_paste d at s n h k =
      ap (λ (l : List A). take n (drop at l)) (append_assoc (take at d) (take n s) (drop (at + n) d))
      ∙ ap (take n) (drop_at (take at d) (take n s ++ drop (at + n) d) at (length-take-le at d h))
      ∙ take_at (take n s) (drop (at + n) d) n (length-take-le n s k)

  -- A copy of the first `used` elements of `w` to the start, continued by the elements that follow in `w`.
  pub paste_more : (d w : List A) (used : ℕ) (t out out' : List A) → out ≡ paste d 0 w used → out' ≡ paste out used t (length t)
      → take (length t) (drop used w) ≡ t → used + length t ≤ length w → length w ≤ length d → out' ≡ paste d 0 w (used + length t)
  paste_more d w used t out out' e f g h k =
      let l : length (take used w) ≡ used = length-take-le used w (omega arith) in
      let p : take used out ≡ take used w = ap (take used) e ∙ take_at (take used w) (drop (0 + used) d) used l in
      let q : drop used out ≡ drop used d = ap (drop used) e ∙ drop_at (take used w) (drop (0 + used) d) used l ∙ ap (λ i. drop i d) (zero-add used) in
      let r : drop (used + length t) out ≡ drop (used + length t) d = sym (drop-drop (length t) used out) ∙ ap (drop (length t)) q ∙ drop-drop
      (length t) used d in
      let a : take (length t) t ≡ t = take_all (length t) t (omega arith) in
      let b : take (used + length t) w ≡ take used w ++ t = take-add used (length t) w ∙ ap (λ i. take used w ++ i) g in
      f ∙ rw (p, a, r, b, zero-add)

  -- From the end of a list on there is nothing.
  pub rest_none : (i : ℕ) (s : List A) → length s ≤ i → [] ≡ drop i s
  rest_none i s h = sym (drop_of_length-le s h)

  -- All that is left of a list.
  pub rest_all : (i : ℕ) (s : List A) → take (length s - i) (drop i s) ≡ drop i s
  rest_all i s = take_all (length s - i) (drop i s) (omega (arith, length-drop i s))

-- The loop that admits each item: what is left of the stretch decides the rest.
-- Assumes nothing.
use Prim.Native.Nat.{ℕ, suc, ◌+◌, ◌*◌, ◌-◌, ◌/◌, ◌≤◌, ◌<◌}
use mathlib.Core.Path.{◌≡◌, refl, sym, ap, subst, ◌∙◌}
use mathlib.Core.Bool.{Bool}
use mathlib.Core.List.{List, [], ◌∷◌, ◌++◌, append_assoc, append-nil}
use native.Mathlib.Omega.{arith}
use lib.ListN.{length, take, drop, set, length-drop, length-set, take-append-drop}
use lib.Seq.{take-suc-set, drop-set-lt, drop-drop}
use Rattle.basics.proofs.Prefixes.{drop_rest}
use Rattle.cutting.specs.Cutting.{size_of, CutOff, items_of}
use Rattle.cutting.proofs.Items.{Counted, cut_ahead, counted_on, counted_all, items_cut, items_none}
use Rattle.admission.specs.declared.Admitted.{Admitted}
use Rattle.admission.specs.Answer.{answer_number, answer_row}
use Rattle.origins.specs.Origins.{JudgedFrom, sound}
use Rattle.origins.proofs.Theorems.{from_keeps}
use Rattle.morning.specs.Intake.{Kept, Sound, answer_put, answer_to, kept_after, kept_after_all, answers_to, item_at, Next, Each}

-- The first `n` items of a stretch are admitted and listed: what is kept is sound, and what the items from here on give is what all gave.
pub record Going (k : Kept) (g : ℕ) (s l : List ℕ) (at n : ℕ) (k' : Kept) (l' : List ℕ) : Type 0 where
  pub well : Sound k'
  pub counted : Counted s at n
  pub kept : kept_after_all k' g (items_of (drop at s)) ≡ kept_after_all k g (items_of s)
  pub size : length l' ≡ length l
  pub list : take (2 * n) l' ++ answers_to k' g (items_of (drop at s)) ≡ answers_to k g (items_of s)
  pub beyond : drop (2 * n) l' ≡ drop (2 * n) l

-- Before the first item.
pub going_first : (k : Kept) (g : ℕ) (s l : List ℕ) → Sound k → Going k g s l 0 0 k l
going_first k g s l w =
    record {
      well = w;
      counted = record { inside = omega arith; fewer = omega arith; all = omega arith };
      kept = refl;
      size = refl;
      list = refl;
      beyond = refl;
    }

-- An item is left, so its places are within a list that has room for all.
pub going_room : (k : Kept) (g : ℕ) (s l : List ℕ) (at n : ℕ) (k' : Kept) (l' : List ℕ) → Going k g s l at n k' l' → at < length s
    → 2 * length (items_of s) ≤ length l → 2 * n + 1 < length l'
going_room k g s l at n k' l' going h r =
    let d : length (drop at s) ≡ length s - at = length-drop at s in
    let m : length (items_of (drop at s)) ≡ suc (length (items_of (drop (size_of (drop at s)) (drop at s)))) = ap length (items_cut (drop at s) (omega arith)) in
    let a : n + length (items_of (drop at s)) ≡ length (items_of s) = going.counted.all in
    let z : length l' ≡ length l = going.size in
    omega arith

-- The two numbers of an answer, put behind those that are listed.
put_next : (l : List ℕ) (n x y : ℕ) → 2 * n + 1 < length l → take (2 * (n + 1)) (set (set l (2 * n) x) (2 * n + 1) y) ≡ take (2 * n) l ++ (x ∷ y ∷ [])
put_next l n x y h =
    let e : 2 * (n + 1) ≡ suc (2 * n + 1) = omega arith in
    let f : 2 * n + 1 ≡ suc (2 * n) = omega arith in
    ap (λ (m : ℕ). take m (set (set l (2 * n) x) (2 * n + 1) y)) e
    ∙ take-suc-set (set l (2 * n) x) (2 * n + 1) y (omega (arith, length-set l (2 * n) x))
    ∙ ap (λ (m : ℕ). take m (set l (2 * n) x) ++ (y ∷ [])) f
    ∙ ap (λ (r : List ℕ). r ++ (y ∷ [])) (take-suc-set l (2 * n) x (omega arith))
    ∙ append_assoc (take (2 * n) l) (x ∷ []) (y ∷ [])

-- What is kept after the rest, from one item on.
kept_more : (k k' : Kept) (g : ℕ) (i : List ℕ) (is all : List (List ℕ)) → all ≡ i ∷ is → k' ≡ kept_after k g i → kept_after_all k' g is ≡ kept_after_all k g all
unfolding kept_after_all
kept_more k k' g i is all e f = rw (e, f)

-- The answers to the rest, from one item on.
list_more : (k k' : Kept) (g : ℕ) (i : List ℕ) (is all : List (List ℕ)) (l : List ℕ) (n : ℕ) → all ≡ i ∷ is → k' ≡ kept_after k g i
    → 2 * n + 1 < length l → take (2 * (n + 1)) (answer_put l n (answer_to k i)) ++ answers_to k' g is ≡ take (2 * n) l ++ answers_to k g all
unfolding answers_to
list_more k k' g i is all l n e f h =
    ap (λ (r : List ℕ). r ++ answers_to k' g is) (put_next l n (answer_number (answer_to k i)) (answer_row (answer_to k i)) h)
    ∙ append_assoc (take (2 * n) l) (answer_number (answer_to k i) ∷ answer_row (answer_to k i) ∷ []) (answers_to k' g is)
    ∙ rw (e, f)

-- What stands behind the places of an item stays.
beyond_more : (l l' : List ℕ) (n x y : ℕ) → drop (2 * n) l' ≡ drop (2 * n) l → drop (2 * (n + 1)) (set (set l' (2 * n) x) (2 * n + 1) y) ≡ drop (2 * (n + 1)) l
beyond_more l l' n x y e =
    drop-set-lt (2 * (n + 1)) (set l' (2 * n) x) (2 * n + 1) y (omega arith)
    ∙ drop-set-lt (2 * (n + 1)) l' (2 * n) x (omega arith)
    ∙ drop_rest (2 * (n + 1)) (2 * n) l' l (omega arith) e

-- What is kept after an item is sound.
after_sound : (k : Kept) (g : ℕ) (i : List ℕ) → Sound k → Sound (kept_after k g i)
after_sound k g i w =
    from_keeps k.store k.origins g i (kept_after k g i).store (kept_after k g i).origins (answer_to k i)
    (sound w (record { answer = refl; after = refl; origins = refl })) w

-- One item more.
pub going_more : (k : Kept) (g : ℕ) (s l : List ℕ) (at n : ℕ) (k' : Kept) (l' : List ℕ) (k'' : Kept) (l'' : List ℕ) (end : ℕ) → Going k g s l at n k' l'
    → at < length s → 2 * length (items_of s) ≤ length l → Next k' g s at l' n k'' l'' end → Going k g s l end (n + 1) k'' l''
going_more k g s l at n k' l' k'' l'' end going h r next =
    let rest = drop at s in
    let i = item_at s at in
    let a = answer_to k' i in
    let m : length rest ≡ length s - at = length-drop at s in
    let d : drop end s ≡ drop (size_of rest) rest = ap (λ (x : ℕ). drop x s) next.behind ∙ sym (drop-drop (size_of rest) at s) in
    let items : items_of rest ≡ i ∷ items_of (drop end s) = items_cut rest (omega arith) ∙ ap (λ (x : List ℕ). i ∷ items_of x) (sym d) in
    let b : 2 * n + 1 < length l' = going_room k g s l at n k' l' going h r in
    let e = next.list in
    record {
      well = subst Sound (sym next.kept) (after_sound k' g i going.well);
      counted = counted_on s at n end h next.behind next.inside next.further going.counted;
      kept = kept_more k' k'' g i (items_of (drop end s)) (items_of rest) items next.kept ∙ going.kept;
      size = ap length e ∙ length-set (set l' (2 * n) (answer_number a)) (2 * n + 1) (answer_row a) ∙ length-set l' (2 * n) (answer_number a) ∙ going.size;
      list =
          ap (λ (x : List ℕ). take (2 * (n + 1)) x ++ answers_to k'' g (items_of (drop end s))) e
          ∙ list_more k' k'' g i (items_of (drop end s)) (items_of rest) l' n items next.kept b
          ∙ going.list;
      beyond = ap (drop (2 * (n + 1))) e ∙ beyond_more l l' n (answer_number a) (answer_row a) going.beyond;
    }

-- After the last item.
pub going_ended : (k : Kept) (g : ℕ) (s l : List ℕ) (at n : ℕ) (k' : Kept) (l' : List ℕ) → Going k g s l at n k' l' → length s ≤ at → Each k g s l k' l'
unfolding kept_after_all answers_to
going_ended k g s l at n k' l' going h =
    let e : items_of (drop at s) ≡ [] = sym (items_none (drop at s) (omega (arith, length-drop at s))) in
    let m : n ≡ length (items_of s) = counted_all s at n h going.counted in
    let b : drop (2 * n) l' ≡ drop (2 * length (items_of s)) l = going.beyond ∙ ap (λ (x : ℕ). drop (2 * x) l) m in
    let f : take (2 * n) l' ≡ answers_to k g (items_of s) =
    sym (append-nil (take (2 * n) l')) ∙ ap (λ (x : List (List ℕ)). take (2 * n) l' ++ answers_to k' g x) (sym e) ∙ going.list in
    record {
      kept = ap (kept_after_all k' g) (sym e) ∙ going.kept;
      list = sym (take-append-drop (2 * n) l') ∙ rw (f, b);
    }

-- What is kept after the admission of an item.
pub kept_after_lem : (k : Kept) (g : ℕ) (i : List ℕ) (l : Kept) (a : Admitted) → JudgedFrom k.store k.origins g i l.store l.origins a
    → l ≡ kept_after k g i
kept_after_lem k g i l a j =
    ap (λ t. record { store = t; origins = l.origins }) j.after
    ∙ ap (λ o. record { store = (kept_after k g i).store; origins = o }) (j.origins ∙ rw j.answer)

-- The cut and the admission of one item.
pub next_of : (k : Kept) (g : ℕ) (s : List ℕ) (at : ℕ) (l : List ℕ) (n : ℕ) (k' : Kept) (l' : List ℕ) (size : ℕ) (whole : Bool) (a : Admitted) → at < length s
    → CutOff (take (length s - at) (drop at s)) size whole
    → JudgedFrom k.store k.origins g (take (at + size - at) (drop at s)) k'.store k'.origins a → l' ≡ answer_put l n a
    → Next k g s at l n k' l' (at + size)
next_of k g s at l n k' l' size whole a h c j e =
    let m = cut_ahead s at size whole h c in
    let z : at + size - at ≡ size_of (drop at s) = let x : at + size - at ≡ size = omega arith in x ∙ m.0 in
    let i : take (at + size - at) (drop at s) ≡ item_at s at = ap (λ (x : ℕ). take x (drop at s)) z in
    let q = subst (λ (x : List ℕ). JudgedFrom k.store k.origins g x k'.store k'.origins a) i j in
    record {
      behind = ap (λ (x : ℕ). at + x) m.0;
      further = omega (arith, m.1.0);
      inside = m.1.1;
      kept = kept_after_lem k g (item_at s at) k' a q;
      list = e ∙ ap (answer_put l n) q.answer;
    }

-- Half of a list's length tells whether it has two numbers for each item.
pub half_short : (l s : List ℕ) (n : ℕ) → n ≡ length (items_of s) → length l / 2 < n → length l < 2 * length (items_of s)
half_short l s n e h = omega arith

pub half_enough : (l s : List ℕ) (n : ℕ) → n ≡ length (items_of s) → n ≤ length l / 2 → 2 * length (items_of s) ≤ length l
half_enough l s n e h = omega arith

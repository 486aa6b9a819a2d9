-- The laws of the marks in the list.
-- Assumes nothing.
use Prim.Native.Nat.{ℕ, ◌+◌, ◌-◌, ◌*◌, ◌≤◌, ◌<◌}
use mathlib.Core.Path.{◌≡◌, refl, sym, ap, ◌∙◌}
use mathlib.Core.Bool.{Bool, true, false}
use mathlib.Core.List.{List}
use mathlib.Core.Logic.{◌≢◌, ⊎_elim}
use native.Mathlib.Omega.{arith}
use native.Mathlib.Nat.{eq-or-lt_of_le}
use borrow.Author.Tests.{eq-eqb, ne_eqb}
use lib.Dec.{eqb}
use lib.ListN.{length, drop, get_or, set, length-set}
use lib.Seq.{get_or-drop, get_or-set_same, get_or-set_other, drop-set-lt}
use Rattle.basics.specs.Pick.{pick, both}
use Rattle.basics.proofs.Prefixes.{drop_rest}
use Rattle.rescue.specs.Greedy.{item_of}
use Rattle.salvage.specs.Names.{names_it}
use Rattle.salvage.specs.Marks.{mark_of, note_of, mark_put, AllFree, waits_for, woken_item, Woken}

module _ (l : List ℕ) (p m x : ℕ) where
  -- A mark that is put is there, with its number,
  pub put_mark_here : 2 * p + 1 < length l → mark_of (mark_put l p m x) p ≡ m
  put_mark_here h = get_or-set_other (set l (2 * p) m) (2 * p + 1) (2 * p) x 0 (λ e. omega arith) ∙ get_or-set_same l (2 * p) m 0 (omega arith)

  pub put_note_here : 2 * p + 1 < length l → note_of (mark_put l p m x) p ≡ x
  put_note_here h = get_or-set_same (set l (2 * p) m) (2 * p + 1) x 0 (omega (arith, length-set l (2 * p) m))

  -- every other item keeps its own,
  pub put_mark_other : (q : ℕ) → q ≢ p → mark_of (mark_put l p m x) q ≡ mark_of l q
  put_mark_other q d =
      get_or-set_other (set l (2 * p) m) (2 * p + 1) (2 * q) x 0 (λ e. omega arith) ∙ get_or-set_other l (2 * p) (2 * q) m 0 (λ e. d (omega arith))

  pub put_note_other : (q : ℕ) → q ≢ p → note_of (mark_put l p m x) q ≡ note_of l q
  put_note_other q d =
      get_or-set_other (set l (2 * p) m) (2 * p + 1) (2 * q + 1) x 0 (λ e. d (omega arith)) ∙ get_or-set_other l (2 * p) (2 * q + 1) m 0 (λ e. omega arith)

  -- the list is as long, and what is behind stays.
  pub put_length : length (mark_put l p m x) ≡ length l
  put_length = length-set (set l (2 * p) m) (2 * p + 1) x ∙ length-set l (2 * p) m

  pub put_beyond : (n : ℕ) → p < n → drop (2 * n) (mark_put l p m x) ≡ drop (2 * n) l
  put_beyond n h = drop-set-lt (2 * n) (set l (2 * p) m) (2 * p + 1) x (omega arith) ∙ drop-set-lt (2 * n) l (2 * p) m (omega arith)

-- What two lists have beyond a place is the same at each place beyond it.
pub beyond_same : (l l' : List ℕ) (n i : ℕ) → n ≤ i → drop n l' ≡ drop n l → get_or l' i 0 ≡ get_or l i 0
beyond_same l l' n i h e =
    let z : i ≡ n + (i - n) = omega arith in
    ap (λ (j : ℕ). get_or l' j 0) z
    ∙ sym (get_or-drop n l' (i - n) 0)
    ∙ ap (λ (r : List ℕ). get_or r (i - n) 0) e
    ∙ get_or-drop n l (i - n) 0
    ∙ ap (λ (j : ℕ). get_or l j 0) (sym z)

-- One item more is free.
pub free_more : (l : List ℕ) (k : ℕ) (l' l'' : List ℕ) → AllFree l k l' → 2 * k + 1 < length l' → l'' ≡ mark_put l' k 2 0 → AllFree l (k + 1) l''
free_more l k l' l'' f h e =
    rw e
    (record {
      size = put_length l' k 2 0 ∙ f.size;
      marks =
          λ p b.
          ⊎_elim
          (λ (z : p ≡ k). rw z (put_mark_here l' k 2 0 h, put_note_here l' k 2 0 h))
          (λ (z : p < k).
          let m = f.marks p z in
          (put_mark_other l' k 2 0 p (λ y. omega arith) ∙ m.0, put_note_other l' k 2 0 p (λ y. omega arith) ∙ m.1))
          (eq-or-lt_of_le (let y : p ≤ k = omega arith in y));
      beyond = put_beyond l' k 2 0 (k + 1) (omega arith) ∙ drop_rest (2 * (k + 1)) (2 * k) l' l (omega arith) f.beyond;
    })

-- An item is woken where it waits for the id, and only there.
pub woken_not_waiting : (s l : List ℕ) (p : ℕ) (id : List ℕ) → mark_of l p ≢ 1 → l ≡ woken_item s l p id
woken_not_waiting s l p id h = rw (ne_eqb (mark_of l p) 1 h)

pub woken_by : (s l : List ℕ) (p : ℕ) (id : List ℕ) (b : Bool) (x : ℕ) → mark_of l p ≡ 1 → x ≡ note_of l p → b ≡ names_it s x id
    → pick b (set l (2 * p) 2) l ≡ woken_item s l p id
woken_by s l p id b x h e g = rw (eq-eqb (mark_of l p) 1 h, ← e, ← g)

module _ (l : List ℕ) (p : ℕ) (h : 2 * p + 1 < length l) (b : Bool) where
  -- The marks after one item was woken, or was not.
  woken_mark_here : mark_of (pick b (set l (2 * p) 2) l) p ≡ pick b 2 (mark_of l p)
  woken_mark_here = go b
    where
      go : (b : Bool) → mark_of (pick b (set l (2 * p) 2) l) p ≡ pick b 2 (mark_of l p)
      go true = get_or-set_same l (2 * p) 2 0 (omega arith)
      go false = refl

  woken_elsewhere : (i : ℕ) → i ≢ 2 * p → get_or (pick b (set l (2 * p) 2) l) i 0 ≡ get_or l i 0
  woken_elsewhere i d = go b
    where
      go : (b : Bool) → get_or (pick b (set l (2 * p) 2) l) i 0 ≡ get_or l i 0
      go true = get_or-set_other l (2 * p) i 2 0 d
      go false = refl

  woken_length : length (pick b (set l (2 * p) 2) l) ≡ length l
  woken_length = go b
    where
      go : (b : Bool) → length (pick b (set l (2 * p) 2) l) ≡ length l
      go true = length-set l (2 * p) 2
      go false = refl

  woken_beyond : (n : ℕ) → p < n → drop (2 * n) (pick b (set l (2 * p) 2) l) ≡ drop (2 * n) l
  woken_beyond n k = go b
    where
      go : (b : Bool) → drop (2 * n) (pick b (set l (2 * p) 2) l) ≡ drop (2 * n) l
      go true = drop-set-lt (2 * n) l (2 * p) 2 (omega arith)
      go false = refl

-- One item more is woken where it waits for the id.
pub woken_more : (is : List (List ℕ)) (l id : List ℕ) (k : ℕ) (l' l'' s : List ℕ) → Woken is l id k l' → 2 * k + 1 < length l' → s ≡ item_of is k
    → l'' ≡ woken_item s l' k id → Woken is l id (k + 1) l''
woken_more is l id k l' l'' s w h g e =
    let same : (i : ℕ) → 2 * k ≤ i → get_or l' i 0 ≡ get_or l i 0 = λ i y. beyond_same l l' (2 * k) i y w.beyond in
    let b = waits_for s l' k id in
    let z : b ≡ waits_for (item_of is k) l k id =
    ap (λ (n : ℕ). both (eqb n 1) (names_it s (note_of l' k) id)) (same (2 * k) (omega arith))
    ∙ ap (λ (n : ℕ). both (eqb (mark_of l k) 1) (names_it s n id)) (same (2 * k + 1) (omega arith))
    ∙ ap (λ (y : List ℕ). both (eqb (mark_of l k) 1) (names_it y (note_of l k) id)) g in
    rw e
    (record {
      size = woken_length l' k h b ∙ w.size;
      marks =
          λ p y.
          ⊎_elim
          (λ (q : p ≡ k).
          rw q
          (woken_mark_here l' k h b
          ∙ ap (λ (n : ℕ). pick b 2 n) (same (2 * k) (omega arith))
          ∙ ap (λ (t : Bool). pick t 2 (mark_of l k)) z))
          (λ (q : p < k). woken_elsewhere l' k h b (2 * p) (λ r. omega arith) ∙ w.marks p q)
          (eq-or-lt_of_le (let r : p ≤ k = omega arith in r));
      notes =
          λ p y.
          woken_elsewhere l' k h b (2 * p + 1) (λ r. omega arith)
          ∙ ⊎_elim (λ (q : p ≡ k). same (2 * p + 1) (omega arith)) (λ (q : p < k). w.notes p q) (eq-or-lt_of_le (let r : p ≤ k = omega arith in r));
      beyond = woken_beyond l' k h b (k + 1) (omega arith) ∙ drop_rest (2 * (k + 1)) (2 * k) l' l (omega arith) w.beyond;
    })

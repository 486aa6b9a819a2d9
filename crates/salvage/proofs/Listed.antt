-- The laws of the list at the end.
-- Assumes nothing.
use Prim.Native.Nat.{ℕ, suc, ◌+◌, ◌*◌, ◌<◌}
use mathlib.Core.Path.{◌≡◌, refl, sym, ap, ◌∙◌}
use mathlib.Core.Bool.{Bool}
use mathlib.Core.List.{List, [], ◌∷◌, ◌++◌, append_assoc}
use mathlib.Core.Logic.{◌≢◌}
use native.Mathlib.Omega.{arith}
use native.Mathlib.Numerals.{add-one}
use borrow.Author.Tests.{eq-eqb, ne_eqb}
use lib.Dec.{eqb}
use lib.ListN.{length, take, drop, set}
use lib.Seq.{take-suc, take-set-le}
use Rattle.basics.specs.Pick.{pick}
use Rattle.basics.proofs.Prefixes.{drop_rest}
use Rattle.basics.proofs.Tests.{by_eqb, not_both_ways}
use Rattle.admission.specs.declared.Admitted.{Admitted}
use Rattle.admission.specs.Answer.{answer_number, answer_row}
use Rattle.origins.specs.Origins.{JudgedFrom}
use Rattle.morning.specs.Intake.{Kept, answer_put, answer_to}
use Rattle.rescue.specs.Greedy.{Salvage, item_of, is_done, place_in}
use Rattle.rescue.specs.Salvaging.{number_for, place_for, list_for}
use Rattle.rescue.proofs.Growth.{undone_after}
use Rattle.salvage.specs.Marks.{mark_of, note_of, mark_put}
use Rattle.salvage.specs.Working.{saved}
use Rattle.salvage.specs.Listing.{SettledAt, as_kept, as_left, MayAnswer, AnsweredItem, MayAnswerAll, AnsweredAll}
use Rattle.salvage.proofs.Marking.{put_mark_here, put_note_here, put_length, put_beyond, beyond_same}
use Rattle.salvage.proofs.Stepping.{judged_as}

-- A kept item keeps its two numbers.
pub answered_kept : (s : List ℕ) (p : ℕ) (k : Kept) (list : List ℕ) → mark_of list p ≡ 0 → AnsweredItem s p k list k list
answered_kept s p k list e = record {
  kept = refl;
  listed = sym (ap (λ (b : Bool). pick b list (answer_put list p (answer_to k s))) (eq-eqb (mark_of list p) 0
      e));
}

-- Any other has the answer of the store, which stays.
pub answered_left : (s : List ℕ) (p : ℕ) (k k' : Kept) (list list' : List ℕ) (a : Admitted) (number row : ℕ) → MayAnswer s p k list → mark_of list p ≢ 0
    → JudgedFrom k.store k.origins 0 s k'.store k'.origins a → number ≡ answer_number a → row ≡ answer_row a → list' ≡ mark_put list p number row
    → AnsweredItem s p k list k' list'
answered_left s p k k' list list' a number row may n j e f l =
    let q = judged_as k k' s s a refl j in
    let u = may.left n in
    record {
      kept = q.0 ∙ undone_after k may.sound 0 s (λ m d. not_both_ways (is_done (answer_to k s)) (ap is_done d) u);
      listed =
          l
          ∙ ap (λ (x : ℕ). mark_put list p x row) (e ∙ ap answer_number q.1)
          ∙ ap (mark_put list p (answer_number (answer_to k s))) (f ∙ ap answer_row q.1)
          ∙ sym (ap (λ (b : Bool). pick b list (answer_put list p (answer_to k s))) (ne_eqb (mark_of list p) 0 n));
    }

-- Two numbers more of a list.
take_two : (l : List ℕ) (n : ℕ) → 2 * n + 1 < length l → take (2 * (n + 1)) l ≡ take (2 * n) l ++ (mark_of l n ∷ note_of l n ∷ [])
take_two l n h =
    let e : 2 * (n + 1) ≡ suc (2 * n + 1) = omega arith in
    let f : 2 * n + 1 ≡ suc (2 * n) = omega arith in
    ap (λ (m : ℕ). take m l) e
    ∙ take-suc l (2 * n + 1) 0 h
    ∙ ap (λ (m : ℕ). take m l ++ (note_of l n ∷ [])) f
    ∙ ap (λ (r : List ℕ). r ++ (note_of l n ∷ [])) (take-suc l (2 * n) 0 (omega arith))
    ∙ append_assoc (take (2 * n) l) (mark_of l n ∷ []) (note_of l n ∷ [])

-- One more of the final list, where its two numbers are there.
listed_next : (is : List (List ℕ)) (g : Salvage) (p : ℕ) (l : List ℕ) → 2 * p + 1 < length l → take (2 * p) l ≡ list_for is g p
    → number_for is g p ≡ mark_of l p → place_for is g p ≡ note_of l p → take (2 * (p + 1)) l ≡ list_for is g (p + 1)
unfolding list_for
listed_next is g p l h t x y =
    take_two l p h
    ∙ ap (λ (r : List ℕ). r ++ (mark_of l p ∷ note_of l p ∷ [])) t
    ∙ ap (λ (n : ℕ). list_for is g p ++ (n ∷ note_of l p ∷ [])) (sym x)
    ∙ ap (λ (n : ℕ). list_for is g p ++ (number_for is g p ∷ n ∷ [])) (sym y)
    ∙ ap (list_for is g) (sym (add-one p))

-- None listed yet.
pub listed_none : (is : List (List ℕ)) (k : Kept) (list : List ℕ) → AnsweredAll is 0 k list k list
unfolding list_for
listed_none is k list = record { kept = refl; size = refl; listed = λ order s. refl; beyond = refl }

-- The numbers of a settled item at the end.
settled_kept : (is : List (List ℕ)) (g : Salvage) (p m x : ℕ) → SettledAt is g p m x → m ≡ 0 → (number_for is g p ≡ m) × (place_for is g p ≡ x)
settled_kept is g p m x (as_kept e a b) z = (
  ap (λ (t : Bool). pick t 0 (answer_number (answer_to g.kept (item_of is p)))) a ∙ sym e,
  ap (λ (t : Bool). pick t (place_in p g.order) (answer_row (answer_to g.kept (item_of is p)))) a ∙ sym b,
)
settled_kept is g p m x (as_left n a u) z = absurd (n z)

settled_left : (is : List (List ℕ)) (g : Salvage) (p m x : ℕ) → SettledAt is g p m x → m ≢ 0
    → (number_for is g p ≡ answer_number (answer_to g.kept (item_of is p))) × (place_for is g p ≡ answer_row (answer_to g.kept (item_of is p)))
settled_left is g p m x (as_kept e a b) n = absurd (n e)
settled_left is g p m x (as_left h a u) n = (
  ap (λ (t : Bool). pick t 0 (answer_number (answer_to g.kept (item_of is p)))) a,
  ap (λ (t : Bool). pick t (place_in p g.order) (answer_row (answer_to g.kept (item_of is p)))) a,
)

module _ (is : List (List ℕ)) (k : Kept) (list : List ℕ) (p : ℕ) (k' : Kept) (list' : List ℕ) (g : AnsweredAll is p k list k' list') (may : MayAnswerAll is k
    list)
    (below : p < length is) where
  -- The marks of the items that are left are what they were.
  same_mark : mark_of list' p ≡ mark_of list p
  same_mark = beyond_same list list' (2 * p) (2 * p) (omega arith) g.beyond

  same_note : note_of list' p ≡ note_of list p
  same_note = beyond_same list list' (2 * p) (2 * p + 1) (omega arith) g.beyond

  listed_places : 2 * p + 1 < length list'
  listed_places = omega (arith, g.size, may.places, below)

  module _ (s : List ℕ) (e : s ≡ item_of is p) (k'' : Kept) (list'' : List ℕ) (a : AnsweredItem s p k' list' k'' list'') where
    -- The answer that the store gives it.
    answer_is : answer_to k' s ≡ answer_to k (item_of is p)
    answer_is = ap (λ (x : Kept). answer_to x s) g.kept ∙ ap (answer_to k) e

    -- What is listed then.
    listed_cases : (list'' ≡ pick (eqb (mark_of list' p) 0) list' (answer_put list' p (answer_to k (item_of is p))))
    listed_cases = a.listed ∙ ap (λ (x : Admitted). pick (eqb (mark_of list' p) 0) list' (answer_put list' p x)) answer_is

    -- One answer more.
    pub listed_more : AnsweredAll is (p + 1) k list k'' list''
    listed_more =
        by_eqb (λ b. list'' ≡ pick b list' (answer_put list' p (answer_to k (item_of is p))) → AnsweredAll is (p + 1) k list k'' list'') (mark_of list' p) 0
        (λ z l. when_kept z l) (λ n l. when_left n l) listed_cases
      where
        when_kept : mark_of list' p ≡ 0 → list'' ≡ list' → AnsweredAll is (p + 1) k list k'' list''
        when_kept z l =
            record {
              kept = a.kept ∙ g.kept;
              size = ap length l ∙ g.size;
              listed =
                  λ order settled.
                  let q = settled_kept is (saved k order) p (mark_of list p) (note_of list p) (settled p below) (sym same_mark ∙ z) in
                  ap (take (2 * (p + 1))) l
                  ∙ listed_next is (saved k order) p list' listed_places (g.listed order settled) (q.0 ∙ sym same_mark) (q.1 ∙ sym same_note);
              beyond = ap (drop (2 * (p + 1))) l ∙ drop_rest (2 * (p + 1)) (2 * p) list' list (omega arith) g.beyond;
            }

        when_left : mark_of list' p ≢ 0 → list'' ≡ answer_put list' p (answer_to k (item_of is p)) → AnsweredAll is (p + 1) k list k'' list''
        when_left n l =
            let x = answer_number (answer_to k (item_of is p)) in
            let y = answer_row (answer_to k (item_of is p)) in
            let h = put_length list' p x y in
            record {
              kept = a.kept ∙ g.kept;
              size = ap length l ∙ h ∙ g.size;
              listed =
                  λ order settled.
                  let q = settled_left is (saved k order) p (mark_of list p) (note_of list p) (settled p below) (λ z. n (same_mark ∙ z)) in
                  ap (take (2 * (p + 1))) l
                  ∙ listed_next is (saved k order) p (mark_put list' p x y) (omega (arith, h, listed_places))
                  (take-set-le (2 * p) (set list' (2 * p) x) (2 * p + 1) y (omega arith) ∙ take-set-le (2 * p) list' (2 * p) x (omega arith) ∙ g.listed
                  order settled)
                  (q.0 ∙ sym (put_mark_here list' p x y listed_places)) (q.1 ∙ sym (put_note_here list' p x y listed_places));
              beyond =
                  ap (drop (2 * (p + 1))) l
                  ∙ put_beyond list' p x y (p + 1) (omega arith)
                  ∙ drop_rest (2 * (p + 1)) (2 * p) list' list (omega arith) g.beyond;
            }

-- Document 02, §11: "A clean intake comes back unchanged."
-- Assumes nothing.
use Prim.Native.Nat.{ℕ, zero, suc, ◌+◌, ◌≤◌, ◌<◌}
use mathlib.Core.Path.{◌≡◌, refl, sym, ap, ◌∙◌}
use mathlib.Core.Bool.{Bool, true, false, not}
use mathlib.Core.List.{List, [], ◌∷◌, ◌++◌}
use mathlib.Core.Logic.{⊎_elim}
use native.Mathlib.Omega.{arith}
use native.Mathlib.Nat.{eq-or-lt_of_le}
use native.Mathlib.Numerals.{add-one}
use lib.ListN.{length, take, length-append}
use lib.Seq.{take-suc, take_all}
use Rattle.basics.specs.Pick.{pick, both}
use Rattle.cutting.specs.Cutting.{items_of, joined}
use Rattle.cutting.proofs.Items.{items_joined}
use Rattle.admission.specs.Answer.{answer_number, answer_row}
use Rattle.morning.specs.Intake.{Kept, answer_to, kept_after_all}
use Rattle.rescue.specs.Greedy.{Salvage, begun, salvage_origin, item_of, among, is_done, free, next_item, keep, turn, greedy, items_in, place_in}
use Rattle.rescue.specs.Orders.{AllAdmitted, none_left, admitted, SameRoom}
use Rattle.rescue.specs.Salvaging.{Lent, empty_in, salvage_of, clean_of, number_for, place_for}
use Rattle.rescue.proofs.Held.{place_last, place_before}
use Rattle.rescue.proofs.Ordered.{items_more, after_more}
use Rattle.rescue.proofs.Sums.{among_last, among_other}
use Rattle.rescue.proofs.Theorems.{empty_sound, clean_ordered}
use Rattle.rescue.proofs.Turns.{lowest_is, turn_next}
use Rattle.rescue.proofs.Whatever.{empty_alike, alike_admitted}

-- The numbers from 0 on, so many.
unfoldable up_to : ℕ → List ℕ
up_to zero = []
up_to (suc n) = up_to n ++ (n ∷ [])

-- Those below are in it,
in_up_to : (n p : ℕ) → p < n → among p (up_to n) ≡ true
unfolding up_to
in_up_to zero p h = absurd (omega arith)
in_up_to (suc n) p h =
    ⊎_elim
    (λ (e : p ≡ n). ap (λ (q : ℕ). among p (up_to n ++ (q ∷ []))) (sym e) ∙ among_last p (up_to n))
    (λ (l : p < n). among_other p (up_to n) n (λ e. omega arith) ∙ in_up_to n p l)
    (eq-or-lt_of_le (omega arith))

-- no others,
not_up_to : (n p : ℕ) → n ≤ p → among p (up_to n) ≡ false
unfolding up_to among
not_up_to zero p h = refl
not_up_to (suc n) p h = among_other p (up_to n) n (λ e. omega arith) ∙ not_up_to n p (omega arith)

-- each at its place.
place_up_to : (n p : ℕ) → p < n → place_in p (up_to n) ≡ p + 1
unfolding up_to
place_up_to zero p h = absurd (omega arith)
place_up_to (suc n) p h =
    ⊎_elim
    (λ (e : p ≡ n).
    ap (λ (q : ℕ). place_in p (up_to n ++ (q ∷ []))) (sym e) ∙ place_last p (up_to n) (not_up_to n p (omega arith)) ∙ ap (λ (m : ℕ). m + 1) (long n ∙ sym e))
    (λ (l : p < n). place_before p (up_to n) n (in_up_to n p l) ∙ place_up_to n p l)
    (eq-or-lt_of_le (omega arith))
  where
    long : (m : ℕ) → length (up_to m) ≡ m
    long zero = refl
    long (suc m) = length-append (up_to m) (m ∷ []) ∙ ap (λ (x : ℕ). x + 1) (long m) ∙ add-one m

-- The items of these numbers are the first so many.
items_up_to : (is : List (List ℕ)) (n : ℕ) → n ≤ length is → items_in is (up_to n) ≡ take n is
unfolding up_to items_in
items_up_to is zero h = refl
items_up_to is (suc n) h =
    items_more is (up_to n) n ∙ ap (λ (r : List (List ℕ)). r ++ (item_of is n ∷ [])) (items_up_to is n (omega arith)) ∙ sym (take-suc is n [] (omega arith))

-- Of items that are admitted in turn, each is by the store that those before it leave.
admitted_at : {k : Kept} {is : List (List ℕ)} → AllAdmitted k is → (n : ℕ) → n < length is
    → is_done (answer_to (kept_after_all k salvage_origin (take n is)) (item_of is n)) ≡ true
unfolding kept_after_all
admitted_at (none_left k) n h = absurd (omega arith)
admitted_at (admitted k i is row e rest) zero h = ap is_done e
admitted_at (admitted k i is row e rest) (suc n) h = admitted_at rest n (omega arith)

-- What is salvaged of such items after so many turns: the first so many, in order.
back_greedy : (is : List (List ℕ)) (k : Kept) → AllAdmitted k is → (n : ℕ) → n ≤ length is
    → greedy is (begun k) n ≡ record { kept = kept_after_all k salvage_origin (take n is); order = up_to n }
unfolding greedy kept_after_all up_to
back_greedy is k a zero h = refl
back_greedy is k a (suc n) h =
    let g : Salvage = record { kept = kept_after_all k salvage_origin (take n is); order = up_to n } in
    let f : free is g n ≡ true =
    ap (λ (b : Bool). both (not b) (is_done (answer_to g.kept (item_of is n)))) (not_up_to n n (omega arith)) ∙ admitted_at a n (omega arith) in
    let next : next_item is g ≡ n =
    lowest_is (free is g) (length is) n (omega arith)
    (λ p l. ap (λ (b : Bool). both (not b) (is_done (answer_to g.kept (item_of is p)))) (in_up_to n p l)) (λ _. f) in
    ap (turn is) (back_greedy is k a n (omega arith))
    ∙ turn_next is g (omega (arith, next))
    ∙ ap (keep is g) next
    ∙ ap (λ (x : Kept). record { kept = x; order = up_to n ++ (n ∷ []) })
    (sym (after_more k salvage_origin (take n is) (item_of is n)) ∙ ap (kept_after_all k salvage_origin) (sym (take-suc is n [] (omega arith))))

module _ (stick : List ℕ) (l : Lent) (a : AllAdmitted (empty_in l) (items_of stick)) where
  -- A clean intake's order is kept.
  back_order : (salvage_of stick l).order ≡ up_to (length (items_of stick))
  back_order = ap (λ (g : Salvage). g.order) (back_greedy (items_of stick) (empty_in l) a (length (items_of stick)) (omega arith))

  -- CLEAN BACK: "A clean intake comes back unchanged":
  pub clean_back : clean_of (items_of stick) (salvage_of stick l) ≡ stick
  clean_back =
      ap (λ (o : List ℕ). joined (items_in (items_of stick) o)) back_order
      ∙ ap joined (items_up_to (items_of stick) (length (items_of stick)) (omega arith) ∙ take_all (length (items_of stick)) (items_of stick) (omega arith))
      ∙ items_joined stick

  -- each of its items is kept, at its own place.
  pub clean_places : (p : ℕ) → p < length (items_of stick)
      → (number_for (items_of stick) (salvage_of stick l) p ≡ 0) × (place_for (items_of stick) (salvage_of stick l) p ≡ p + 1)
  clean_places p h =
      let g = salvage_of stick l in
      let e : among p g.order ≡ true = ap (among p) back_order ∙ in_up_to (length (items_of stick)) p h in
      let i = item_of (items_of stick) p in (
        ap (λ (b : Bool). pick b 0 (answer_number (answer_to g.kept i))) e,
        ap (λ (b : Bool). pick b (place_in p g.order) (answer_row (answer_to g.kept i))) e
            ∙ ap (place_in p) back_order
            ∙ place_up_to (length (items_of stick)) p h,
      )

-- The clean intake of a salvage, salvaged again in parts as long, comes back unchanged.
pub clean_again : (stick : List ℕ) (l m : Lent) → SameRoom l m
    → clean_of (items_of (clean_of (items_of stick) (salvage_of stick l))) (salvage_of (clean_of (items_of stick) (salvage_of stick l)) m)
    ≡ clean_of (items_of stick) (salvage_of stick l)
clean_again stick l m r =
    clean_back (clean_of (items_of stick) (salvage_of stick l)) m
    (alike_admitted (clean_ordered stick l) (empty_in m) (empty_sound l) (empty_sound m) (empty_alike l m r))

-- The numbers that the list gives to items that are not kept.
-- Assumes nothing.
use Rattle.std.specs.Prelude.{Result, Err}
use Prim.Native.Nat.{ℕ, zero, suc, ◌+◌, ◌-◌, ◌≤◌, ◌<◌}
use mathlib.Core.Path.{◌≡◌, refl, sym, ap, subst, ◌∙◌}
use mathlib.Core.Bool.{Bool, true, false}
use mathlib.Core.List.{List}
use mathlib.Core.Logic.{◌⊎◌, inl, inr, ⊎_elim, ◌≢◌}
use native.Mathlib.Omega.{arith}
use native.Mathlib.Nat.{eq-or-lt_of_le}
use borrow.Author.Tests.{lt-ltb, le-ltb, le-leb, ltb-true, ltb-false}
use lib.Dec.{ltb, leb}
use lib.ListN.{length}
use Rattle.basics.specs.Pick.{pick}
use Rattle.basics.proofs.Tests.{by_ltb, by_pick, not_both_ways, true_or_false}
use Rattle.answers.specs.Number.{number_of}
use Rattle.answers.specs.declared.Refusal.{Refusal}
use Rattle.answers.specs.declared.Refusal.TheVariants.{Short, Size, Prev, Dep, Full}
use Rattle.cutting.specs.Cutting.{items_of, starts_whole}
use Rattle.item.specs.Id.{id_of}
use Rattle.item.specs.Laid.{IsItem}
use Rattle.item.specs.Layout.{layout_of, length_of}
use Rattle.item.specs.Offsets.{length_limit}
use Rattle.item.specs.declared.Fields.{Fields}
use Rattle.judging.specs.Verdict.{then_judged, verdict_of}
use Rattle.admission.specs.After.{answer_of}
use Rattle.admission.specs.Answer.{answer_number, answer_row}
use Rattle.admission.specs.Paper.{Has}
use Rattle.admission.specs.declared.Admitted.TheVariants.{Done, Held, Refused}
use Rattle.origins.specs.Origins.{without_place}
use Rattle.morning.specs.Intake.{Kept, Sound, answer_to}
use Rattle.rescue.specs.Greedy.{Salvage, begun, salvage_origin, item_of, among, next_item, turn, greedy, place_in}
use Rattle.rescue.specs.Growing.{Grown}
use Rattle.rescue.specs.Orders.{NoneFull}
use Rattle.rescue.specs.Salvaging.{Lent, empty_in, salvage_of, number_for, place_for}
use Rattle.rescue.specs.Wrote.{DroppedWith, above_limit, ends_inside}
use Rattle.rescue.proofs.Growth.{grown_still, grown_on, grown_after}
use Rattle.rescue.proofs.Held.{held_answer}
use Rattle.rescue.proofs.Lost.{only_these_turn}
use Rattle.rescue.proofs.Ordered.{run_greedy}
use Rattle.rescue.proofs.Theorems.{empty_sound, salvage_run, salvage_rows, item_whole, place_is_row}
use Rattle.rescue.proofs.Turns.{turn_next, turn_none}

-- An item whose layout is refused is refused so by every store.
pub refused_so : (k : Kept) (i : List ℕ) (r : Refusal) → layout_of i ≡ Err r → answer_to k i ≡ Refused r
unfolding then_judged without_place
refused_so k i r e = placed (leb (length k.origins) k.store.counts.rows)
  where
    placed : (b : Bool) → answer_of k.store (pick b (without_place (verdict_of k.store i)) (verdict_of k.store i)) ≡ Refused r
    placed true = ap (λ (x : Result Fields Refusal). answer_of k.store (without_place (then_judged k.store i x))) e
    placed false = ap (λ (x : Result Fields Refusal). answer_of k.store (then_judged k.store i x)) e

-- Bytes that are no whole item: "a length is above 6,253"
above_size : (i : List ℕ) → 4 ≤ length i → length_limit < length_of i → layout_of i ≡ Err Size
unfolding layout_of
above_size i h k = rw (le-ltb (length i) 4 h, lt-ltb length_limit (length_of i) k)

-- "or the input ends inside an item":
abbrev IsShort : Result Fields Refusal → Type 0
IsShort x = x ≡ Err Short

inside_short : (i : List ℕ) → (4 ≤ length i → length_of i ≤ length_limit) → starts_whole i ≡ false → IsShort (layout_of i)
unfolding layout_of
inside_short i h e =
    by_pick IsShort (ltb (length i) 4) _ _ (λ l. refl)
    (λ l. by_pick IsShort (ltb length_limit (length_of i)) _ _
    (λ m.
    let a : length_limit < length_of i = ltb-true _ _ m in
    let b : length_of i ≤ length_limit = h (ltb-false _ _ l) in
    absurd (omega arith))
    (λ m. by_pick IsShort (ltb (length_of i) 2) _ _ (λ n. refl)
    (λ n. by_pick IsShort (ltb (length i - 4) (length_of i)) _ _ (λ o. refl)
    (λ o.
    let four : 4 ≤ length i = ltb-false _ _ l in
    let low : length_of i ≤ length_limit = ltb-false _ _ m in
    let there : length_of i ≤ length i - 4 = ltb-false _ _ o in
    let whole : starts_whole i ≡ true =
    rw (le-leb 4 (length i) four, le-leb (length_of i) length_limit low, le-leb (4 + length_of i) (length i) (omega arith)) in
    absurd (not_both_ways (starts_whole i) whole e)))))

module _ (stick : List ℕ) (l : Lent) (p : ℕ) where
  -- An item that is not kept has the answer and the row that the final store gives it.
  pub unkept_answer : among p (salvage_of stick l).order ≡ false
      → (number_for (items_of stick) (salvage_of stick l) p ≡ answer_number (answer_to (salvage_of stick l).kept (item_of (items_of stick) p)))
      × (place_for (items_of stick) (salvage_of stick l) p ≡ answer_row (answer_to (salvage_of stick l).kept (item_of (items_of stick) p)))
  unkept_answer e =
      let a = answer_to (salvage_of stick l).kept (item_of (items_of stick) p) in (
        ap (λ (b : Bool). pick b 0 (answer_number a)) e,
        ap (λ (b : Bool). pick b (place_in p (salvage_of stick l).order) (answer_row a)) e,
      )

  -- A kept item has 0 and its place.
  pub kept_answer : among p (salvage_of stick l).order ≡ true
      → (number_for (items_of stick) (salvage_of stick l) p ≡ 0) × (place_for (items_of stick) (salvage_of stick l) p ≡ place_in p (salvage_of stick l).order)
  kept_answer e =
      let a = answer_to (salvage_of stick l).kept (item_of (items_of stick) p) in (
        ap (λ (b : Bool). pick b 0 (answer_number a)) e,
        ap (λ (b : Bool). pick b (place_in p (salvage_of stick l).order) (answer_row a)) e,
      )

  -- "(8 for a repeat)": an item with mark 1 that is not kept, but whose id is a kept item's, has 8 and that item's place.
  pub repeat_8 : (q : ℕ) → among p (salvage_of stick l).order ≡ false → among q (salvage_of stick l).order ≡ true
      → (f : Fields) → IsItem (item_of (items_of stick) p) f → f.mark ≡ 1 → id_of (item_of (items_of stick) p) ≡ id_of (item_of (items_of stick) q)
      → (number_for (items_of stick) (salvage_of stick l) p ≡ 8) × (place_for (items_of stick) (salvage_of stick l) p ≡ place_in q (salvage_of stick l).order)
  repeat_8 q e d f i m same =
      let g = salvage_of stick l in
      let r = place_in q g.order in
      let h : Has g.kept.store (id_of (item_of (items_of stick) p)) r =
      subst (λ (x : List ℕ). Has g.kept.store x r) (sym same) ((salvage_rows stick l).row_of q d).has in
      let a = held_answer g.kept (salvage_run stick l).well (item_of (items_of stick) p) f i m r h in
      let u = unkept_answer e in
      (u.0 ∙ ap answer_number a, u.1 ∙ ap answer_row a)

  -- "When a length is above 6,253 or the input ends inside an item, the rest counts as one dropped item, with 3 or 2."
  pub broken_3_or_2 : starts_whole (item_of (items_of stick) p) ≡ false
      → (among p (salvage_of stick l).order ≡ false)
      × (DroppedWith (item_of (items_of stick) p) (number_for (items_of stick) (salvage_of stick l) p) × (place_for (items_of stick) (salvage_of stick l) p ≡ 0))
  broken_3_or_2 b = (dropped, by_length)
    where
      i : List ℕ
      i = item_of (items_of stick) p

      g : Salvage
      g = salvage_of stick l

      dropped : among p g.order ≡ false
      dropped =
          ⊎_elim
          (λ (e : among p g.order ≡ true).
          let x = (salvage_rows stick l).row_of p e in
          absurd (not_both_ways (starts_whole i) (item_whole i x.fields x.item).starts b))
          (λ (e : among p g.order ≡ false). e) (true_or_false (among p g.order))

      with_number : (r : Refusal) → layout_of i ≡ Err r → (number_for (items_of stick) g p ≡ number_of r) × (place_for (items_of stick) g p ≡ 0)
      with_number r e =
          let a = refused_so g.kept i r e in
          let u = unkept_answer dropped in
          (u.0 ∙ ap answer_number a, u.1 ∙ ap answer_row a)

      short : (4 ≤ length i → length_of i ≤ length_limit) → DroppedWith i (number_for (items_of stick) g p) × (place_for (items_of stick) g p ≡ 0)
      short h = let n = with_number Short (inside_short i h b) in (ends_inside h n.0, n.1)

      by_length : DroppedWith i (number_for (items_of stick) g p) × (place_for (items_of stick) g p ≡ 0)
      by_length =
          by_ltb (λ _. DroppedWith i (number_for (items_of stick) g p) × (place_for (items_of stick) g p ≡ 0)) length_limit (length_of i)
          (λ h.
          by_ltb (λ _. DroppedWith i (number_for (items_of stick) g p) × (place_for (items_of stick) g p ≡ 0)) (length i) 4
          (λ k. short (λ o. absurd (omega arith)))
          (λ k. let n = with_number Size (above_size i k h) in (above_limit k h n.0, n.1)))
          (λ h. short (λ o. h))

-- The store of so many turns came of that of fewer.
turns_grow : (is : List (List ℕ)) (k : Kept) → Sound k → (n m : ℕ) → n ≤ m
    → Grown (greedy is (begun k) n).kept (greedy is (begun k) m).kept
unfolding greedy
turns_grow is k w n zero h = let e : n ≡ zero = omega arith in subst (λ (x : ℕ). Grown (greedy is (begun k) x).kept k) (sym e) (grown_still k)
turns_grow is k w n (suc m) h =
    let so : Salvage = begun k in
    let g = greedy is so m in
    ⊎_elim
    (λ (e : n ≡ suc m). subst (λ (x : ℕ). Grown (greedy is so x).kept (greedy is so (suc m)).kept) (sym e) (grown_still (greedy is so (suc m)).kept))
    (λ (l : n < suc m).
    grown_on (greedy is so n).kept g.kept (turn is g).kept (turns_grow is k w n m (omega arith))
    (by_ltb (λ _. Grown g.kept (turn is g).kept) (next_item is g) (length is)
    (λ d.
    subst (λ (x : Salvage). Grown g.kept x.kept) (sym (turn_next is g d))
    (grown_after g.kept (run_greedy is k w m).well salvage_origin (item_of is (next_item is g))))
    (λ d. subst (λ (x : Salvage). Grown g.kept x.kept) (sym (turn_none is g d)) (grown_still g.kept))))
    (eq-or-lt_of_le h)

-- ONLY 10 AND 14 CAN TURN in a salvage: an item that the store admits after so many turns is, after fewer, admitted or refused with 10 or 14.
pub only_10_and_14 : (stick : List ℕ) (l : Lent) (n m : ℕ) → n ≤ m → (i : List ℕ) (row : ℕ)
    → answer_to (greedy (items_of stick) (begun (empty_in l)) m).kept i ≡ Done row
    → (answer_number (answer_to (greedy (items_of stick) (begun (empty_in l)) n).kept i) ≡ 0)
    ⊎ ((answer_number (answer_to (greedy (items_of stick) (begun (empty_in l)) n).kept i) ≡ 10)
    ⊎ (answer_number (answer_to (greedy (items_of stick) (begun (empty_in l)) n).kept i) ≡ 14))
only_10_and_14 stick l n m h i row d =
    let is = items_of stick in
    let run = run_greedy is (empty_in l) (empty_sound l) in
    let so : Salvage = begun (empty_in l) in
    ⊎_elim
    (λ x. inl (ap answer_number x.1))
    (λ x.
    let y = x.1.1 in
    inr
    (⊎_elim
    (λ (e : y.0 ≡ Prev). inl (ap answer_number (y.1.0 ∙ ap Refused e)))
    (λ (e : y.0 ≡ Dep). inr (ap answer_number (y.1.0 ∙ ap Refused e)))
    y.1.1.refusal))
    (only_these_turn (greedy is so n).kept (greedy is so m).kept (run n).well (run m).well (turns_grow is (empty_in l) (empty_sound l) n m h) i row d)

-- Where no number of the list is 16, no limit behind FULL is met.
pub none_full_listed : (stick : List ℕ) (l : Lent) → ((p : ℕ) → p < length (items_of stick) → number_for (items_of stick) (salvage_of stick l) p ≢ 16)
    → NoneFull (items_of stick) (salvage_of stick l)
none_full_listed stick l none p h e =
    let g = salvage_of stick l in
    ⊎_elim
    (λ (k : among p g.order ≡ true).
    let held : Held (place_in p g.order) ≡ Refused Full = sym (place_is_row stick l p k) ∙ e in
    let z : ◌≡◌ {A = ℕ} 0 1 = cc in
    omega arith)
    (λ (k : among p g.order ≡ false). none p h ((unkept_answer stick l p k).0 ∙ ap answer_number e))
    (true_or_false (among p g.order))

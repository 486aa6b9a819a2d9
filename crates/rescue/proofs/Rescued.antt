-- What a salvage that is done says of the lent memory.
-- Assumes nothing.
use Rattle.std.specs.Prelude.{Ok}
use Prim.Native.Nat.{ℕ, suc, ◌+◌, ◌-◌, ◌*◌, ◌≤◌, ◌<◌}
use mathlib.Core.Path.{◌≡◌, refl, sym, ap, subst, ◌∙◌}
use mathlib.Core.Bool.{true, false}
use mathlib.Core.List.{List, [], ◌∷◌}
use mathlib.Core.Logic.{⊎_elim}
use native.Mathlib.Omega.{arith}
use lib.ListN.{length, get_or}
use Rattle.basics.specs.Pick.{pick, either}
use Rattle.basics.proofs.Tests.{by_eqb, true_or_false, not_both_ways}
use Rattle.cutting.specs.Cutting.{items_of}
use Rattle.admission.specs.Answer.{answer_number, answer_row}
use Rattle.morning.specs.Intake.{Kept, answer_to, kept_after_all}
use Rattle.rescue.specs.Greedy.{Salvage, salvage_origin, item_of, among, is_done, items_in, place_in}
use Rattle.rescue.specs.Orders.{AllAdmitted}
use Rattle.rescue.specs.Rescued.{clean_items, ListedAs, kept_at, dropped_with, Rescued}
use Rattle.rescue.specs.Salvaging.{Lent, store_in, empty_in, salvage_of, Salvages}
use Rattle.rescue.specs.Wrote.{Wrote, RoomStays}
use Rattle.rescue.specs.declared.Clean.{Clean}
use Rattle.rescue.proofs.Answers.{kept_answer, unkept_answer}
use Rattle.rescue.proofs.Calls.{done_wrote}
use Rattle.rescue.proofs.Staying.{origin_0, room_stays}
use Rattle.rescue.proofs.Theorems.{clean_items_lem, clean_ordered, clean_leaves, nothing_more, zero_when_kept, salvage_rows}

-- A kept item stands at its place among the kept items.
pub at_place : (is : List (List ℕ)) (p : ℕ) (qs : List ℕ) → among p qs ≡ true
    → (1 ≤ place_in p qs) × ((place_in p qs ≤ length qs) × (item_of (items_in is qs) (place_in p qs - 1) ≡ item_of is p))
unfolding among place_in items_in
at_place is p [] e = absurd (not_both_ways false e refl)
at_place is p (q ∷ qs) e =
    by_eqb
    (λ b. either b (among p qs) ≡ true → (1 ≤ pick b 1 (suc (place_in p qs))) × ((pick b 1 (suc (place_in p qs)) ≤ suc (length qs))
    × (get_or (item_of is q ∷ items_in is qs) (pick b 1 (suc (place_in p qs)) - 1) [] ≡ item_of is p)))
    p q
    (λ z _. (omega arith, (omega arith, ap (item_of is) (sym z))))
    (λ z h.
    let x = at_place is p qs h in
    let n : suc (place_in p qs) - 1 ≡ suc (place_in p qs - 1) = omega (arith, x.0) in
    (omega arith, (omega (arith, x.1.0), ap (λ (m : ℕ). get_or (item_of is q ∷ items_in is qs) m []) n ∙ x.1.1)))
    e

-- As many items as numbers.
length_items : (is : List (List ℕ)) (qs : List ℕ) → length (items_in is qs) ≡ length qs
unfolding items_in
length_items is [] = refl
length_items is (q ∷ qs) = ap suc (length_items is qs)

-- WHAT A DONE SALVAGE SAYS.
pub done_says : (stick : List ℕ) (l l' : Lent) (c : Clean) → Salvages stick l l' (Ok c) → Rescued stick l l' c
done_says stick l l' c promise =
    record {
      in_order = subst (AllAdmitted (empty_in l)) (ap items_of (sym w.clean)) (clean_ordered stick l);
      many = ap length clean ∙ length_items is g.order ∙ sym (salvage_rows stick l).many ∙ ap (λ (k : Kept). k.store.counts.rows) (sym w.store);
      items = w.items;
      listed = λ p h. ⊎_elim (kept p h) (dropped p h) (true_or_false (among p g.order));
      ended = λ p h. ap (λ (k : Kept). is_done (answer_to k (item_of is p))) w.store ∙ nothing_more stick l p (omega (arith, w.items));
      store = w.store ∙ clean_leaves stick l ∙ ap (λ (x : List ℕ). kept_after_all (empty_in l) salvage_origin (items_of x)) (sym w.clean);
      origins =
          λ r s h.
          ap (λ (k : Kept). get_or k.origins (r - 1) 0) w.store
          ∙ origin_0 stick l r s (subst (λ (k : Kept). r ≤ k.store.counts.rows) w.store h);
      room = subst (RoomStays (empty_in l)) (sym w.store) (room_stays stick l);
    }
  where
    w : Wrote stick l l' c
    w = done_wrote stick l l' c promise

    is : List (List ℕ)
    is = items_of stick

    g : Salvage
    g = salvage_of stick l

    clean : clean_items l' c ≡ items_in is g.order
    clean = ap items_of w.clean ∙ clean_items_lem stick l

    kept : (p : ℕ) → p < c.items → among p g.order ≡ true → ListedAs l' c p (item_of is p)
    kept p h e =
        let a = kept_answer stick l p e in
        let x = at_place is p g.order e in
        let place : get_or l'.list (2 * p + 1) 0 ≡ place_in p g.order = w.place p h ∙ a.1 in
        let rows : c.counts.rows ≡ length g.order = ap (λ (k : Kept). k.store.counts.rows) w.store ∙ (salvage_rows stick l).many in
        kept_at (w.number p h ∙ a.0) (omega (arith, place, x.0)) (omega (arith, place, rows, x.1.0))
        (ap (λ (n : ℕ). item_of (clean_items l' c) (n - 1)) place
        ∙ ap (λ (js : List (List ℕ)). item_of js (place_in p g.order - 1)) clean
        ∙ x.1.1)

    dropped : (p : ℕ) → p < c.items → among p g.order ≡ false → ListedAs l' c p (item_of is p)
    dropped p h e =
        let a = unkept_answer stick l p e in
        let z : answer_to g.kept (item_of is p) ≡ answer_to (store_in l' c.counts) (item_of is p) =
        ap (λ (k : Kept). answer_to k (item_of is p)) (sym w.store) in
        dropped_with
        (λ n. not_both_ways (among p g.order) ((zero_when_kept stick l p (omega (arith, w.items))).0 (sym (w.number p h) ∙ n)) e)
        (w.number p h ∙ a.0 ∙ ap answer_number z) (w.place p h ∙ a.1 ∙ ap answer_row z)

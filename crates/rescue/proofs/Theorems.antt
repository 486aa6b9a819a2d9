-- What document 02, §11, says of a salvage: of every stick and all that is lent.
-- Assumes nothing.
use Prim.Native.Nat.{ℕ, ◌+◌, ◌≤◌, ◌<◌}
use mathlib.Core.Path.{◌≡◌, refl, sym, ap, subst, ◌∙◌}
use mathlib.Core.Bool.{Bool, true, false, not}
use mathlib.Core.List.{List}
use mathlib.Core.Logic.{⊎_elim, ◌↔◌}
use native.Mathlib.Omega.{arith}
use borrow.Author.Tests.{le-leb}
use lib.ListN.{length}
use Rattle.basics.specs.Pick.{pick, both}
use Rattle.basics.proofs.Tests.{true_or_false, not_both_ways}
use Rattle.cutting.specs.Cutting.{items_of, starts_whole, IsWhole, AllWhole}
use Rattle.cutting.proofs.Items.{items_joined}
use Rattle.cutting.proofs.Wholes.{whole_apart}
use Rattle.item.specs.Laid.{IsItem}
use Rattle.item.specs.Layout.{length_of}
use Rattle.item.specs.Offsets.{length_limit}
use Rattle.item.specs.declared.Fields.{Fields}
use Rattle.item.proofs.Places.{item_sound}
use Rattle.item.proofs.Verdict.{sound_passed}
use Rattle.store.proofs.Validity.{empty_well_formed}
use Rattle.admission.specs.Answer.{answer_number}
use Rattle.admission.specs.declared.Admitted.{Admitted}
use Rattle.admission.specs.declared.Admitted.TheVariants.{Done, Held, Refused}
use Rattle.answers.proofs.Distinct.{not_done as refused-not-done}
use Rattle.morning.specs.Intake.{Kept, Sound, answer_to, kept_after_all}
use Rattle.rescue.specs.Greedy.{Salvage, begun, salvage_origin, item_of, among, is_done, items_in, place_in}
use Rattle.rescue.specs.Orders.{AllAdmitted, none_left, admitted, HasId, Reached, NoneFull, NoClash}
use Rattle.rescue.specs.Salvaging.{Lent, empty_in, salvage_of, clean_of, number_for}
use Rattle.rescue.proofs.Growth.{done_accepted, sound_after}
use Rattle.rescue.proofs.Held.{Rows, rows_greedy, kept_held}
use Rattle.rescue.proofs.Exactly.{Ended, within_all}
use Rattle.rescue.proofs.Ordered.{Run, run_greedy, run_fits}
use Rattle.rescue.proofs.Turns.{greedy_ends}

-- "The lent store starts empty": a sound store, whatever its parts hold.
pub empty_sound : (l : Lent) → Sound (empty_in l)
empty_sound l = record { store = empty_well_formed l.keys l.ids l.rows l.deps l.branches; held = omega arith }

-- An item with fields is whole,
pub item_whole : (i : List ℕ) (f : Fields) → IsItem i f → IsWhole i
item_whole i f t =
    let p = sound_passed i f (item_sound i f t) in
    let e : length i ≡ 4 + length_of i = p.whole in
    let low : length_of i ≤ length_limit = omega (arith, p.full, p.payload_limit_lem, p.count_limit_lem) in
    let s : starts_whole i ≡ true =
    rw (le-leb 4 (length i) (omega arith), le-leb (length_of i) length_limit low, le-leb (4 + length_of i) (length i) (omega arith)) in
    record { starts = s; ends = ap (λ (b : Bool). pick b (4 + length_of i) (length i)) s ∙ sym e }

-- so is one that is admitted,
admitted_whole : (k : Kept) → Sound k → (i : List ℕ) (n : ℕ) → answer_to k i ≡ Done n → IsWhole i
admitted_whole k w i n d = let c = (done_accepted k w 0 i n d).0 in item_whole i c.0 c.1.item

-- and so are all that are admitted in turn.
all_whole : {k : Kept} {is : List (List ℕ)} → Sound k → AllAdmitted k is → AllWhole is
all_whole w (none_left k) = AllWhole.none
all_whole w (admitted k i is row e rest) = AllWhole.more i is (admitted_whole k w i row e) (all_whole (sound_after k w salvage_origin i) rest)

module _ (stick : List ℕ) (l : Lent) where
  -- The run of the salvage.
  pub salvage_run : Run (items_of stick) (empty_in l) (salvage_of stick l)
  salvage_run = run_greedy (items_of stick) (empty_in l) (empty_sound l) (length (items_of stick))

  -- The rows of the store are the kept items.
  pub salvage_rows : Rows (items_of stick) (salvage_of stick l)
  salvage_rows = rows_greedy (items_of stick) (empty_in l) (empty_sound l) refl (length (items_of stick))

  -- THE CLEAN INTAKE'S ITEMS are the kept items, in order.
  pub clean_items_lem : items_of (clean_of (items_of stick) (salvage_of stick l)) ≡ items_in (items_of stick) (salvage_of stick l).order
  clean_items_lem = whole_apart (all_whole (empty_sound l) salvage_run.in_turn)

  -- GREEDY ORDERED: "a clean intake in an order in which every item is admitted into an empty store";
  pub clean_ordered : AllAdmitted (empty_in l) (items_of (clean_of (items_of stick) (salvage_of stick l)))
  clean_ordered = subst (AllAdmitted (empty_in l)) (sym clean_items_lem) salvage_run.in_turn

  -- "The lent store .. ends with the kept items, origin 0".
  pub clean_leaves : (salvage_of stick l).kept ≡ kept_after_all (empty_in l) salvage_origin (items_of (clean_of (items_of stick) (salvage_of stick l)))
  clean_leaves = salvage_run.leaves ∙ ap (kept_after_all (empty_in l) salvage_origin) (sym clean_items_lem)

  -- The clean intake has no more bytes than the stick.
  pub clean_fits : length (clean_of (items_of stick) (salvage_of stick l)) ≤ length stick
  clean_fits = omega (arith, run_fits (items_of stick) (empty_in l) (salvage_of stick l) salvage_run, ap length (items_joined stick))

  -- NOTHING MORE: "this ends when none is": the final store admits no item.
  pub nothing_more : (p : ℕ) → p < length (items_of stick) → is_done (answer_to (salvage_of stick l).kept (item_of (items_of stick) p)) ≡ false
  nothing_more p h =
      let g = salvage_of stick l in
      let i = item_of (items_of stick) p in
      ⊎_elim
      (λ (e : among p g.order ≡ true). ap is_done (kept_held (items_of stick) g salvage_run.well salvage_rows p e))
      (λ (e : among p g.order ≡ false).
      ap (λ (b : Bool). both (not b) (is_done (answer_to g.kept i))) (sym e)
      ∙ greedy_ends (items_of stick) (begun (empty_in l)) refl p h)
      (true_or_false (among p g.order))

  -- KEPT HELD: the final store answers each kept item with HELD and its place, which is its row.
  pub place_is_row : (p : ℕ) → among p (salvage_of stick l).order ≡ true
      → answer_to (salvage_of stick l).kept (item_of (items_of stick) p) ≡ Held (place_in p (salvage_of stick l).order)
  place_is_row p e = kept_held (items_of stick) (salvage_of stick l) salvage_run.well salvage_rows p e

  -- The salvage has ended.
  pub salvage_ended : Ended (items_of stick) (salvage_of stick l)
  salvage_ended = record { well = salvage_run.well; rows = salvage_rows; numbers = salvage_run.items; ends = nothing_more }

  -- "0 .. when kept", and else never.
  pub zero_when_kept : (p : ℕ) → p < length (items_of stick)
      → (number_for (items_of stick) (salvage_of stick l) p ≡ 0) ↔ (among p (salvage_of stick l).order ≡ true)
  zero_when_kept p h = (
    λ e.
        ⊎_elim (λ (b : among p g.order ≡ true). b)
        (λ (b : among p g.order ≡ false).
        absurd (never (answer_to g.kept i) (nothing_more p h) (ap (λ (x : Bool). pick x 0 (answer_number (answer_to g.kept i))) (sym b) ∙ e)))
        (true_or_false (among p g.order)),
    λ b. ap (λ (x : Bool). pick x 0 (answer_number (answer_to g.kept i))) b,
  )
    where
      g : Salvage
      g = salvage_of stick l

      i : List ℕ
      i = item_of (items_of stick) p

      never : (a : Admitted) → is_done a ≡ false → answer_number a ≡ 0 → ⊥
      never (Done n) e z = not_both_ways true refl e
      never (Held r) e z = omega arith
      never (Refused why) e z = refused-not-done why z

  -- What is kept some order admits: that in which it was kept.
  pub kept_reached : (x : List ℕ) → HasId (salvage_of stick l).kept x → Reached (items_of stick) x
  kept_reached x h =
      record {
        lent = l;
        order = (salvage_of stick l).order;
        items = salvage_run.items;
        admits = subst (λ (k : Kept). HasId k x) salvage_run.leaves h;
      }

  -- KEPT EXACTLY WHEN: "Where no limit behind FULL is met, and no two items differ after the mark and share an id, an id is kept exactly when
  -- some order of some of the items admits it."
  pub kept_exactly_when : NoneFull (items_of stick) (salvage_of stick l) → NoClash (items_of stick) → (x : List ℕ)
      → HasId (salvage_of stick l).kept x ↔ Reached (items_of stick) x
  kept_exactly_when none apart x = (
    kept_reached x,
    λ r.
        let n =
        within_all (items_of stick) (salvage_of stick l) salvage_ended none apart r.order (empty_in r.lent) (empty_sound r.lent)
        (λ q m. absurd (omega (arith, m.some, m.held))) r.items in
        let y = n r.admits.row r.admits.has.message in
        record { row = y.row; has = record { message = y.has.message; id = y.has.id ∙ r.admits.has.id } },
  )

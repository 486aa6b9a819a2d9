-- Sticks with the same items in other orders, or with more of them: which ids are kept.
-- Assumes nothing.
use Prim.Native.Nat.{ℕ, ◌<◌}
use mathlib.Core.Path.{◌≡◌, refl, sym, ap, subst, ◌∙◌}
use mathlib.Core.Bool.{true, false}
use mathlib.Core.List.{List, [], ◌∷◌}
use mathlib.Core.Logic.{⊎_elim, ◌↔◌}
use borrow.Author.Tests.{eqb-true, eq-eqb}
use lib.Dec.{eqb}
use lib.ListN.{length}
use Rattle.basics.proofs.Tests.{either_cases, either_first, either_second, not_both_ways}
use Rattle.cutting.specs.Cutting.{items_of}
use Rattle.morning.specs.Intake.{kept_after_all}
use Rattle.rescue.specs.Greedy.{salvage_origin, item_of, among, items_in}
use Rattle.rescue.specs.Orders.{HasId, Reached, NoneFull, NoClash, ItemsAmong}
use Rattle.rescue.specs.Salvaging.{Lent, empty_in, salvage_of}
use Rattle.rescue.proofs.Theorems.{kept_exactly_when, kept_reached}

-- The numbers of an order, as the other stick has them.
unfoldable renumbered : (ℕ → ℕ) → List ℕ → List ℕ
renumbered f [] = []
renumbered f (p ∷ ps) = f p ∷ renumbered f ps

module _ (is js : List (List ℕ)) (a : ItemsAmong is js) where
  -- They are numbers of items there,
  renumbered_inside : (ps : List ℕ) → ((p : ℕ) → among p ps ≡ true → p < length is) → (q : ℕ) → among q (renumbered a.number ps) ≡ true → q < length js
  unfolding renumbered among
  renumbered_inside [] h q e = absurd (not_both_ways false e refl)
  renumbered_inside (p ∷ ps) h q e =
      ⊎_elim
      (λ (z : eqb q (a.number p) ≡ true).
      subst (λ (n : ℕ). n < length js) (sym (eqb-true q (a.number p) z)) (a.inside p (h p (either_first (eqb p p) (among p ps) (eq-eqb p p refl)))))
      (λ z. renumbered_inside ps (λ n m. h n (either_second (eqb n p) (among n ps) m)) q z)
      (either_cases (eqb q (a.number p)) (among q (renumbered a.number ps)) e)

  -- and of the same items.
  renumbered_items : (ps : List ℕ) → ((p : ℕ) → among p ps ≡ true → p < length is) → items_in js (renumbered a.number ps) ≡ items_in is ps
  unfolding renumbered items_in among
  renumbered_items [] h = refl
  renumbered_items (p ∷ ps) h =
      ap (λ (i : List ℕ). i ∷ items_in js (renumbered a.number ps)) (a.same p (h p (either_first (eqb p p) (among p ps) (eq-eqb p p refl))))
      ∙ ap (λ (r : List (List ℕ)). item_of is p ∷ r) (renumbered_items ps (λ n m. h n (either_second (eqb n p) (among n ps) m)))

  -- So what some order of the one's items admits, some order of the other's does.
  reached_among : (x : List ℕ) → Reached is x → Reached js x
  reached_among x r =
      record {
        lent = r.lent;
        order = renumbered a.number r.order;
        items = renumbered_inside r.order r.items;
        admits =
            subst (λ (items : List (List ℕ)). HasId (kept_after_all (empty_in r.lent) salvage_origin items) x)
            (sym (renumbered_items r.order r.items)) r.admits;
      }

-- MORE ITEMS NEVER LOSE AN ID: what is kept of a stick is kept of every stick that has its items too, whatever it has besides and in whatever
-- order, where no limit behind FULL is met there and no two of its items clash.
pub more_keeps_more : (a b : List ℕ) (l m : Lent) → ItemsAmong (items_of a) (items_of b) → NoneFull (items_of b) (salvage_of b m) → NoClash (items_of b)
    → (x : List ℕ) → HasId (salvage_of a l).kept x → HasId (salvage_of b m).kept x
more_keeps_more a b l m among-b none apart x h =
    (kept_exactly_when b m none apart x).1 (reached_among (items_of a) (items_of b) among-b x (kept_reached a l x h))

-- THE ORDER ON THE STICK DOES NOT MATTER for which ids are kept.
pub shuffled_keeps : (a b : List ℕ) (l m : Lent) → ItemsAmong (items_of a) (items_of b) → ItemsAmong (items_of b) (items_of a)
    → NoneFull (items_of a) (salvage_of a l) → NoneFull (items_of b) (salvage_of b m) → NoClash (items_of a) → NoClash (items_of b)
    → (x : List ℕ) → HasId (salvage_of a l).kept x ↔ HasId (salvage_of b m).kept x
shuffled_keeps a b l m i j n o c d x = (more_keeps_more a b l m i o d x, more_keeps_more b a m l j n c x)

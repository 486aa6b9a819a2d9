-- "The lent store starts empty", whatever its parts hold: what is salvaged depends on their lengths alone.
-- Assumes nothing.
use Prim.Native.Nat.{ℕ, zero, suc, ◌+◌}
use mathlib.Core.Path.{◌≡◌, refl, sym, ap, subst, ◌∙◌}
use mathlib.Core.Bool.{Bool, true, false, not}
use mathlib.Core.List.{List, [], ◌∷◌, ◌++◌}
use native.Mathlib.Omega.{arith}
use lib.Dec.{leb}
use lib.ListN.{length}
use Rattle.basics.specs.Pick.{pick, both}
use Rattle.basics.proofs.Tests.{by_ltb}
use Rattle.cutting.specs.Cutting.{items_of, joined}
use Rattle.store.specs.declared.lent.Counts.{Counts}
use Rattle.judging.specs.Verdict.{verdict_of}
use Rattle.judging.specs.declared.Verdict.{Verdict}
use Rattle.judging.specs.declared.Verdict.TheVariants.{Fits, Holds, Breaks}
use Rattle.judging.proofs.Beyond.{verdict_same}
use Rattle.admission.specs.After.{answer_of, store_after}
use Rattle.admission.specs.After as base
use Rattle.admission.specs.declared.Admitted.{Admitted}
use Rattle.admission.specs.declared.Admitted.TheVariants.{Done}
use Rattle.admission.proofs.Beyond.{Alike, same_left}
use Rattle.origins.specs.Origins.{without_place}
use Rattle.morning.specs.Intake.{Kept, Sound, answer_to, kept_after}
use Rattle.rescue.specs.Greedy.{Salvage, begun, salvage_origin, item_of, among, is_done, free, lowest, next_item, keep, turn, greedy, items_in}
use Rattle.rescue.specs.Orders.{AllAdmitted, none_left, admitted, SameRoom}
use Rattle.rescue.specs.Salvaging.{Lent, empty_in, salvage_of, clean_of, list_for}
use Rattle.rescue.proofs.Growth.{sound_after, grown_after}
use Rattle.rescue.proofs.Ordered.{run_greedy}
use Rattle.rescue.proofs.Theorems.{empty_sound, salvage_run}
use Rattle.rescue.proofs.Turns.{lowest_is, lowest_within, lowest_least, lowest_passes, turn_next, turn_none}

-- Two stores agree within the counts, and have parts and origins of equal lengths.
pub record AlikeKept (k l : Kept) : Type 0 where
  pub stores : Alike k.store l.store
  pub places : length k.origins ≡ length l.origins

module _ (k l : Kept) (w : Sound k) (v : Sound l) (a : AlikeKept k l) (i : List ℕ) where
  -- One verdict is one answer.
  one_verdict : (x : Verdict) → answer_of k.store x ≡ answer_of l.store x
  one_verdict (Fits row) = ap (λ (c : Counts). Done (c.rows + 1)) a.stores.agree.same_counts
  one_verdict (Holds r) = refl
  one_verdict (Breaks r) = refl

  -- Whether there is a place among the origins is the same.
  one_place : leb (length k.origins) k.store.counts.rows ≡ leb (length l.origins) l.store.counts.rows
  one_place = rw (a.places, a.stores.agree.same_counts)

  -- They answer an item alike,
  pub alike_answer : answer_to k i ≡ answer_to l i
  alike_answer =
      ap (λ (x : Verdict). answer_of k.store (pick (leb (length k.origins) k.store.counts.rows) (without_place x) x))
      (verdict_same k.store l.store a.stores.agree a.stores.lengths w.store i)
      ∙ ap (λ (b : Bool). answer_of k.store (pick b (without_place (verdict_of l.store i)) (verdict_of l.store i))) one_place
      ∙ one_verdict (pick (leb (length l.origins) l.store.counts.rows) (without_place (verdict_of l.store i)) (verdict_of l.store i))

  -- and are alike after it.
  pub alike_after : (g : ℕ) → AlikeKept (kept_after k g i) (kept_after l g i)
  alike_after g =
      record {
        stores =
            subst (λ (b : Bool). Alike (kept_after k g i).store (pick b l.store (store_after l.store i)))
            one_place (by_place (leb (length k.origins) k.store.counts.rows));
        places = sym (grown_after k w g i).places ∙ a.places ∙ (grown_after l v g i).places;
      }
    where
      by_place : (b : Bool) → Alike (pick b k.store (store_after k.store i)) (pick b l.store (store_after l.store i))
      by_place true = a.stores
      by_place false =
          same_left k.store l.store a.stores.agree a.stores.lengths i (store_after k.store i) (store_after l.store i)
          (answer_of k.store (verdict_of k.store i)) (answer_of l.store (verdict_of l.store i))
          (base.sound w.store (record { answer = refl; after = refl })) (base.sound v.store (record { answer = refl; after = refl }))

-- Tests that say the same have one lowest number.
lowest_same : (test check : ℕ → Bool) (n : ℕ) → ((p : ℕ) → test p ≡ check p) → lowest test n ≡ lowest check n
lowest_same test check n e =
    lowest_is test n (lowest check n) (lowest_within check n) (λ p h. e p ∙ lowest_least check n p h) (λ h. e (lowest check n) ∙ lowest_passes check n h)

-- Two salvages have kept the same items, and their stores are alike.
pub record AlikeSo (g h : Salvage) : Type 0 where
  pub stores : AlikeKept g.kept h.kept
  pub order : g.order ≡ h.order

-- One turn more.
alike_turn : (is : List (List ℕ)) (g h : Salvage) → Sound g.kept → Sound h.kept → AlikeSo g h → AlikeSo (turn is g) (turn is h)
alike_turn is g h w v a =
    by_ltb (λ _. AlikeSo (turn is g) (turn is h)) (next_item is g) (length is)
    (λ l.
    subst (λ (x : Salvage). AlikeSo x (turn is h)) (sym (turn_next is g l))
    (subst (λ (x : Salvage). AlikeSo (keep is g (next_item is g)) x) (sym (turn_next is h (omega (arith, next))))
    (subst (λ (p : ℕ). AlikeSo (keep is g (next_item is g)) (keep is h p)) next
    (record {
      stores = alike_after g.kept h.kept w v a.stores (item_of is (next_item is g)) salvage_origin;
      order = ap (λ (o : List ℕ). o ++ (next_item is g ∷ [])) a.order;
    }))))
    (λ l.
    subst (λ (x : Salvage). AlikeSo x (turn is h)) (sym (turn_none is g l))
    (subst (AlikeSo g) (sym (turn_none is h (omega (arith, next)))) a))
  where
    next : next_item is g ≡ next_item is h
    next =
        lowest_same (free is g) (free is h) (length is)
        (λ p.
        ap (λ (o : List ℕ). both (not (among p o)) (is_done (answer_to g.kept (item_of is p)))) a.order
        ∙ ap (λ (x : Admitted). both (not (among p h.order)) (is_done x)) (alike_answer g.kept h.kept w v a.stores (item_of is p)))

-- So many turns.
alike_greedy : (is : List (List ℕ)) (k l : Kept) → Sound k → Sound l → AlikeKept k l → (n : ℕ)
    → AlikeSo (greedy is (begun k) n) (greedy is (begun l) n)
unfolding greedy
alike_greedy is k l w v a zero = record { stores = a; order = refl }
alike_greedy is k l w v a (suc n) =
    alike_turn is (greedy is (begun k) n) (greedy is (begun l) n) (run_greedy is k w n).well (run_greedy is l v n).well
    (alike_greedy is k l w v a n)

-- Empty stores in parts of equal lengths are alike.
pub empty_alike : (l m : Lent) → SameRoom l m → AlikeKept (empty_in l) (empty_in m)
empty_alike l m r =
    record {
      stores =
          record {
            agree =
                record {
                  same_counts = refl;
                  within = record { same_keys = refl; same_ids = refl; same_rows = refl; same_deps = refl };
                  counted = record { same_firsts = refl; same_branches = refl };
                };
            lengths = record { keys = r.keys; ids = r.ids; rows = r.rows; deps = r.deps; branches = r.branches };
          };
      places = r.origins;
    }

-- The lists of two such salvages are one.
list_alike : (is : List (List ℕ)) (g h : Salvage) → Sound g.kept → Sound h.kept → AlikeSo g h → (n : ℕ) → list_for is g n ≡ list_for is h n
unfolding list_for
list_alike is g h w v a zero = refl
list_alike is g h w v a (suc n) =
    rw (list_alike is g h w v a n, a.order, alike_answer g.kept h.kept w v a.stores (item_of is n))

-- WHATEVER ITS PARTS HOLD: in lent parts of equal lengths the same items are kept in the same order, the clean intake and the list are the same,
-- and the stores agree within the same counts.
pub whatever_held : (stick : List ℕ) (l m : Lent) → SameRoom l m
    → (clean_of (items_of stick) (salvage_of stick l) ≡ clean_of (items_of stick) (salvage_of stick m))
    × ((list_for (items_of stick) (salvage_of stick l) (length (items_of stick)) ≡ list_for (items_of stick) (salvage_of stick m) (length (items_of stick)))
    × AlikeSo (salvage_of stick l) (salvage_of stick m))
whatever_held stick l m r =
    let is = items_of stick in
    let n = length is in
    let a = alike_greedy is (empty_in l) (empty_in m) (empty_sound l) (empty_sound m) (empty_alike l m r) n in (
      ap (λ (o : List ℕ). joined (items_in is o)) a.order,
      (
        list_alike is (salvage_of stick l) (salvage_of stick m) (salvage_run stick l).well (salvage_run stick m).well a n,
        a,
      ),
    )

-- Items that are admitted in turn by an empty store are so by every one in parts of those lengths.
pub alike_admitted : {k : Kept} {is : List (List ℕ)} → AllAdmitted k is → (l : Kept) → Sound k → Sound l → AlikeKept k l → AllAdmitted l is
alike_admitted (none_left k) l w v a = none_left l
alike_admitted (admitted k i is row e rest) l w v a =
    admitted l i is row (sym (alike_answer k l w v a i) ∙ e)
    (alike_admitted rest (kept_after l salvage_origin i) (sound_after k w salvage_origin i) (sound_after l v salvage_origin i)
    (alike_after k l w v a i salvage_origin))

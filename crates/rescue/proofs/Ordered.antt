-- The run of a salvage: each kept item is admitted in turn, and the store is the one that they leave.
-- Assumes nothing.
use Prim.Native.Nat.{ℕ, zero, suc, ◌+◌, ◌≤◌, ◌<◌}
use mathlib.Core.Path.{◌≡◌, refl, sym, ap, subst, ◌∙◌}
use mathlib.Core.Bool.{true, false, not}
use mathlib.Core.List.{List, [], ◌∷◌, ◌++◌, append_assoc, append-nil}
use mathlib.Core.Logic.{⊎_elim}
use native.Mathlib.Omega.{arith}
use borrow.Author.Tests.{eqb-true}
use lib.Dec.{eqb}
use lib.ListN.{length, length-append}
use Rattle.basics.proofs.Tests.{by_ltb, either_cases, both_right, not_both_ways}
use Rattle.cutting.specs.Cutting.{joined}
use Rattle.admission.specs.declared.Admitted.TheVariants.{Done}
use Rattle.morning.specs.Intake.{Kept, Sound, answer_to, kept_after, kept_after_all}
use Rattle.rescue.specs.Greedy.{Salvage, begun, salvage_origin, item_of, among, free, next_item, keep, turn, greedy, items_in}
use Rattle.rescue.specs.Salvaging.{clean_of}
use Rattle.rescue.specs.Growing.{Grown}
use Rattle.rescue.specs.Orders.{AllAdmitted, none_left, admitted}
use Rattle.rescue.proofs.Growth.{grown_still, grown_on, grown_after, sound_after}
use Rattle.rescue.proofs.Lost.{is_done_lem}
use Rattle.rescue.proofs.Sums.{among_more, sum_in, sum_within, sum_none, sum_more, sum_joined}
use Rattle.rescue.proofs.Turns.{turn_next, turn_none, next_free, free_new}

-- The items of an order with one more.
pub items_more : (is : List (List ℕ)) (ps : List ℕ) (p : ℕ) → items_in is (ps ++ (p ∷ [])) ≡ items_in is ps ++ (item_of is p ∷ [])
unfolding items_in
items_more is [] p = refl
items_more is (q ∷ ps) p = ap (λ (r : List (List ℕ)). item_of is q ∷ r) (items_more is ps p)

-- The bytes of one item more.
pub joined_more : (is : List (List ℕ)) (i : List ℕ) → joined (is ++ (i ∷ [])) ≡ joined is ++ i
unfolding joined
joined_more [] i = append-nil i
joined_more (j ∷ is) i = ap (λ (r : List ℕ). j ++ r) (joined_more is i) ∙ sym (append_assoc j (joined is) i)

-- What is kept after one item more.
pub after_more : (k : Kept) (g : ℕ) (is : List (List ℕ)) (i : List ℕ) → kept_after_all k g (is ++ (i ∷ [])) ≡ kept_after (kept_after_all k g is) g i
unfolding kept_after_all
after_more k g [] i = refl
after_more k g (j ∷ is) i = after_more (kept_after k g j) g is i

-- One item more that is admitted.
pub admitted_more : {k : Kept} {is : List (List ℕ)} → AllAdmitted k is → (i : List ℕ) (row : ℕ) → answer_to (kept_after_all k salvage_origin is) i ≡ Done row
    → AllAdmitted k (is ++ (i ∷ []))
unfolding kept_after_all
admitted_more (none_left k) i row e = admitted k i [] row e (none_left (kept_after k salvage_origin i))
admitted_more (admitted k j is r d rest) i row e = admitted k j (is ++ (i ∷ [])) r d (admitted_more rest i row e)

-- What is salvaged from `k` on: the store is sound and has grown of it; the kept items are admitted in turn and leave that store; each number
-- of the order is an item's, and none is there twice.
pub record Run (is : List (List ℕ)) (k : Kept) (g : Salvage) : Type 0 where
  pub well : Sound g.kept
  pub grown : Grown k g.kept
  pub leaves : g.kept ≡ kept_after_all k salvage_origin (items_in is g.order)
  pub in_turn : AllAdmitted k (items_in is g.order)
  pub items : (p : ℕ) → among p g.order ≡ true → p < length is
  pub weighs : length (clean_of is g) ≡ sum_in (λ p. length (item_of is p)) g.order (length is)

-- Nothing salvaged yet.
run_first : (is : List (List ℕ)) (k : Kept) → Sound k → Run is k (begun k)
unfolding kept_after_all items_in among joined
run_first is k w =
    record {
      well = w;
      grown = grown_still k;
      leaves = refl;
      in_turn = none_left k;
      items = λ p e. absurd (let z : false ≡ true = e in not_both_ways false z refl);
      weighs = sym (sum_none (λ p. length (item_of is p)) (length is));
    }

-- A free item is admitted.
pub free_done : (is : List (List ℕ)) (g : Salvage) (p : ℕ) → free is g p ≡ true → (row : ℕ) × (answer_to g.kept (item_of is p) ≡ Done row)
free_done is g p e = is_done_lem (answer_to g.kept (item_of is p)) (both_right (not (among p g.order)) _ e)

-- One free item more.
pub run_keep : (is : List (List ℕ)) (k : Kept) (g : Salvage) (p : ℕ) → p < length is → free is g p ≡ true → Run is k g → Run is k (keep is g p)
run_keep is k g p h f r =
    let d = free_done is g p f in
    let i = item_of is p in
    let e : answer_to (kept_after_all k salvage_origin (items_in is g.order)) i ≡ Done d.0 = ap (λ (x : Kept). answer_to x i) (sym r.leaves) ∙ d.1 in
    let n : (q : ℕ) → among q (g.order ++ (p ∷ [])) ≡ true → q < length is =
    λ q b.
    ⊎_elim (λ (c : among q g.order ≡ true). r.items q c) (λ (c : eqb q p ≡ true). omega (arith, eqb-true q p c))
    (either_cases (among q g.order) (eqb q p) (sym (among_more q g.order p) ∙ b)) in
    let weight : ℕ → ℕ = λ q. length (item_of is q) in
    let m : length (joined (items_in is (g.order ++ (p ∷ [])))) ≡ sum_in weight (g.order ++ (p ∷ [])) (length is) =
    ap (λ (x : List (List ℕ)). length (joined x)) (items_more is g.order p)
    ∙ ap length (joined_more (items_in is g.order) i)
    ∙ length-append (joined (items_in is g.order)) i
    ∙ ap (λ (x : ℕ). x + length i) r.weighs
    ∙ sym (sum_more weight g.order p (length is) h (free_new is g p f)) in
    record {
      well = sound_after g.kept r.well salvage_origin i;
      grown = grown_on k g.kept (kept_after g.kept salvage_origin i) r.grown (grown_after g.kept r.well salvage_origin i);
      leaves =
          ap (λ (x : Kept). kept_after x salvage_origin i) r.leaves
          ∙ sym (after_more k salvage_origin (items_in is g.order) i)
          ∙ ap (kept_after_all k salvage_origin) (sym (items_more is g.order p));
      in_turn = subst (AllAdmitted k) (sym (items_more is g.order p)) (admitted_more r.in_turn i d.0 e);
      items = n;
      weighs = m;
    }

-- One turn more.
pub run_turn : (is : List (List ℕ)) (k : Kept) (g : Salvage) → Run is k g → Run is k (turn is g)
run_turn is k g r =
    by_ltb (λ _. Run is k (turn is g)) (next_item is g) (length is)
    (λ l. subst (Run is k) (sym (turn_next is g l)) (run_keep is k g (next_item is g) l (next_free is g l) r))
    (λ l. subst (Run is k) (sym (turn_none is g l)) r)

-- So many turns.
pub run_greedy : (is : List (List ℕ)) (k : Kept) → Sound k → (n : ℕ) → Run is k (greedy is (begun k) n)
unfolding greedy
run_greedy is k w zero = run_first is k w
run_greedy is k w (suc n) = run_turn is k (greedy is (begun k) n) (run_greedy is k w n)

-- The clean intake has no more bytes than the items.
pub run_fits : (is : List (List ℕ)) (k : Kept) (g : Salvage) → Run is k g → length (clean_of is g) ≤ length (joined is)
run_fits is k g r = omega (arith, r.weighs, sum_within (λ p. length (item_of is p)) g.order (length is), sum_joined is)

-- The turns of a salvage: the lowest-numbered item, one turn, and that all ends after as many turns as there are items.
-- Assumes nothing.
use Prim.Native.Nat.{ℕ, zero, suc, ◌+◌, ◌≤◌, ◌<◌}
use mathlib.Core.Path.{◌≡◌, sym, ap, ◌∙◌}
use mathlib.Core.Bool.{Bool, true, false, not}
use mathlib.Core.List.{List, [], ◌∷◌, ◌++◌}
use mathlib.Core.Logic.{◌⊎◌, inl, inr, ⊎_elim}
use native.Mathlib.Omega.{arith}
use native.Mathlib.Nat.{eq-or-lt_of_le}
use native.Mathlib.Numerals.{add-one}
use borrow.Author.Tests.{lt-ltb, le-ltb, not-true}
use lib.ListN.{length, length-append}
use Rattle.basics.specs.Pick.{pick}
use Rattle.basics.proofs.Tests.{by_pick, by_ltb, true_or_false, not_both_ways, both_left}
use Rattle.rescue.specs.Greedy.{Salvage, among, free, lowest, next_item, keep, turn, greedy}
use Rattle.rescue.proofs.Sums.{sum_in, one, sum_none, sum_missing, sum_more}

-- The lowest number that passes is at most the number of all,
pub lowest_within : (test : ℕ → Bool) (n : ℕ) → lowest test n ≤ n
unfolding lowest
lowest_within test zero = omega arith
lowest_within test (suc n) =
    by_ltb (λ b. pick b (lowest test n) (pick (test n) n (suc n)) ≤ suc n) (lowest test n) n (λ h. omega arith)
    (λ h. by_pick (λ (m : ℕ). m ≤ suc n) (test n) n (suc n) (λ e. omega arith) (λ e. omega arith))

-- no lower one passes,
pub lowest_least : (test : ℕ → Bool) (n p : ℕ) → p < lowest test n → test p ≡ false
unfolding lowest
lowest_least test zero p h = absurd (omega arith)
lowest_least test (suc n) p h =
    by_ltb (λ b. p < pick b (lowest test n) (pick (test n) n (suc n)) → test p ≡ false) (lowest test n) n (λ l k. lowest_least test n p k)
    (λ l. by_pick (λ (m : ℕ). p < m → test p ≡ false) (test n) n (suc n) (λ e k. lowest_least test n p (omega arith))
    (λ e k. ⊎_elim (λ (z : p ≡ n). ap test z ∙ e) (λ (z : p < n). lowest_least test n p (omega arith)) (eq-or-lt_of_le (omega arith))))
    h

-- and it passes where it is below all.
pub lowest_passes : (test : ℕ → Bool) (n : ℕ) → lowest test n < n → test (lowest test n) ≡ true
unfolding lowest
lowest_passes test zero h = absurd (omega arith)
lowest_passes test (suc n) h =
    by_ltb (λ b. pick b (lowest test n) (pick (test n) n (suc n)) < suc n → test (pick b (lowest test n) (pick (test n) n (suc n))) ≡ true) (lowest test n) n
    (λ l k. lowest_passes test n l)
    (λ l. by_pick (λ (m : ℕ). m < suc n → test m ≡ true) (test n) n (suc n) (λ e k. e) (λ e k. absurd (omega arith)))
    h

-- No other number does all this.
pub lowest_is : (test : ℕ → Bool) (n m : ℕ) → m ≤ n → ((p : ℕ) → p < m → test p ≡ false) → (m < n → test m ≡ true) → lowest test n ≡ m
lowest_is test n m h low passes =
    by_ltb (λ _. lowest test n ≡ m) m (lowest test n)
    (λ l. absurd (not_both_ways (test m) (passes (omega (arith, lowest_within test n))) (lowest_least test n m l)))
    (λ l.
    ⊎_elim (λ z. z)
    (λ (z : lowest test n < m). absurd (not_both_ways (test (lowest test n)) (lowest_passes test n (omega arith)) (low (lowest test n) z)))
    (eq-or-lt_of_le l))

-- A turn at which an item is next keeps it,
pub turn_next : (is : List (List ℕ)) (g : Salvage) → next_item is g < length is → turn is g ≡ keep is g (next_item is g)
unfolding turn
turn_next is g h = ap (λ (b : Bool). pick b (keep is g (next_item is g)) g) (lt-ltb (next_item is g) (length is) h)

-- and one at which none is leaves all.
pub turn_none : (is : List (List ℕ)) (g : Salvage) → length is ≤ next_item is g → turn is g ≡ g
unfolding turn
turn_none is g h = ap (λ (b : Bool). pick b (keep is g (next_item is g)) g) (le-ltb (next_item is g) (length is) h)

-- One turn more.
pub greedy_more : (is : List (List ℕ)) (g : Salvage) (n : ℕ) → greedy is g (n + 1) ≡ turn is (greedy is g n)
unfolding greedy
greedy_more is g n = rw add-one

-- After a turn that kept nothing none does.
pub greedy_stays : (is : List (List ℕ)) (g : Salvage) (n m : ℕ) → n ≤ m → turn is (greedy is g n) ≡ greedy is g n → greedy is g m ≡ greedy is g n
unfolding greedy
greedy_stays is g n zero h e = let z : n ≡ zero = omega arith in ap (greedy is g) (sym z)
greedy_stays is g n (suc m) h e =
    ⊎_elim (λ (z : n ≡ suc m). ap (greedy is g) (sym z)) (λ (z : n < suc m). ap (turn is) (greedy_stays is g n m (omega arith) e) ∙ e) (eq-or-lt_of_le h)

-- THE NEXT ITEM: of what so many turns left, the lowest-numbered free item is the one that the next turn keeps.
pub greedy_next : (is : List (List ℕ)) (g s : Salvage) (n p : ℕ) → s ≡ greedy is g n → p < length is → ((q : ℕ) → q < p → free is s q ≡ false)
    → free is s p ≡ true → keep is s p ≡ greedy is g (n + 1)
greedy_next is g s n p e h low f =
    let z : next_item is s ≡ p = lowest_is (free is s) (length is) p (omega arith) low (λ _. f) in
    sym (greedy_more is g n ∙ ap (turn is) (sym e) ∙ turn_next is s (omega arith) ∙ ap (keep is s) z)

-- THE END: where no item is free all turns are made.
pub greedy_last : (is : List (List ℕ)) (g s : Salvage) (n : ℕ) → s ≡ greedy is g n → n ≤ length is → ((q : ℕ) → q < length is → free is s q ≡ false)
    → s ≡ greedy is g (length is)
greedy_last is g s n e h none =
    let z : next_item is s ≡ length is = lowest_is (free is s) (length is) (length is) (omega arith) none (λ l. absurd (omega arith)) in
    let t : turn is s ≡ s = turn_none is s (omega arith) in
    e ∙ sym (greedy_stays is g n (length is) h (ap (turn is) (sym e) ∙ t ∙ e))

-- An item that is next is free.
pub next_free : (is : List (List ℕ)) (g : Salvage) → next_item is g < length is → free is g (next_item is g) ≡ true
next_free is g h = lowest_passes (free is g) (length is) h

-- A free item is not kept yet.
pub free_new : (is : List (List ℕ)) (g : Salvage) (p : ℕ) → free is g p ≡ true → among p g.order ≡ false
free_new is g p e = not-true (among p g.order) (both_left (not (among p g.order)) _ e)

-- All turns are made, or each so far kept an item.
all_count : (is : List (List ℕ)) (g : Salvage) → g.order ≡ [] → (n : ℕ)
    → (turn is (greedy is g n) ≡ greedy is g n) ⊎ (sum_in one (greedy is g n).order (length is) ≡ n)
unfolding greedy
all_count is g e zero = inr (ap (λ (o : List ℕ). sum_in one o (length is)) e ∙ sum_none one (length is))
all_count is g e (suc n) = ⊎_elim (λ (z : turn is (greedy is g n) ≡ greedy is g n). inl (ap (turn is) z)) one_more (all_count is g e n)
  where
    one_more : sum_in one (greedy is g n).order (length is) ≡ n
        → (turn is (turn is (greedy is g n)) ≡ turn is (greedy is g n)) ⊎ (sum_in one (turn is (greedy is g n)).order (length is) ≡ suc n)
    one_more c =
        let s = greedy is g n in
        by_ltb (λ _. (turn is (turn is s) ≡ turn is s) ⊎ (sum_in one (turn is s).order (length is) ≡ suc n)) (next_item is s) (length is)
        (λ l.
        let new = free_new is s (next_item is s) (next_free is s l) in
        let m : sum_in one (s.order ++ (next_item is s ∷ [])) (length is) ≡ sum_in one s.order (length is) + 1 =
        sum_more one s.order (next_item is s) (length is) l new in
        inr (ap (λ (x : Salvage). sum_in one x.order (length is)) (turn_next is s l) ∙ m ∙ ap (λ (x : ℕ). x + 1) c ∙ add-one n))
        (λ l. inl (ap (turn is) (turn_none is s l)))

-- A turn that kept nothing found no free item.
none_free : (is : List (List ℕ)) (g : Salvage) → turn is g ≡ g → (p : ℕ) → p < length is → free is g p ≡ false
none_free is g e p h =
    by_ltb (λ _. free is g p ≡ false) (next_item is g) (length is)
    (λ l. absurd (longer g.order (next_item is g) (ap (λ (x : Salvage). x.order) (sym (turn_next is g l) ∙ e))))
    (λ l. lowest_least (free is g) (length is) p (omega arith))
  where
    longer : (qs : List ℕ) (q : ℕ) → qs ++ (q ∷ []) ≡ qs → ⊥
    longer qs q z = omega (arith, ap length z, length-append qs (q ∷ []))

-- GREEDY ENDS: after as many turns as there are items no item is free.
pub greedy_ends : (is : List (List ℕ)) (g : Salvage) → g.order ≡ [] → (p : ℕ) → p < length is → free is (greedy is g (length is)) p ≡ false
greedy_ends is g e p h =
    let s = greedy is g (length is) in
    ⊎_elim (λ z. none_free is s z p h)
    (λ (c : sum_in one s.order (length is) ≡ length is).
    ⊎_elim (λ (y : free is s p ≡ true). absurd (omega (arith, sum_missing s.order (length is) p h (free_new is s p y))))
    (λ (y : free is s p ≡ false). y) (true_or_false (free is s p)))
    (all_count is g e (length is))

-- The table of children: which rows follow none, which are tips of branches, and how many have a child.
-- Assumes nothing.
use Prim.Native.Nat.{ℕ, zero, suc, ◌+◌, ◌≤◌, ◌<◌}
use mathlib.Core.Path.{◌≡◌, refl, sym, ap, subst, ◌∙◌}
use mathlib.Core.Bool.{Bool, true, false, not}
use mathlib.Core.List.{List}
use mathlib.Core.Logic.{⊎_elim, ◌≢◌}
use native.Mathlib.Omega.{arith}
use native.Mathlib.Nat.{eq-or-lt_of_le}
use borrow.Author.Tests.{eq-eqb, ne_eqb}
use lib.Dec.{eqb}
use lib.ListN.{length, get_or, take, drop, length-drop}
use Rattle.std.specs.List.{count_by}
use Rattle.std.proofs.lemmas.List.Sums.{count_by_more_no, count_by_more_yes}
use Rattle.std.proofs.lemmas.Grind.{get_or_after_one}
use Rattle.basics.specs.Pick.{pick}
use Rattle.basics.proofs.Tests.{by_eqb}
use Rattle.store.specs.Table.{row_at, successors_in, branch_place}
use Rattle.store.specs.declared.Row.{Row}
use Rattle.review.specs.Children.{ChildOf, TipChild, MayLookAt, kids_in}

-- Where no row has the previous row `r` it has no successors,
none_counted_lem : (rows : List ℕ) (r n : ℕ) → ((q : ℕ) → q ≤ n → 1 ≤ q → (row_at rows q).prev ≢ r) → successors_in rows n r ≡ 0
unfolding successors_in
none_counted_lem rows r zero h = refl
none_counted_lem rows r (suc n) h =
    let e : eqb (row_at rows (suc n)).prev r ≡ false = ne_eqb _ _ (h (suc n) (omega arith) (omega arith)) in
    rw (none_counted_lem rows r n (λ q i. h q (omega arith)), e)

-- and where it has none, no row has it.
pub counted_none : (rows : List ℕ) (r n : ℕ) → successors_in rows n r ≡ 0 → (q : ℕ) → q ≤ n → 1 ≤ q → (row_at rows q).prev ≢ r
unfolding successors_in
counted_none rows r zero e q h k f = absurd (omega arith)
counted_none rows r (suc n) e q h k f =
    ⊎_elim
    (λ (i : q ≡ suc n).
    let t : eqb (row_at rows (suc n)).prev r ≡ true = eq-eqb _ _ (ap (λ (x : ℕ). (row_at rows x).prev) (sym i) ∙ f) in
    let z : successors_in rows n r + pick (eqb (row_at rows (suc n)).prev r) 1 0 ≡ 0 = e in
    let y : successors_in rows n r + 1 ≡ 0 = ap (λ (b : Bool). successors_in rows n r + pick b 1 0) (sym t) ∙ z in
    absurd (omega arith))
    (λ (i : q < suc n). let z : successors_in rows n r ≡ 0 = omega (arith, e) in counted_none rows r n z q (omega arith) k f) (eq-or-lt_of_le h)

module _ (rows branches : List ℕ) (n a last row : ℕ) (m : MayLookAt rows branches n row) where
  -- A row that another follows is no tip.
  pub tip_followed : get_or branches (branch_place row) 0 ≢ 0 → TipChild rows n a last row 0 × (0 ≤ row)
  tip_followed d = (
    record {
      found = λ z. absurd (z refl);
      none = λ z c b. d (m.counted.numbers row m.held m.some ∙ none_counted_lem rows row n b.unfollowed);
    },
    omega arith,
  )

  -- Any other row of the author is a tip exactly where it has a child.
  pub tip_of : (this : Row) (c : ℕ) → this ≡ row_at rows row → this.author ≡ a → get_or branches (branch_place row) 0 ≡ 0 → ChildOf rows last row c × (c ≤ row)
      → TipChild rows n a last row c × (c ≤ row)
  tip_of this c e f g k =
      let z : successors_in rows n row ≡ 0 = sym (m.counted.numbers row m.held m.some) ∙ g in (
        record {
          found = λ d.
              let h = k.0.found d in
              record {
                some = m.some;
                held = m.held;
                author = ap (λ (r : Row). r.author) (sym e) ∙ f;
                unfollowed = counted_none rows row n z;
                child_some = omega (arith, d);
                child_of_last = h.0;
                through = h.1;
              };
          none = λ d x b. k.0.none d x b.child_some b.child_of_last b.through;
        },
        k.1,
      )

-- A row with a child is counted,
pub kids_some : (kids : List ℕ) (n : ℕ) → get_or kids (n + 1) 0 ≢ 0 → kids_in kids (n + 1) ≡ kids_in kids n + 1
unfolding kids_in
kids_some kids n h =
    let s : n + 1 ≡ suc n = omega arith in
    let e : eqb (get_or kids (suc n) 0) 0 ≡ false = ne_eqb _ _ (λ z. h (ap (λ (k : ℕ). get_or kids k 0) s ∙ z)) in
    ap (kids_in kids) s ∙ ap (λ (b : Bool). kids_in kids n + pick b 0 1) e

-- and a row without is not.
pub kids_skip : (kids : List ℕ) (n : ℕ) → get_or kids (n + 1) 0 ≡ 0 → kids_in kids (n + 1) ≡ kids_in kids n
unfolding kids_in
kids_skip kids n h =
    let s : n + 1 ≡ suc n = omega arith in
    let e : eqb (get_or kids (suc n) 0) 0 ≡ true = eq-eqb _ _ (ap (λ (k : ℕ). get_or kids k 0) (sym s) ∙ h) in
    let z : kids_in kids n + 0 ≡ kids_in kids n = omega arith in
    ap (kids_in kids) s ∙ ap (λ (b : Bool). kids_in kids n + pick b 0 1) e ∙ z

-- The rows up to `n` that have a child are the numbers behind the first that are not 0.
pub kids_counted : (kids : List ℕ) (n : ℕ) → n < length kids → count_by (λ x. not (eqb x 0)) (take n (drop 1 kids)) ≡ kids_in kids n
unfolding kids_in
kids_counted kids zero h = refl
kids_counted kids (suc n) h =
    let s : n + 1 ≡ suc n = omega arith in
    let g : get_or (drop 1 kids) n 0 ≡ get_or kids (n + 1) 0 = get_or_after_one kids n 0 ∙ ap (λ k. get_or kids k 0) (omega arith) in
    let i = kids_counted kids n (omega arith) in
    let l : n < length (drop 1 kids) = omega (arith, length-drop 1 kids) in
    subst (λ k. count_by (λ x. not (eqb x 0)) (take k (drop 1 kids)) ≡ kids_in kids k) s
    (by_eqb (λ _. count_by (λ x. not (eqb x 0)) (take (n + 1) (drop 1 kids)) ≡ kids_in kids (n + 1)) (get_or kids (n + 1) 0) 0
    (λ e. count_by_more_no (λ x. not (eqb x 0)) (drop 1 kids) n 0 l (ap (λ x. not (eqb x 0)) (g ∙ e)) ∙ i ∙ sym (kids_skip kids n e))
    (λ d. count_by_more_yes (λ x. not (eqb x 0)) (drop 1 kids) n 0 l (ap not (ne_eqb _ _ (λ e. d (sym g ∙ e)))) ∙ ap (λ k. k + 1) i ∙ sym (kids_some kids n d)))

-- There are no more than rows.
pub kids_few : (kids : List ℕ) (n : ℕ) → kids_in kids n ≤ n
unfolding kids_in
kids_few kids zero = omega arith
kids_few kids (suc n) =
    by_eqb (λ (b : Bool). kids_in kids n + pick b 0 1 ≤ suc n) (get_or kids (suc n) 0) 0
    (λ e. let h = kids_few kids n in omega arith)
    (λ e. let h = kids_few kids n in omega arith)

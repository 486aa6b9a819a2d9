-- Laws of the branch counts: each row counts at one place, what a place counts, and a part into which one row more was counted.
-- Assumes nothing.
use Prim.Native.Nat.{ℕ, zero, suc, ◌+◌, ◌-◌, ◌≤◌, ◌<◌}
use mathlib.Core.Path.{◌≡◌, refl, sym, ap, ◌∙◌}
use mathlib.Core.Bool.{false}
use mathlib.Core.List.{List}
use mathlib.Core.Logic.{◌≢◌}
use native.Mathlib.Omega.{arith}
use native.Mathlib.Numerals.{add-one}
use native.Mathlib.Nat.{add-zero}
use lib.ListN.{length, take, drop, get_or, set}
use lib.Seq.{get_or-set_same, get_or-set_other, get_or-drop}
use lib.Dec.{eqb, ltb}
use borrow.Author.Tests.{eq-eqb, ne_eqb, eqb-true}
use Rattle.basics.specs.Pick.{pick, both}
use Rattle.basics.proofs.Tests.{by_eqb, by_ltb}
use Rattle.basics.proofs.Prefixes.{prefix_get_d}
use Rattle.chunks.proofs.Rest.{both_false}
use Rattle.store.specs.Limits.{row_limit, author_limit, branch_limit}
use Rattle.store.specs.Table.{row_at, first_place, branch_place, firsts_in, successors_in}
use Rattle.store.specs.Branches.{counted_at, counted_in, number_with, branches_with}
use Rattle.store.specs.declared.lent.Counts.{Counts}
use Rattle.store.specs.declared.Row.{Row}
use Rattle.store.proofs.Rows.{SameRows}

module _ (row : Row) where
  -- A row counts at an author's place exactly where it is a first message of the author,
  pub counts_first : (a : ℕ) → 1 ≤ a → a ≤ author_limit → eqb (counted_at row) (first_place a) ≡ both (eqb row.prev 0) (eqb row.author a)
  unfolding counted_at
  counts_first a h k =
      by_eqb
      (λ b. eqb (pick b (pick (eqb row.author 0) branch_limit (pick (ltb author_limit row.author) branch_limit (first_place row.author)))
      (pick (ltb row_limit row.prev) branch_limit (branch_place row.prev))) (first_place a) ≡ both b (eqb row.author a))
      row.prev 0
      (λ _. by_eqb
      (λ b. eqb (pick b branch_limit (pick (ltb author_limit row.author) branch_limit (first_place row.author))) (first_place a) ≡ eqb row.author a)
      row.author 0 (λ z. late (λ e. omega arith))
      (λ z. by_ltb (λ b. eqb (pick b branch_limit (first_place row.author)) (first_place a) ≡ eqb row.author a) author_limit row.author
      (λ l. late (λ e. omega arith))
      (λ l. by_eqb (λ b. eqb (first_place row.author) (first_place a) ≡ b) row.author a
      (λ e. eq-eqb (first_place row.author) (first_place a) (omega arith)) (λ n. ne_eqb (first_place row.author) (first_place a) (λ e. n (omega arith))))))
      (λ z. by_ltb (λ b. eqb (pick b branch_limit (branch_place row.prev)) (first_place a) ≡ false) row_limit row.prev
      (λ l. ne_eqb branch_limit (first_place a) (λ e. omega arith)) (λ l. ne_eqb (branch_place row.prev) (first_place a) (λ e. omega arith)))
    where
      late : row.author ≢ a → eqb branch_limit (first_place a) ≡ eqb row.author a
      late n = ne_eqb branch_limit (first_place a) (λ e. omega arith) ∙ sym (ne_eqb row.author a n)

  -- and at a row's place exactly where that is its previous row.
  pub counts_branch : (r : ℕ) → 1 ≤ r → r ≤ row_limit → eqb (counted_at row) (branch_place r) ≡ eqb row.prev r
  unfolding counted_at
  counts_branch r h k =
      by_eqb
      (λ b. eqb (pick b (pick (eqb row.author 0) branch_limit (pick (ltb author_limit row.author) branch_limit (first_place row.author)))
      (pick (ltb row_limit row.prev) branch_limit (branch_place row.prev))) (branch_place r) ≡ eqb row.prev r)
      row.prev 0
      (λ z. by_author ∙ sym (ne_eqb row.prev r (λ e. omega arith)))
      (λ z. by_ltb (λ b. eqb (pick b branch_limit (branch_place row.prev)) (branch_place r) ≡ eqb row.prev r) row_limit row.prev
      (λ l. ne_eqb branch_limit (branch_place r) (λ e. omega arith) ∙ sym (ne_eqb row.prev r (λ e. omega arith)))
      (λ l. by_eqb (λ b. eqb (branch_place row.prev) (branch_place r) ≡ b) row.prev r
      (λ e. eq-eqb (branch_place row.prev) (branch_place r) (omega arith)) (λ n. ne_eqb (branch_place row.prev) (branch_place r) (λ e. n (omega arith)))))
    where
      by_author : eqb (pick (eqb row.author 0) branch_limit (pick (ltb author_limit row.author) branch_limit (first_place row.author))) (branch_place r)
          ≡ false
      by_author =
          by_eqb (λ b. eqb (pick b branch_limit (pick (ltb author_limit row.author) branch_limit (first_place row.author))) (branch_place r) ≡ false)
          row.author 0 (λ z. ne_eqb branch_limit (branch_place r) (λ e. omega arith))
          (λ z. by_ltb (λ b. eqb (pick b branch_limit (first_place row.author)) (branch_place r) ≡ false) author_limit row.author
          (λ l. ne_eqb branch_limit (branch_place r) (λ e. omega arith)) (λ l. ne_eqb (first_place row.author) (branch_place r) (λ e. omega arith)))

  -- A first message of a store's author counts at the author's place,
  pub at_first : row.prev ≡ 0 → 1 ≤ row.author → row.author ≤ author_limit → counted_at row ≡ first_place row.author
  at_first z h k = eqb-true _ _ (counts_first row.author h k ∙ rw (eq-eqb row.prev 0 z, eq-eqb row.author row.author refl))

  -- any other row of a store at its previous row's.
  pub at_branch : 1 ≤ row.prev → row.prev ≤ row_limit → counted_at row ≡ branch_place row.prev
  at_branch h k = eqb-true _ _ (counts_branch row.prev h k ∙ eq-eqb row.prev row.prev refl)

module _ (rows : List ℕ) where
  -- One row more counts at its place.
  pub counted_more : (n p : ℕ) → counted_in rows (n + 1) p ≡ counted_in rows n p + pick (eqb (counted_at (row_at rows (n + 1))) p) 1 0
  unfolding counted_in
  counted_more n p = rw add-one

  pub firsts_more : (n a : ℕ)
      → firsts_in rows (n + 1) a ≡ firsts_in rows n a + pick (both (eqb (row_at rows (n + 1)).prev 0) (eqb (row_at rows (n + 1)).author a)) 1 0
  unfolding firsts_in
  firsts_more n a = rw add-one

  pub successors_more : (n r : ℕ) → successors_in rows (n + 1) r ≡ successors_in rows n r + pick (eqb (row_at rows (n + 1)).prev r) 1 0
  unfolding successors_in
  successors_more n r = rw add-one

  -- No place counts more rows than there are.
  pub counted_few : (n p : ℕ) → counted_in rows n p ≤ n
  unfolding counted_in
  counted_few zero p = omega arith
  counted_few (suc n) p =
      let h = counted_few n p in
      by_eqb (λ b. counted_in rows n p + pick b 1 0 ≤ suc n) (counted_at (row_at rows (suc n))) p (λ _. omega arith) (λ _. omega arith)

  -- An author's place counts its first messages,
  pub counted_firsts : (a : ℕ) → 1 ≤ a → a ≤ author_limit → (n : ℕ) → counted_in rows n (first_place a) ≡ firsts_in rows n a
  unfolding counted_in firsts_in
  counted_firsts a h k zero = refl
  counted_firsts a h k (suc n) = rw (counted_firsts a h k n, counts_first (row_at rows (suc n)) a h k)

  -- and a row's place the rows that follow it.
  pub counted_branches : (r : ℕ) → 1 ≤ r → r ≤ row_limit → (n : ℕ) → counted_in rows n (branch_place r) ≡ successors_in rows n r
  unfolding counted_in successors_in
  counted_branches r h k zero = refl
  counted_branches r h k (suc n) = rw (counted_branches r h k n, counts_branch (row_at rows (suc n)) r h k)

  -- No row follows one that is no row's previous row,
  pub none_follow : (r n : ℕ) → ((i : ℕ) → i ≤ n → 1 ≤ i → (row_at rows i).prev ≢ r) → successors_in rows n r ≡ 0
  unfolding successors_in
  none_follow r zero h = refl
  none_follow r (suc n) h = rw (none_follow r n (λ i l. h i (omega arith)), ne_eqb _ _ (h (suc n) (omega arith) (omega arith)))

  -- and an author that no row has, has no first messages.
  pub none_begin : (a n : ℕ) → ((i : ℕ) → i ≤ n → 1 ≤ i → (row_at rows i).author ≢ a) → firsts_in rows n a ≡ 0
  unfolding firsts_in
  none_begin a zero h = refl
  none_begin a (suc n) h =
      rw (none_begin a n (λ i l. h i (omega arith)), ne_eqb _ _ (h (suc n) (omega arith) (omega arith)), both_false (eqb (row_at rows (suc n)).prev 0))

  -- A table that counts the first `i` rows, with the next one counted at its place, counts one row more.
  pub counts_turn : (counts : List ℕ) (i at v : ℕ) → ((p : ℕ) → get_or counts p 0 ≡ counted_in rows i p) → at < length counts
      → at ≡ counted_at (row_at rows (i + 1)) → v ≡ get_or counts at 0 + 1
      → (p : ℕ) → get_or (set counts at v) p 0 ≡ counted_in rows (i + 1) p
  counts_turn counts i at v c h e g p =
      by_eqb (λ b. get_or (set counts at v) p 0 ≡ counted_in rows i p + pick b 1 0) at p
      (λ q. ap (λ (x : ℕ). get_or (set counts at v) x 0) (sym q) ∙ get_or-set_same counts at v 0 h ∙ g ∙ ap (λ (x : ℕ). x + 1) (c at ∙ ap (counted_in rows i) q))
      (λ n. get_or-set_other counts at p v 0 (λ q. n (sym q)) ∙ c p ∙ sym (add-zero (counted_in rows i p)))
      ∙ ap (λ (x : ℕ). counted_in rows i p + pick (eqb x p) 1 0) e
      ∙ sym (counted_more i p)

-- The two numbers that counting a row writes are those of the definition.
pub counted_row : (branches : List ℕ) (c : Counts) (row : Row) (at v : ℕ) → at ≡ counted_at row → v ≡ number_with branches c row
    → set (set branches at v) (author_limit + c.rows) 0 ≡ branches_with branches c row
counted_row branches c row at v e g = let z : c.rows + 1 - 1 ≡ c.rows = omega arith in rw (e, g, z)

-- The same rows have the same first messages,
pub firsts_agree : (rows others : List ℕ) (a n : ℕ) → SameRows rows others n → firsts_in rows n a ≡ firsts_in others n a
unfolding firsts_in
firsts_agree rows others a zero s = refl
firsts_agree rows others a (suc n) s =
    let e : row_at rows (suc n) ≡ row_at others (suc n) = s (suc n) (omega arith) in
    rw (e, firsts_agree rows others a n (λ r h. s r (omega arith)))

-- and the same followers.
pub successors_agree : (rows others : List ℕ) (r n : ℕ) → SameRows rows others n → successors_in rows n r ≡ successors_in others n r
unfolding successors_in
successors_agree rows others r zero s = refl
successors_agree rows others r (suc n) s =
    let e : row_at rows (suc n) ≡ row_at others (suc n) = s (suc n) (omega arith) in
    rw (e, successors_agree rows others r n (λ k h. s k (omega arith)))

-- What the first places of a list and those after the authors' hold, read of two lists that agree there.
pub same_first : (s u : List ℕ) (n a : ℕ) → 1 ≤ a → a ≤ n → take n s ≡ take n u → get_or s (first_place a) 0 ≡ get_or u (first_place a) 0
same_first s u n a h k e = prefix_get_d n (first_place a) s u 0 (omega arith) e

pub same_branch : (s u : List ℕ) (n r : ℕ) → 1 ≤ r → r ≤ n → take n (drop author_limit s) ≡ take n (drop author_limit u)
    → get_or s (branch_place r) 0 ≡ get_or u (branch_place r) 0
same_branch s u n r h k e =
    sym (get_or-drop author_limit s (r - 1) 0) ∙ prefix_get_d n (r - 1) (drop author_limit s) (drop author_limit u) 0 (omega arith) e
    ∙ get_or-drop author_limit u (r - 1) 0

-- Document 02, §8: the branch counts of a store into which one row more was written.
-- Assumes nothing.
use Prim.Native.Nat.{ℕ, ◌+◌, ◌≤◌, ◌<◌}
use mathlib.Core.Path.{◌≡◌, refl, sym, ap, ◌∙◌}
use mathlib.Core.List.{List}
use mathlib.Core.Logic.{◌≢◌, ⊎_elim}
use native.Mathlib.Omega.{arith}
use native.Mathlib.Nat.{eq-zero-or-pos, eq-or-lt_of_le, add-zero}
use lib.ListN.{length, take, drop, get_or, set, length-set, length-drop}
use lib.Dec.{eqb, ltb}
use lib.Seq.{get_or-set_same, get_or-set_other, get_or-take, get_or-drop, length-take-le, ext_get_or}
use borrow.Author.Tests.{lt-ltb, le-ltb, eq-eqb, eqb-true}
use Rattle.basics.specs.Pick.{pick, both}
use Rattle.basics.proofs.Prefixes.{prefix_get_d}
use Rattle.basics.proofs.Tests.{by_eqb, by_leb, by_ltb, by_test, both_left, both_right, not_both_ways}
use Rattle.store.specs.Agree.{SameBranches}
use Rattle.store.specs.Branches.{counted_at, counted_in, number_with, branches_with, Countable}
use Rattle.store.specs.Limits.{row_limit, author_limit}
use Rattle.store.specs.Table.{Table, WellFormed, first_place, branch_place, firsts_of, branches_of}
use Rattle.store.specs.declared.Row.{Row}
use Rattle.store.proofs.Counting.{counts_first, counts_branch, at_first, at_branch, counted_few, counted_firsts, counted_branches, same_first, same_branch}
use Rattle.judging.specs.Message.{next_row}
use Rattle.admission.specs.Grown.{BranchesGrow}
use Rattle.admission.proofs.Growing.{Room}

-- Lists that have the same first elements begin alike.
same_take : (n : ℕ) (s u : List ℕ) → n ≤ length s → n ≤ length u → ((i : ℕ) → i < n → get_or s i 0 ≡ get_or u i 0) → take n s ≡ take n u
same_take n s u h k e =
    let a : length (take n s) ≡ n = length-take-le n s h in
    ext_get_or 0 (take n s) (take n u) (a ∙ sym (length-take-le n u k))
    (λ i l. get_or-take n s i 0 (omega arith) ∙ e i (omega arith) ∙ sym (get_or-take n u i 0 (omega arith)))

-- The same two numbers set in two lists: what a place holds is the same where it was the same, or is one of the two places.
set_same : (s u : List ℕ) (at own v i : ℕ) → at < length s → at < length u → own < length s → own < length u
    → (i ≢ own → i ≢ at → get_or s i 0 ≡ get_or u i 0) → get_or (set (set s at v) own 0) i 0 ≡ get_or (set (set u at v) own 0) i 0
set_same s u at own v i a b c d h =
    by_eqb (λ _. get_or (set (set s at v) own 0) i 0 ≡ get_or (set (set u at v) own 0) i 0) i own
    (λ q.
    rw q (get_or-set_same (set s at v) own 0 0 (rw length-set c) ∙ sym (get_or-set_same (set u at v) own 0 0 (rw length-set d))))
    (λ n. get_or-set_other (set s at v) own i 0 0 n
    ∙ by_eqb (λ _. get_or (set s at v) i 0 ≡ get_or (set u at v) i 0) i at
    (λ q. rw q (get_or-set_same s at v 0 a ∙ sym (get_or-set_same u at v 0 b)))
    (λ m. get_or-set_other s at i v 0 m ∙ h n m ∙ sym (get_or-set_other u at i v 0 m))
    ∙ sym (get_or-set_other (set u at v) own i 0 0 n))

-- The author and the previous row of a row that is to be counted.
pub record Placed (t : Table) (row : Row) : Type 0 where
  pub author_some : 1 ≤ row.author
  pub author_next : row.author ≤ t.counts.authors + 1
  pub prev_held : row.prev ≤ t.counts.rows
  pub prev_known : 1 ≤ row.prev → row.author ≤ t.counts.authors

module _ (t : Table) (row : Row) (w : WellFormed t) (room : Room t row) (p : Placed t row) where
  -- The author's number keeps the limit.
  pub author_limit_lem : row.author ≤ author_limit
  author_limit_lem =
      by_leb (λ _. row.author ≤ author_limit) row.author t.counts.authors
      (λ h. omega (arith, w.authors_limit)) (λ h. let k = room.authors_limit h in omega (arith, p.author_next))

  -- The row counts at its author's place,
  place_first : row.prev ≡ 0 → counted_at row ≡ first_place row.author
  place_first z = at_first row z p.author_some author_limit_lem

  -- or at its previous row's.
  place_branch : 1 ≤ row.prev → counted_at row ≡ branch_place row.prev
  place_branch h = at_branch row h (omega (arith, p.prev_held, w.rows_limit))

  -- A new author's row has no previous row.
  pub new_first : t.counts.authors < row.author → row.prev ≡ 0
  new_first h = ⊎_elim (λ z. z) (λ k. let l = p.prev_known k in absurd (omega arith)) (eq-zero-or-pos row.prev)

  -- The part has the row's place,
  place_held : counted_at row < length t.branches
  place_held =
      ⊎_elim
      (λ z. let e = place_first z in
      by_leb (λ _. counted_at row < length t.branches) row.author t.counts.authors
      (λ h. omega (arith, p.author_some, w.firsts_held))
      (λ h. let k = room.firsts_place h in omega (arith, p.author_some, p.author_next)))
      (λ h. let e = place_branch h in omega (arith, p.prev_held, w.branches_held))
      (eq-zero-or-pos row.prev)

  -- and the place of its own number, which is another.
  own_held : branch_place (next_row t) < length t.branches
  own_held = omega (arith, room.branches_place)

  pub place_other : counted_at row ≢ branch_place (next_row t)
  place_other q =
      ⊎_elim
      (λ z. let e = place_first z in omega (arith, author_limit_lem, p.author_some))
      (λ h. let e = place_branch h in omega (arith, p.prev_held))
      (eq-zero-or-pos row.prev)

  -- The number at the place of a known author's row is at most the number of rows.
  raisable : row.author ≤ t.counts.authors → get_or t.branches (counted_at row) 0 ≤ row_limit
  raisable k =
      ⊎_elim
      (λ z.
      let e : get_or t.branches (counted_at row) 0 ≡ counted_in t.rows t.counts.rows (first_place row.author) =
      ap (λ (i : ℕ). get_or t.branches i 0) (place_first z) ∙ w.firsts_right row.author k p.author_some
      ∙ sym (counted_firsts t.rows row.author p.author_some author_limit_lem t.counts.rows) in
      omega (arith, counted_few t.rows t.counts.rows (first_place row.author), w.rows_limit))
      (λ h.
      let l : row.prev ≤ row_limit = omega (arith, p.prev_held, w.rows_limit) in
      let e : get_or t.branches (counted_at row) 0 ≡ counted_in t.rows t.counts.rows (branch_place row.prev) =
      ap (λ (i : ℕ). get_or t.branches i 0) (place_branch h) ∙ w.branches_right row.prev p.prev_held h
      ∙ sym (counted_branches t.rows row.prev h l t.counts.rows) in
      omega (arith, counted_few t.rows t.counts.rows (branch_place row.prev), w.rows_limit))
      (eq-zero-or-pos row.prev)

  -- The row can be counted.
  pub countable : Countable t.branches t.counts row
  countable = record { place = place_held; own_place = own_held; raisable = raisable }

  -- What stands at the row's place then.
  at_place : get_or (branches_with t.branches t.counts row) (counted_at row) 0 ≡ number_with t.branches t.counts row
  at_place =
      get_or-set_other (set t.branches (counted_at row) (number_with t.branches t.counts row)) (branch_place (next_row t)) (counted_at row) 0 0 place_other
      ∙ get_or-set_same t.branches (counted_at row) (number_with t.branches t.counts row) 0 place_held

  -- A known author's row adds one there.
  raised : row.author ≤ t.counts.authors → (i : ℕ) → counted_at row ≡ i
      → get_or (branches_with t.branches t.counts row) i 0 ≡ get_or t.branches i 0 + 1
  raised h i e =
      ap (λ (x : ℕ). get_or (branches_with t.branches t.counts row) x 0) (sym e) ∙ at_place ∙ rw (le-ltb t.counts.authors row.author h)
      (ap (λ (x : ℕ). get_or t.branches x 0 + 1) e)

  -- The branch counts after the row are the old ones with the row counted.
  pub branches_grow : (u : Table) → u.branches ≡ branches_with t.branches t.counts row → BranchesGrow t u row
  branches_grow u e =
      record {
        own =
            read (branch_place (next_row t))
            ∙ get_or-set_same (set t.branches (counted_at row) (number_with t.branches t.counts row)) (branch_place (next_row t)) 0 0
            (rw length-set own_held);
        previous = λ h. read (branch_place row.prev) ∙ raised (p.prev_known h) (branch_place row.prev) (place_branch h);
        author_known = λ z h. read (first_place row.author) ∙ raised h (first_place row.author) (place_first z);
        author_new = λ h.
            read (first_place row.author)
            ∙ ap (λ (x : ℕ). get_or (branches_with t.branches t.counts row) x 0) (sym (place_first (new_first h))) ∙ at_place
            ∙ rw (lt-ltb t.counts.authors row.author h);
        others = λ i n m.
            read i
            ∙ get_or-set_other (set t.branches (counted_at row) (number_with t.branches t.counts row)) (branch_place (next_row t)) i 0 0 n
            ∙ get_or-set_other t.branches (counted_at row) i (number_with t.branches t.counts row) 0 m;
        branches_length = rw e (rw (length-set, length-set) refl);
      }
    where
      read : (i : ℕ) → get_or u.branches i 0 ≡ get_or (branches_with t.branches t.counts row) i 0
      read i = ap (λ (l : List ℕ). get_or l i 0) e

  -- "Entries beyond the counts are never read": another store with the same numbers of the rows and authors, in a part as long.
  module _ (u : Table) (b : SameBranches t u t.counts.rows t.counts.authors) (l : length t.branches ≡ length u.branches) where
    -- The number of a known author's row is the same,
    place_same : row.author ≤ t.counts.authors → get_or t.branches (counted_at row) 0 ≡ get_or u.branches (counted_at row) 0
    place_same h =
        ⊎_elim
        (λ z. rw (place_first z) (same_first t.branches u.branches t.counts.authors row.author p.author_some h b.same_firsts))
        (λ k. rw (place_branch k) (same_branch t.branches u.branches t.counts.rows row.prev k p.prev_held b.same_branches))
        (eq-zero-or-pos row.prev)

    -- so is the one that is written there,
    number_same : number_with t.branches t.counts row ≡ number_with u.branches t.counts row
    number_same =
        by_leb (λ _. number_with t.branches t.counts row ≡ number_with u.branches t.counts row) row.author t.counts.authors
        (λ h. rw (le-ltb t.counts.authors row.author h) (ap (λ (x : ℕ). x + 1) (place_same h)))
        (λ h. rw (lt-ltb t.counts.authors row.author h) refl)

    -- and what any place holds then.
    written_same : (i : ℕ) → (i ≢ branch_place (next_row t) → i ≢ counted_at row → get_or t.branches i 0 ≡ get_or u.branches i 0)
        → get_or (branches_with t.branches t.counts row) i 0 ≡ get_or (branches_with u.branches t.counts row) i 0
    written_same i h =
        set_same t.branches u.branches (counted_at row) (branch_place (next_row t)) (number_with t.branches t.counts row) i
        place_held (omega (arith, place_held)) own_held (omega (arith, own_held)) h
        ∙ ap (λ (v : ℕ). get_or (set (set u.branches (counted_at row) v) (branch_place (next_row t)) 0) i 0) number_same

    -- The part keeps its length.
    pub counted_length : length (branches_with t.branches t.counts row) ≡ length (branches_with u.branches t.counts row)
    counted_length = rw (length-set, length-set, length-set, length-set) l

    -- The numbers of the authors are the same after the row,
    pub firsts_left : take (pick (ltb t.counts.authors row.author) row.author t.counts.authors) (branches_with t.branches t.counts row)
        ≡ take (pick (ltb t.counts.authors row.author) row.author t.counts.authors) (branches_with u.branches t.counts row)
    firsts_left =
        let e : length (branches_with t.branches t.counts row) ≡ length t.branches = rw (length-set, length-set) refl in
        let f = counted_length in
        by_ltb
        (λ x. take (pick x row.author t.counts.authors) (branches_with t.branches t.counts row)
        ≡ take (pick x row.author t.counts.authors) (branches_with u.branches t.counts row))
        t.counts.authors row.author
        (λ h.
        let k = room.firsts_place h in
        let q = place_first (new_first h) in
        same_take row.author (branches_with t.branches t.counts row) (branches_with u.branches t.counts row)
        (omega (arith, p.author_next)) (omega (arith, p.author_next))
        (λ i j. written_same i (λ n m. old i (λ z. m (omega (arith, p.author_next))) (omega (arith, p.author_next)))))
        (λ h.
        same_take t.counts.authors (branches_with t.branches t.counts row) (branches_with u.branches t.counts row)
        (omega (arith, w.firsts_held)) (omega (arith, w.firsts_held))
        (λ i j. written_same i (λ n m. prefix_get_d t.counts.authors i t.branches u.branches 0 j b.same_firsts)))
      where
        old : (i : ℕ) → i ≢ t.counts.authors → i ≤ t.counts.authors → get_or t.branches i 0 ≡ get_or u.branches i 0
        old i n h = prefix_get_d t.counts.authors i t.branches u.branches 0 (⊎_elim (λ z. absurd (n z)) (λ k. k) (eq-or-lt_of_le h)) b.same_firsts

    -- and so are those of the rows.
    pub branches_left : take (next_row t) (drop author_limit (branches_with t.branches t.counts row))
        ≡ take (next_row t) (drop author_limit (branches_with u.branches t.counts row))
    branches_left =
        let e : length (branches_with t.branches t.counts row) ≡ length t.branches = rw (length-set, length-set) refl in
        let f = counted_length in
        same_take (next_row t) (drop author_limit (branches_with t.branches t.counts row)) (drop author_limit (branches_with u.branches t.counts row))
        (rw length-drop (omega (arith, room.branches_place))) (rw length-drop (omega (arith, room.branches_place)))
        (λ i j.
        get_or-drop author_limit (branches_with t.branches t.counts row) i 0
        ∙ written_same (author_limit + i) (λ n m. old i (λ (z : i ≡ t.counts.rows). n (omega arith)) (omega arith))
        ∙ sym (get_or-drop author_limit (branches_with u.branches t.counts row) i 0))
      where
        old : (i : ℕ) → i ≢ t.counts.rows → i ≤ t.counts.rows → get_or t.branches (author_limit + i) 0 ≡ get_or u.branches (author_limit + i) 0
        old i n h =
            sym (get_or-drop author_limit t.branches i 0)
            ∙ prefix_get_d t.counts.rows i (drop author_limit t.branches) (drop author_limit u.branches) 0
            (⊎_elim (λ z. absurd (n z)) (λ k. k) (eq-or-lt_of_le h)) b.same_branches
            ∙ get_or-drop author_limit u.branches i 0

module _ (t u : Table) (row : Row) (w : WellFormed t) (b : BranchesGrow t u row) where
  -- What was counted of an old row, with the new row that may follow it.
  pub branches_old : (r : ℕ) → r ≤ t.counts.rows → 1 ≤ r → branches_of u r ≡ branches_of t r + pick (eqb row.prev r) 1 0
  branches_old r h k =
      by_eqb (λ x. branches_of u r ≡ branches_of t r + pick x 1 0) row.prev r
      (λ e. ap (branches_of u) (sym e) ∙ b.previous (omega arith) ∙ ap (λ (x : ℕ). branches_of t x + 1) e)
      (λ n. b.others (branch_place r) (λ q. omega arith)
      (λ q. n (eqb-true _ _ (sym (counts_branch row r k (omega (arith, w.rows_limit))) ∙ eq-eqb _ _ (sym q)))) ∙ sym (add-zero (branches_of t r)))

  -- What was counted of an old author, with the new row that may be a first message.
  pub firsts_old : (a : ℕ) → a ≤ t.counts.authors → 1 ≤ a
      → firsts_of u a ≡ firsts_of t a + pick (both (eqb row.prev 0) (eqb row.author a)) 1 0
  firsts_old a h k =
      by_test (λ x. firsts_of u a ≡ firsts_of t a + pick x 1 0) (both (eqb row.prev 0) (eqb row.author a))
      (λ e.
      let y : row.author ≡ a = eqb-true _ _ (both_right (eqb row.prev 0) (eqb row.author a) e) in
      ap (firsts_of u) (sym y) ∙ b.author_known (eqb-true _ _ (both_left (eqb row.prev 0) (eqb row.author a) e)) (omega arith)
      ∙ ap (λ (x : ℕ). firsts_of t x + 1) y)
      (λ e.
      b.others (first_place a) (λ q. omega (arith, w.authors_limit))
      (λ q. not_both_ways (eqb (counted_at row) (first_place a)) (eq-eqb _ _ (sym q)) (counts_first row a k (omega (arith, w.authors_limit)) ∙ e))
      ∙ sym (add-zero (firsts_of t a)))

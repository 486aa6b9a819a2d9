-- Source 002 of a well_formed table: its rows are valid messages, and previous links lead to none.
-- Assumes nothing.
use Prim.Native.Nat.{ℕ, zero, suc, ◌+◌, ◌≤◌, ◌<◌}
use mathlib.Core.Path.{◌≡◌, refl, sym, ap, ◌∙◌}
use mathlib.Core.List.{List}
use mathlib.Core.Logic.{inl, inr, ⊎_elim}
use native.Mathlib.Omega.{arith}
use native.Mathlib.Nat.{eq-zero-or-pos, le_antisymm}
use lib.ListN.{length, get_or}
use Rattle.basics.proofs.Tests.{by_ltb}
use Rattle.chunks.proofs.Finding.{distinct_none}
use Rattle.store.specs.declared.Row.{Row}
use Rattle.store.specs.Table.{Table, WellFormed, author_of, prev_of, index_of, deps_of}
use Rattle.store.specs.Clauses.{table_of}
use Rattle.store.specs.Paper.{Message, M1, M2, M3, M4, M6, back, ValidMessage}
use Rattle.store.proofs.Rows.{row_none, sum_none, authors_none}
use Rattle.store.proofs.Depends.{Reaches, depends_reaches, depends_one, one_at}
use Rattle.store.proofs.Facts.{prev_older, prev_own, index_counted}

-- None has no previous row and index 0.
pub none_prev : (t : Table) → prev_of t 0 ≡ 0
none_prev t = ap (λ (x : Row). x.prev) (row_none t.rows)

pub none_index : (t : Table) → index_of t 0 ≡ 0
none_index t = ap (λ (x : Row). x.index) (row_none t.rows)

-- One link more may be taken first.
up_first : (t : Table) (n r : ℕ) → back t (suc n) r ≡ back t n (prev_of t r)
unfolding back
up_first t zero r = refl
up_first t (suc n) r = ap (prev_of t) (up_first t n r)

module _ (t : Table) (w : WellFormed t) where
  -- Links lead to no later row.
  pub up_within : (n r : ℕ) → r ≤ t.counts.rows → back t n r ≤ r
  unfolding back
  up_within zero r h = omega arith
  up_within (suc n) r h =
      let p : back t n r ≤ r = up_within n r h in
      ⊎_elim
      (λ z. let e : prev_of t (back t n r) ≡ 0 = rw z (none_prev t) in omega arith)
      (λ k. let q : prev_of t (back t n r) < back t n r = prev_older t w (back t n r) (omega arith) k in omega arith)
      (eq-zero-or-pos (back t n r))

  -- One link or more lead to an earlier row.
  pub up_earlier : (n r : ℕ) → r ≤ t.counts.rows → 1 ≤ r → back t (suc n) r < r
  up_earlier n r h k =
      let p : prev_of t r < r = prev_older t w r h k in
      let q : back t n (prev_of t r) ≤ prev_of t r = up_within n (prev_of t r) (omega arith) in
      let e : back t (suc n) r ≡ back t n (prev_of t r) = up_first t n r in
      omega arith

  -- Each link takes one off the index.
  pub index_up : (n r : ℕ) → r ≤ t.counts.rows → n ≤ index_of t r → index_of t (back t n r) + n ≡ index_of t r
  unfolding back
  index_up zero r h k = omega arith
  index_up (suc n) r h k =
      let p : index_of t (back t n r) + n ≡ index_of t r = index_up n r h (omega arith) in
      ⊎_elim
      (λ z. let e : index_of t (back t n r) ≡ 0 = rw z (none_index t) in absurd (omega arith))
      (λ l. let q = index_counted t w (back t n r) (omega (arith, up_within n r h)) l in omega arith)
      (eq-zero-or-pos (back t n r))

  -- Only none has index 0.
  index_none : (r : ℕ) → r ≤ t.counts.rows → index_of t r ≡ 0 → r ≡ 0
  index_none r h e = ⊎_elim (λ z. z) (λ k. absurd (omega (arith, index_counted t w r h k))) (eq-zero-or-pos r)

  -- Previous links reach none in as many steps as the index says,
  pub links_end : (r : ℕ) → r ≤ t.counts.rows → back t (index_of t r) r ≡ 0
  links_end r h =
      index_none (back t (index_of t r) r) (omega (arith, up_within (index_of t r) r h))
      (omega (arith, index_up (index_of t r) r h (omega arith)))

  -- and not before.
  pub links_go_on : (r n : ℕ) → r ≤ t.counts.rows → n < index_of t r → 1 ≤ back t n r
  links_go_on r n h k =
      let p : index_of t (back t n r) + n ≡ index_of t r = index_up n r h (omega arith) in
      ⊎_elim (λ z. let e : index_of t (back t n r) ≡ 0 = rw z (none_index t) in absurd (omega arith)) (λ l. l) (eq-zero-or-pos (back t n r))

  module _ (r : ℕ) (m : Message t r) where
    row_m1 : M1 t r
    row_m1 =
        ⊎_elim (λ z. inl z) (λ k. inr (record { some = k; held = omega (arith, prev_older t w r m.held m.some, m.held) }))
        (eq-zero-or-pos (prev_of t r))

    row_m2 : M2 t r
    row_m2 p k e = ⊎_elim (λ z. absurd (omega arith)) (λ o. rw (← e) o) (prev_own t w r m.held m.some)

    row_m3 : M3 t r
    row_m3 k l =
        let p : Reaches t.rows r (get_or (deps_of t r) k 0) = depends_reaches t.rows r (deps_of t r) (w.rows_depend r m.held m.some) k l in
        (record { some = p.some; held = omega (arith, p.earlier, m.held) }, p.other)

    -- Two dependencies of one author are one.
    not_later : (i j : ℕ) → j < length (deps_of t r) → author_of t (get_or (deps_of t r) i 0) ≡ author_of t (get_or (deps_of t r) j 0) → j ≤ i
    not_later i j l e =
        by_ltb (λ _. j ≤ i) i j
        (λ h. absurd (one_at t.rows (deps_of t r) (depends_one t.rows r (deps_of t r) (w.rows_depend r m.held m.some)) i j h l (sym e)))
        (λ h. h)

    row_m4 : M4 t r
    row_m4 a n i j h l e f = le_antisymm (not_later j i h (f ∙ sym e)) (not_later i j l (e ∙ sym f))

    row_m6 : M6 t r
    row_m6 s p e =
        let q : back t (suc p.steps) s < s = up_earlier p.steps s p.message.held p.message.some in
        let o : prev_of t r < r = prev_older t w r m.held m.some in
        omega (arith, p.leads)

    -- Every row of a well_formed table is a valid message: M1 to M4 and M6.
    pub row_valid : ValidMessage t r
    row_valid = record { m1 = row_m1; m2 = row_m2; m3 = row_m3; m4 = row_m4; m6 = row_m6 }

-- "an empty store": no rows, no authors and no dependencies, in any lent parts.
pub empty_well_formed : (keys ids rows deps branches : List ℕ)
    → WellFormed (table_of keys ids rows deps branches (record { rows = 0; authors = 0; deps = 0 }))
empty_well_formed keys ids rows deps branches =
    record {
      rows_limit = omega arith;
      authors_limit = omega arith;
      deps_limit = omega arith;
      rows_held = omega arith;
      ids_held = omega arith;
      keys_held = omega arith;
      deps_held = omega arith;
      deps_sum = sym (sum_none rows);
      keys_distinct = distinct_none keys;
      ids_distinct = distinct_none ids;
      authors_numbered = λ r h k. absurd (omega arith);
      authors_appear = sym (authors_none rows);
      rows_chained = λ r h k. absurd (omega arith);
      rows_depend = λ r h k. absurd (omega arith);
      firsts_held = omega arith;
      branches_held = omega arith;
      branches_right = λ r h k. absurd (omega arith);
      firsts_right = λ a h k. absurd (omega arith);
    }

-- Tables that agree within the counts of a well_formed one: all that is read of them is the same.
-- Assumes nothing.
use Prim.Native.Nat.{ℕ, ◌-◌, ◌*◌, ◌≤◌}
use mathlib.Core.Path.{◌≡◌, sym, ap, ◌∙◌}
use mathlib.Core.Bool.{true}
use mathlib.Core.List.{List}
use native.Mathlib.Omega.{arith}
use lib.ListN.{length, take, drop, length-take, length-drop}
use Rattle.basics.proofs.Prefixes.{part_of_prefix}
use Rattle.chunks.proofs.Pieces.{piece_of_prefix}
use Rattle.chunks.proofs.Finding.{distinct_agree}
use Rattle.store.specs.Table.{Table, WellFormed, row_at, numbered, chained, depends, deps_of, dep_start, dep_count_of, id_at, key_at, firsts_in, successors_in}
use Rattle.store.specs.Agree.{SameWithin, SameBranches, Agree}
use Rattle.store.specs.Limits.{author_limit}
use Rattle.store.specs.declared.lent.Counts.{Counts}
use Rattle.store.specs.declared.Row.{Row}
use Rattle.store.proofs.Rows.{SameRows, rows_of_prefix, sum_agree, authors_agree}
use Rattle.store.proofs.Links.{numbered_agree, chained_agree}
use Rattle.store.proofs.Depends.{depends_agree}
use Rattle.store.proofs.Counting.{firsts_agree, successors_agree, same_first, same_branch}
use Rattle.store.proofs.Facts.{deps_within}

-- A list that begins like one of at least n elements has n elements, too.
pub long_prefix : {A : Type 0} (n : ℕ) (s u : List A) → n ≤ length s → take n s ≡ take n u → n ≤ length u
long_prefix n s u h e = omega (arith, length-take n s, length-take n u, ap length e)

module _ (t u : Table) (w : WellFormed t) (s : SameWithin t u t.counts.rows t.counts.authors t.counts.deps) where
  -- The same rows,
  pub agree_rows : SameRows t.rows u.rows t.counts.rows
  agree_rows =
      rows_of_prefix t.counts.rows t.rows u.rows w.rows_held
      (long_prefix (t.counts.rows * 4) t.rows u.rows w.rows_held s.same_rows) s.same_rows

  -- the same ids,
  pub agree_ids : (r : ℕ) → r ≤ t.counts.rows → id_at t r ≡ id_at u r
  agree_ids r h =
      piece_of_prefix (t.counts.rows * 32) t.ids u.ids r w.ids_held
      (long_prefix (t.counts.rows * 32) t.ids u.ids w.ids_held s.same_ids) (omega arith) s.same_ids

  -- the same keys,
  pub agree_keys : (a : ℕ) → a ≤ t.counts.authors → key_at t a ≡ key_at u a
  agree_keys a h =
      piece_of_prefix (t.counts.authors * 32) t.keys u.keys a w.keys_held
      (long_prefix (t.counts.authors * 32) t.keys u.keys w.keys_held s.same_keys) (omega arith) s.same_keys

  -- the same dependencies,
  pub agree_deps : (r : ℕ) → r ≤ t.counts.rows → 1 ≤ r → deps_of t r ≡ deps_of u r
  agree_deps r h k =
      let e : row_at t.rows r ≡ row_at u.rows r = agree_rows r h in
      let f : dep_start t r ≡ dep_start u r = sum_agree t.rows u.rows (r - 1) (λ i l. agree_rows i (omega arith)) in
      part_of_prefix t.counts.deps (dep_count_of t r) (dep_start t r) t.deps u.deps (deps_within t w r h k) s.same_deps
      ∙ ap (λ (x : ℕ). take (dep_count_of t r) (drop x u.deps)) f
      ∙ ap (λ (x : Row). take x.deps (drop (dep_start u r) u.deps)) e

  -- so the rules of the rows hold together.
  pub agree_numbered : (r : ℕ) → r ≤ t.counts.rows → 1 ≤ r → numbered u.rows r ≡ true
  agree_numbered r h k = sym (numbered_agree t.rows u.rows r k (λ i l. agree_rows i (omega arith))) ∙ w.authors_numbered r h k

  pub agree_chained : (r : ℕ) → r ≤ t.counts.rows → 1 ≤ r → chained u.rows r ≡ true
  agree_chained r h k = sym (chained_agree t.rows u.rows r (λ i l. agree_rows i (omega arith))) ∙ w.rows_chained r h k

  pub agree_depends : (r : ℕ) → r ≤ t.counts.rows → 1 ≤ r → depends u.rows r (deps_of u r) ≡ true
  agree_depends r h k =
      ap (depends u.rows r) (sym (agree_deps r h k))
      ∙ sym (depends_agree t.rows u.rows r (λ i l. agree_rows i (omega arith)) (deps_of t r))
      ∙ w.rows_depend r h k

-- The numbers of the rows lie in the part branches of both.
long_rest : (t u : Table) → WellFormed t → SameBranches t u t.counts.rows t.counts.authors → t.counts.rows ≤ length u.branches - author_limit
long_rest t u w b =
    let h : t.counts.rows ≤ length (drop author_limit t.branches) = rw length-drop w.branches_held in
    let k = long_prefix t.counts.rows (drop author_limit t.branches) (drop author_limit u.branches) h b.same_branches in
    rw length-drop at k

-- Two tables that agree within the counts are well formed together.
pub well_formed_together : (t u : Table) → Agree t u → WellFormed t → WellFormed u
well_formed_together t u a w = well_formed_within t u a.same_counts a.within a.counted w
  where
    well_formed_within : (t u : Table) → t.counts ≡ u.counts → SameWithin t u t.counts.rows t.counts.authors t.counts.deps
        → SameBranches t u t.counts.rows t.counts.authors → WellFormed t → WellFormed u
    well_formed_within t u e s b w =
        let m : t.counts.rows ≡ u.counts.rows = ap (λ (x : Counts). x.rows) e in
        let p : t.counts.authors ≡ u.counts.authors = ap (λ (x : Counts). x.authors) e in
        let q : t.counts.deps ≡ u.counts.deps = ap (λ (x : Counts). x.deps) e in
        record {
          rows_limit = omega (arith, w.rows_limit);
          authors_limit = omega (arith, w.authors_limit);
          deps_limit = omega (arith, w.deps_limit);
          rows_held = omega (arith, long_prefix (t.counts.rows * 4) t.rows u.rows w.rows_held s.same_rows);
          ids_held = omega (arith, long_prefix (t.counts.rows * 32) t.ids u.ids w.ids_held s.same_ids);
          keys_held = omega (arith, long_prefix (t.counts.authors * 32) t.keys u.keys w.keys_held s.same_keys);
          deps_held = omega (arith, long_prefix t.counts.deps t.deps u.deps w.deps_held s.same_deps);
          deps_sum = rw (← m, ← q) (sym (sum_agree t.rows u.rows t.counts.rows (agree_rows t u w s)) ∙ w.deps_sum);
          keys_distinct = λ j h. distinct_agree t.keys u.keys t.counts.authors (λ i l _. agree_keys t u w s i l) w.keys_distinct j (omega arith);
          ids_distinct = λ j h. distinct_agree t.ids u.ids t.counts.rows (λ i l _. agree_ids t u w s i l) w.ids_distinct j (omega arith);
          authors_numbered = λ r h. agree_numbered t u w s r (omega arith);
          authors_appear = rw (← m, ← p) (sym (authors_agree t.rows u.rows t.counts.rows (agree_rows t u w s)) ∙ w.authors_appear);
          rows_chained = λ r h. agree_chained t u w s r (omega arith);
          rows_depend = λ r h. agree_depends t u w s r (omega arith);
          firsts_held = omega (arith, long_prefix t.counts.authors t.branches u.branches w.firsts_held b.same_firsts);
          branches_held = omega (arith, long_rest t u w b);
          branches_right = λ r h k.
              sym (same_branch t.branches u.branches t.counts.rows r k (omega arith) b.same_branches) ∙ w.branches_right r (omega arith) k
              ∙ successors_agree t.rows u.rows r t.counts.rows (agree_rows t u w s) ∙ ap (λ (n : ℕ). successors_in u.rows n r) m;
          firsts_right = λ x h k.
              sym (same_first t.branches u.branches t.counts.authors x k (omega arith) b.same_firsts) ∙ w.firsts_right x (omega arith) k
              ∙ firsts_agree t.rows u.rows x t.counts.rows (agree_rows t u w s) ∙ ap (λ (n : ℕ). firsts_in u.rows n x) m;
        }

-- What agrees with a table the table agrees with.
pub agree_back : (t u : Table) → Agree t u → Agree u t
agree_back t u a =
    let m : t.counts.rows ≡ u.counts.rows = ap (λ (x : Counts). x.rows) a.same_counts in
    let p : t.counts.authors ≡ u.counts.authors = ap (λ (x : Counts). x.authors) a.same_counts in
    let q : t.counts.deps ≡ u.counts.deps = ap (λ (x : Counts). x.deps) a.same_counts in
    record {
      same_counts = sym a.same_counts;
      within =
          record {
            same_keys = rw (← p) (sym a.within.same_keys);
            same_ids = rw (← m) (sym a.within.same_ids);
            same_rows = rw (← m) (sym a.within.same_rows);
            same_deps = rw (← q) (sym a.within.same_deps);
          };
      counted =
          record { same_firsts = rw (← p) (sym a.counted.same_firsts); same_branches = rw (← m) (sym a.counted.same_branches) };
    }

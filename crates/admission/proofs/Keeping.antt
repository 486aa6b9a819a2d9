-- Admission keeps the store well formed.
-- Assumes nothing.
use Prim.Native.Nat.{ℕ, ◌+◌, ◌-◌, ◌≤◌, ◌<◌}
use mathlib.Core.Path.{◌≡◌, sym, ap, ◌∙◌}
use mathlib.Core.Bool.{true}
use mathlib.Core.List.{List}
use mathlib.Core.Logic.{◌≢◌, ◌⊎◌, inl, inr, ⊎_elim}
use native.Mathlib.Omega.{arith}
use native.Mathlib.Nat.{eq-or-lt_of_le}
use lib.ListN.{length, get_or}
use lib.Dec.{eqb, ltb}
use borrow.Author.Tests.{lt-ltb, le-ltb, eq-eqb}
use Rattle.basics.specs.Pick.{pick, both}
use Rattle.basics.proofs.Tests.{by_leb}
use Rattle.store.specs.Table.{Table, WellFormed, row_at, id_at, key_at, author_of, index_of, deps_of, dep_sum, authors_in, numbered, chained, one_per_author, depends}
use Rattle.store.specs.Table.{firsts_of, branches_of, firsts_in, successors_in}
use Rattle.store.specs.declared.Row.{Row}
use Rattle.store.proofs.Agreeing.{agree_rows, agree_ids, agree_keys, agree_numbered, agree_chained, agree_depends}
use Rattle.store.proofs.Facts.{author_held, prev_older}
use Rattle.store.proofs.Counting.{none_follow, none_begin}
use Rattle.store.proofs.Counting.{firsts_more, successors_more, firsts_agree, successors_agree}
use Rattle.store.proofs.Depends.{Reaches, one_at, depends_of}
use Rattle.store.proofs.Links.{Numbered, numbered_of, chained_begins, chained_follows}
use Rattle.store.proofs.Rows.{SameRows, sum_more, sum_agree, authors_more, authors_agree}
use Rattle.judging.specs.Message.{next_row}
use Rattle.admission.specs.Grown.{Grows}
use Rattle.admission.proofs.Authors.{of_one}
use Rattle.admission.proofs.Growing.{Room}
use Rattle.admission.proofs.Branching.{Placed, new_first, branches_old, firsts_old}

-- What a row must be to be added: its author's number, its place in the chain, its dependencies, and an id and a key that are new.
pub record Joins (t : Table) (row : Row) (id key ds : List ℕ) : Type 0 where
  pub author_some : 1 ≤ row.author
  pub author_next : (row.author ≤ t.counts.authors) ⊎ (row.author ≡ t.counts.authors + 1)
  pub key_new : t.counts.authors < row.author → (i : ℕ) → i ≤ t.counts.authors → 1 ≤ i → key_at t i ≢ key
  pub id_new : (i : ℕ) → i ≤ t.counts.rows → 1 ≤ i → id_at t i ≢ id
  pub chain : ((row.prev ≡ 0) × (row.index ≡ 1))
      ⊎ (((1 ≤ row.prev) × (row.prev ≤ t.counts.rows)) × ((author_of t row.prev ≡ row.author) × (index_of t row.prev + 1 ≡ row.index)))
  pub deps_held : (k : ℕ) → k < length ds → (1 ≤ get_or ds k 0) × (get_or ds k 0 ≤ t.counts.rows)
  pub deps_other : (k : ℕ) → k < length ds → (row_at t.rows (get_or ds k 0)).author ≢ row.author
  pub deps_single : one_per_author t.rows ds ≡ true

-- The author and the previous row of such a row.
pub placed : (t : Table) (row : Row) (id key ds : List ℕ) → WellFormed t → Joins t row id key ds → Placed t row
placed t row id key ds w j =
    record {
      author_some = j.author_some;
      author_next =
          ⊎_elim (λ (x : row.author ≤ t.counts.authors). omega arith) (λ (x : row.author ≡ t.counts.authors + 1). omega arith) j.author_next;
      prev_held = ⊎_elim (λ x. let z = x.0 in omega arith) (λ x. x.0.1) j.chain;
      prev_known = λ h.
          ⊎_elim (λ x. let z = x.0 in absurd (omega arith))
          (λ x. let a = author_held t w row.prev x.0.1 x.0.0 in let e = x.1.0 in omega (arith, a.1)) j.chain;
    }

module _ (t u : Table) (row : Row) (id key ds : List ℕ) (w : WellFormed t) (room : Room t row) (j : Joins t row id key ds) (g : Grows t u row id key ds) where
  -- One row more.
  count_rows : u.counts.rows ≡ t.counts.rows + 1
  count_rows = rw g.counts_new

  -- One author more where the key is new.
  count_authors : u.counts.authors ≡ pick (ltb t.counts.authors row.author) row.author t.counts.authors
  count_authors = rw g.counts_new

  -- The row's dependencies more.
  count_deps : u.counts.deps ≡ t.counts.deps + row.deps
  count_deps = rw g.counts_new

  -- The authors after the row: those before, or one more.
  authors_now : ((u.counts.authors ≡ t.counts.authors) × (row.author ≤ t.counts.authors))
      ⊎ ((u.counts.authors ≡ t.counts.authors + 1) × (row.author ≡ t.counts.authors + 1))
  authors_now =
      ⊎_elim
      (λ (q : row.author ≤ t.counts.authors). inl (count_authors ∙ rw (le-ltb _ _ q), q))
      (λ (q : row.author ≡ t.counts.authors + 1).
      let l : t.counts.authors < row.author = omega arith in
      inr (count_authors ∙ rw (lt-ltb _ _ l) q, q))
      j.author_next

  -- A row of the new store is the new row, or one of the old.
  which : (r : ℕ) → r ≤ u.counts.rows → (r ≡ t.counts.rows + 1) ⊎ (r ≤ t.counts.rows)
  which r h =
      let e : u.counts.rows ≡ t.counts.rows + 1 = count_rows in
      let l : r ≤ t.counts.rows + 1 = omega arith in
      ⊎_elim (λ (q : r ≡ t.counts.rows + 1). inl q) (λ (q : r < t.counts.rows + 1). inr (omega arith)) (eq-or-lt_of_le l)

  -- The old rows are what they were.
  old_rows : SameRows t.rows u.rows t.counts.rows
  old_rows = agree_rows t u w g.kept

  -- The authors that had appeared before the new row.
  appeared : authors_in u.rows t.counts.rows ≡ t.counts.authors
  appeared = sym (authors_agree t.rows u.rows t.counts.rows old_rows) ∙ w.authors_appear

  -- The new row's author is numbered by first appearance.
  new_numbered : Numbered u.rows (next_row t)
  new_numbered =
      let e : (row_at u.rows (next_row t)).author ≡ row.author = ap (λ (x : Row). x.author) g.row_new in
      let z : next_row t - 1 ≡ t.counts.rows = omega arith in
      let l : row.author ≤ t.counts.authors + 1 =
      ⊎_elim (λ (x : row.author ≤ t.counts.authors). omega arith) (λ (x : row.author ≡ t.counts.authors + 1). omega arith) j.author_next in
      record { some = rw e j.author_some; next = rw (e, z, appeared) l }

  -- The new row has its place in its chain.
  new_chained : chained u.rows (next_row t) ≡ true
  new_chained =
      let e = g.row_new in
      ⊎_elim
      (λ x. chained_begins u.rows (next_row t) (record { none = ap (λ (y : Row). y.prev) e ∙ x.0; one = ap (λ (y : Row). y.index) e ∙ x.1 }))
      (λ x.
      let k = old_rows row.prev x.0.1 in
      let f : row_at u.rows (row_at u.rows (next_row t)).prev ≡ row_at t.rows row.prev = ap (λ (y : Row). row_at u.rows y.prev) e ∙ sym k in
      chained_follows u.rows (next_row t)
      (record {
        some = rw e x.0.0;
        older = rw e (omega (arith, x.0.1));
        own = ap (λ (y : Row). y.author) f ∙ x.1.0 ∙ sym (ap (λ (y : Row). y.author) e);
        counted = ap (λ (y : Row). y.index) e ∙ sym (ap (λ (y : Row). y.index + 1) f ∙ x.1.1);
      }))
      j.chain

  -- A dependency of the new row is an earlier row of another author.
  new_reaches : (k : ℕ) → k < length ds → Reaches u.rows (next_row t) (get_or ds k 0)
  new_reaches k h =
      let x = j.deps_held k h in
      let e = old_rows (get_or ds k 0) x.1 in
      record {
        some = x.0;
        earlier = omega (arith, x.1);
        other = λ q. j.deps_other k h (ap (λ (y : Row). y.author) e ∙ q ∙ ap (λ (y : Row). y.author) g.row_new);
      }

  -- The new row's dependencies have one author each.
  new_single : one_per_author u.rows ds ≡ true
  new_single =
      of_one u.rows ds
      (λ a b h k q.
      let x = old_rows (get_or ds a 0) (j.deps_held a (omega arith)).1 in
      let y = old_rows (get_or ds b 0) (j.deps_held b k).1 in
      one_at t.rows ds j.deps_single a b h k (ap (λ (z : Row). z.author) y ∙ q ∙ sym (ap (λ (z : Row). z.author) x)))

  -- Each author is numbered by first appearance.
  numbered_now : (r : ℕ) → r ≤ u.counts.rows → 1 ≤ r → numbered u.rows r ≡ true
  numbered_now r h k =
      ⊎_elim
      (λ (q : r ≡ t.counts.rows + 1). rw q (numbered_of u.rows (next_row t) new_numbered))
      (λ (q : r ≤ t.counts.rows). agree_numbered t u w g.kept r q k)
      (which r h)

  -- Each row has its place in its chain.
  chained_now : (r : ℕ) → r ≤ u.counts.rows → 1 ≤ r → chained u.rows r ≡ true
  chained_now r h k =
      ⊎_elim (λ (q : r ≡ t.counts.rows + 1). rw q new_chained) (λ (q : r ≤ t.counts.rows). agree_chained t u w g.kept r q k) (which r h)

  -- Each row's dependencies are as they must be.
  depends_now : (r : ℕ) → r ≤ u.counts.rows → 1 ≤ r → depends u.rows r (deps_of u r) ≡ true
  depends_now r h k =
      ⊎_elim
      (λ (q : r ≡ t.counts.rows + 1). rw q (ap (depends u.rows (next_row t)) g.deps_new ∙ depends_of u.rows (next_row t) ds new_reaches new_single))
      (λ (q : r ≤ t.counts.rows). agree_depends t u w g.kept r q k)
      (which r h)

  -- The numbers of dependencies add up.
  sum_now : dep_sum u.rows u.counts.rows ≡ u.counts.deps
  sum_now =
      let e : dep_sum u.rows t.counts.rows ≡ t.counts.deps = sym (sum_agree t.rows u.rows t.counts.rows old_rows) ∙ w.deps_sum in
      rw (count_rows, count_deps) (sum_more u.rows t.counts.rows ∙ rw (e, g.row_new))

  -- Each author has a row.
  appear_now : authors_in u.rows u.counts.rows ≡ u.counts.authors
  appear_now =
      rw count_rows
      (authors_more u.rows t.counts.rows ∙ rw (appeared, g.row_new)
      (⊎_elim (λ x. let a = x.0 in let b = x.1 in omega arith) (λ x. let a = x.0 in let b = x.1 in omega arith) authors_now))

  -- Ids are distinct.
  ids_now : (k : ℕ) → k ≤ u.counts.rows → (i : ℕ) → i < k → 1 ≤ i → id_at u i ≢ id_at u k
  ids_now k h i l m =
      ⊎_elim
      (λ (q : k ≡ t.counts.rows + 1).
      rw (q, g.id_new, ← agree_ids t u w g.kept i (omega arith)) (j.id_new i (omega arith) m))
      (λ (q : k ≤ t.counts.rows).
      rw (← agree_ids t u w g.kept k q, ← agree_ids t u w g.kept i (omega arith)) (w.ids_distinct k q i l m))
      (which k h)

  -- Keys are distinct.
  keys_now : (k : ℕ) → k ≤ u.counts.authors → (i : ℕ) → i < k → 1 ≤ i → key_at u i ≢ key_at u k
  keys_now k h i l m =
      ⊎_elim
      (λ x. let a = x.0 in let q : k ≤ t.counts.authors = omega arith in
      rw (← agree_keys t u w g.kept k q, ← agree_keys t u w g.kept i (omega arith)) (w.keys_distinct k q i l m))
      (λ x. let a = x.0 in let b = x.1 in
      let q : k ≤ t.counts.authors + 1 = omega arith in
      ⊎_elim
      (λ (e : k ≡ t.counts.authors + 1).
      let z : k ≡ row.author = omega arith in
      rw (z, g.key_new, ← agree_keys t u w g.kept i (omega arith)) (j.key_new (omega arith) i (omega arith) m))
      (λ (e : k < t.counts.authors + 1).
      rw (← agree_keys t u w g.kept k (omega arith), ← agree_keys t u w g.kept i (omega arith)) (w.keys_distinct k (omega arith) i l m))
      (eq-or-lt_of_le q))
      authors_now

  -- No row follows the new one.
  new_unfollowed : (i : ℕ) → i ≤ t.counts.rows + 1 → 1 ≤ i → (row_at u.rows i).prev ≢ t.counts.rows + 1
  new_unfollowed i h k q =
      ⊎_elim
      (λ (e : i ≡ t.counts.rows + 1).
      let z : row.prev ≡ t.counts.rows + 1 = sym (ap (λ (x : Row). x.prev) (ap (row_at u.rows) e ∙ g.row_new)) ∙ q in
      omega (arith, (placed t row id key ds w j).prev_held))
      (λ (l : i < t.counts.rows + 1).
      let z : (row_at t.rows i).prev ≡ t.counts.rows + 1 = ap (λ (x : Row). x.prev) (old_rows i (omega arith)) ∙ q in
      omega (arith, prev_older t w i (omega arith) k))
      (eq-or-lt_of_le h)

  -- Each row's number is the number of rows that follow it.
  branches_now : (r : ℕ) → r ≤ u.counts.rows → 1 ≤ r → branches_of u r ≡ successors_in u.rows u.counts.rows r
  branches_now r h k =
      rw count_rows
      (⊎_elim
      (λ (q : r ≡ t.counts.rows + 1). rw q (g.branches_new.own ∙ sym (none_follow u.rows (t.counts.rows + 1) (t.counts.rows + 1) new_unfollowed)))
      (λ (q : r ≤ t.counts.rows).
      branches_old t u row w g.branches_new r q k
      ∙ ap (λ (x : ℕ). x + pick (eqb row.prev r) 1 0)
      (w.branches_right r q k ∙ successors_agree t.rows u.rows r t.counts.rows old_rows)
      ∙ ap (λ (x : Row). successors_in u.rows t.counts.rows r + pick (eqb x.prev r) 1 0) (sym g.row_new)
      ∙ sym (successors_more u.rows t.counts.rows r))
      (which r h))

  -- A new author had no row.
  author_fresh : (i : ℕ) → i ≤ t.counts.rows → 1 ≤ i → (row_at u.rows i).author ≢ t.counts.authors + 1
  author_fresh i h k q =
      let z : (row_at t.rows i).author ≡ t.counts.authors + 1 = ap (λ (x : Row). x.author) (old_rows i h) ∙ q in
      omega (arith, (author_held t w i h k).1)

  -- Each author's number is the number of its first messages.
  firsts_now : (a : ℕ) → a ≤ u.counts.authors → 1 ≤ a → firsts_of u a ≡ firsts_in u.rows u.counts.rows a
  firsts_now a h k =
      rw count_rows
      (by_leb (λ _. firsts_of u a ≡ firsts_in u.rows (t.counts.rows + 1) a) a t.counts.authors
      (λ l.
      firsts_old t u row w g.branches_new a l k
      ∙ ap (λ (x : ℕ). x + pick (both (eqb row.prev 0) (eqb row.author a)) 1 0)
      (w.firsts_right a l k ∙ firsts_agree t.rows u.rows a t.counts.rows old_rows)
      ∙ ap (λ (x : Row). firsts_in u.rows t.counts.rows a + pick (both (eqb x.prev 0) (eqb x.author a)) 1 0) (sym g.row_new)
      ∙ sym (firsts_more u.rows t.counts.rows a))
      (λ l. firsts_new l))
    where
      firsts_new : t.counts.authors < a → firsts_of u a ≡ firsts_in u.rows (t.counts.rows + 1) a
      firsts_new l =
          let x : (a ≡ t.counts.authors + 1) × (row.author ≡ t.counts.authors + 1) =
          ⊎_elim (λ x. let y = x.0 in absurd (omega arith)) (λ x. let y = x.0 in (omega arith, x.1)) authors_now in
          let e : a ≡ row.author = omega (arith, x.0, x.1) in
          let z : row.prev ≡ 0 = new_first t row w room (placed t row id key ds w j) (omega (arith, x.1)) in
          let n : firsts_in u.rows t.counts.rows a ≡ 0 = none_begin u.rows a t.counts.rows (rw x.0 author_fresh) in
          ap (firsts_of u) e ∙ g.branches_new.author_new (omega (arith, x.1))
          ∙ sym (firsts_more u.rows t.counts.rows a ∙ rw (n, g.row_new, eq-eqb row.prev 0 z, eq-eqb row.author a (sym e)))

  -- The store with one row more is well formed.
  pub keeps : WellFormed u
  keeps =
      let r : u.counts.rows ≡ t.counts.rows + 1 = count_rows in
      let d : u.counts.deps ≡ t.counts.deps + row.deps = count_deps in
      let rl = g.rows_length in
      let il = g.ids_length in
      let kl = g.keys_length in
      let dl = g.deps_length in
      let bl = g.branches_new.branches_length in
      record {
        rows_limit = omega (arith, room.rows_limit);
        authors_limit =
            ⊎_elim
            (λ x. let a = x.0 in let b = w.authors_limit in omega arith)
            (λ x. let a = x.0 in let b = room.authors_limit (omega (arith, x.1)) in omega arith)
            authors_now;
        deps_limit = omega (arith, room.deps_limit);
        rows_held = omega (arith, room.rows_place);
        ids_held = omega (arith, room.ids_place);
        keys_held =
            ⊎_elim
            (λ x. let a = x.0 in let b = w.keys_held in omega arith)
            (λ x. let a = x.0 in let b = room.keys_place (omega (arith, x.1)) in omega arith)
            authors_now;
        deps_held = omega (arith, room.deps_place);
        deps_sum = sum_now;
        keys_distinct = keys_now;
        ids_distinct = ids_now;
        authors_numbered = numbered_now;
        authors_appear = appear_now;
        rows_chained = chained_now;
        rows_depend = depends_now;
        firsts_held =
            ⊎_elim
            (λ x. let a = x.0 in let b = w.firsts_held in omega arith)
            (λ x. let a = x.0 in let b = room.firsts_place (omega (arith, x.1)) in omega arith)
            authors_now;
        branches_held = omega (arith, room.branches_place);
        branches_right = branches_now;
        firsts_right = firsts_now;
      }

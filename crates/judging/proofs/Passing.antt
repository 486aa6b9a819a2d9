-- What a verdict says of the tests that led to it, and back: the row is given exactly where every test lets the message pass.
-- Assumes nothing.
use Prim.Native.Nat.{ℕ, ◌+◌, ◌≤◌, ◌<◌}
use mathlib.Core.Path.{◌≡◌, refl, sym}
use mathlib.Core.Bool.{Bool, true, false, not}
use mathlib.Core.List.{List}
use mathlib.Core.Logic.{◌≢◌}
use native.Mathlib.Omega.{arith}
use lib.Dec.{eqb, ltb}
use borrow.Author.Tests.{eqb-true, eqb-false, ltb-false, not-false, eq-eqb, ne_eqb}
use Rattle.basics.specs.Pick.{pick}
use Rattle.basics.proofs.Tests.{by_pick}
use Rattle.answers.specs.declared.Refusal.{Refusal}
use Rattle.answers.specs.declared.Refusal.TheVariants.{Index}
use Rattle.chunks.specs.Bytes.{all_zero}
use Rattle.chunks.specs.Lookup.{place_of}
use Rattle.item.specs.Layout.{key_of, previous_of}
use Rattle.item.specs.Id.{id_of}
use Rattle.item.specs.declared.Fields.{Fields}
use Rattle.store.specs.Table.{Table, row_at, author_of, index_of}
use Rattle.store.specs.declared.Row.{Row}
use Rattle.judging.specs.Message.{row_with, author_with, lacks, dep_rows}
use Rattle.judging.specs.Verdict.{row_for, crossed, full, dep_tests, step_tests, prev_tests, index_tests, chain_tests, then_deps, rules_of, then_room, judged_of}
use Rattle.judging.specs.declared.Verdict.{Verdict}
use Rattle.judging.specs.declared.Verdict.TheVariants.{Fits, Holds, Breaks}

-- The tests 9 to 12 let the message pass, with previous row `p`: no previous row for index 1,
-- or the one that its previous id names.
pub data Follows (t : Table) (s : List ℕ) (f : Fields) : ℕ → Type 0 where
  starts : f.index ≡ 1 → all_zero (previous_of s) ≡ true → Follows t s f 0
  steps : {p : ℕ} → 1 < f.index → row_with t (previous_of s) ≡ p → p ≢ 0 → author_of t p ≡ author_with t (key_of s) → f.index ≡ index_of t p + 1
      → Follows t s f p

-- Every test lets the message pass, with previous row `p`.
pub record Passes (t : Table) (s : List ℕ) (f : Fields) (p : ℕ) : Type 0 where
  pub marked : f.mark ≡ 1
  pub fresh : row_with t (id_of s) ≡ 0
  pub follows : Follows t s f p
  pub deps_found : lacks t.ids t.counts.rows s f f.count ≡ false
  pub deps_apart : crossed t.rows (author_with t (key_of s)) (dep_rows t s f) ≡ false
  pub room : full t (row_for t s f p) ≡ false

-- A verdict that refuses is no row.
pub no_row : (r : Refusal) (row : Row) → Breaks r ≡ Fits row → ⊥
no_row r row e = let z : ◌≡◌ {A = ℕ} 0 1 = cc in omega arith

-- A verdict that names a holding row is no row to take.
pub holds_no_row : (r : ℕ) (row : Row) → Holds r ≡ Fits row → ⊥
holds_no_row r row e = let z : ◌≡◌ {A = ℕ} 0 1 = cc in omega arith

-- Past a test that refuses.
pub past : (b : Bool) (r : Refusal) (v : Verdict) (row : Row) → pick b (Breaks r) v ≡ Fits row → (b ≡ false) × (v ≡ Fits row)
past true r v row e = absurd (no_row r row e)
past false r v row e = (refl, e)

-- Past a test that lets pass.
pub past_kept : (b : Bool) (r : Refusal) (v : Verdict) (row : Row) → pick b v (Breaks r) ≡ Fits row → (b ≡ true) × (v ≡ Fits row)
past_kept true r v row e = (refl, e)
past_kept false r v row e = absurd (no_row r row e)

module _ (t : Table) (s : List ℕ) (f : Fields) where
  -- Back from 16 to the verdict before it.
  pub past_room : (v : Verdict) (row : Row) → then_room t v ≡ Fits row → (v ≡ Fits row) × (full t row ≡ false)
  unfolding then_room
  past_room (Fits q) row e =
      let w = past (full t q) _ (Fits q) row e in
      let z : q ≡ row = cc in
      (w.1, rw z at w.0)
  past_room (Holds r) row e = absurd (holds_no_row r row e)
  past_room (Breaks r) row e = absurd (no_row r row e)

  -- Back from 14 and 15 to the verdict before them.
  past_deps : (v : Verdict) (row : Row) → then_deps t s f v ≡ Fits row
      → (v ≡ Fits row) × ((lacks t.ids t.counts.rows s f f.count ≡ false) × (crossed t.rows row.author (dep_rows t s f) ≡ false))
  unfolding then_deps dep_tests
  past_deps (Fits q) row e =
      let w = past (lacks t.ids t.counts.rows s f f.count) _ _ row e in
      let y = past (crossed t.rows q.author (dep_rows t s f)) _ (Fits q) row w.1 in
      let z : q ≡ row = cc in
      (y.1, (w.0, rw z at y.0))
  past_deps (Holds r) row e = absurd (holds_no_row r row e)
  past_deps (Breaks r) row e = absurd (no_row r row e)

  -- The row comes from tests 9 to 12 with a previous row.
  pub record Chained (row : Row) : Type 0 where
    pub prev : ℕ
    pub is : row ≡ row_for t s f prev
    pub follows : Follows t s f prev

  -- Back through 10 to 12.
  past_prev : (p : ℕ) (row : Row) → 1 < f.index → row_with t (previous_of s) ≡ p → prev_tests t.rows (author_with t (key_of s)) f p ≡ Fits row → Chained row
  unfolding prev_tests step_tests
  past_prev p row h g e =
      let v = past (eqb p 0) _ _ row e in
      let w = past (not (eqb (author_of t p) (author_with t (key_of s)))) _ _ row v.1 in
      let y = past (not (eqb f.index (index_of t p + 1))) _ (Fits (row_for t s f p)) row w.1 in
      record {
        prev = p;
        is = let q : Fits row ≡ Fits (row_for t s f p) = sym y.1 in cc;
        follows = steps h g (eqb-false _ _ v.0) (eqb-true _ _ (not-false _ w.0)) (eqb-true _ _ (not-false _ y.0));
      }

  -- Back through 9 to 12.
  past_index : (row : Row) → index_tests t.ids t.rows t.counts.rows (author_with t (key_of s)) (previous_of s) f ≡ Fits row → Chained row
  unfolding index_tests
  past_index row e =
      let w = past (eqb f.index 0) _ _ row e in
      let n0 : f.index ≡ 0 → ⊥ = eqb-false _ _ w.0 in
      above n0 (eqb f.index 1) refl w.1
    where
      above : (f.index ≡ 0 → ⊥) → (b : Bool) → eqb f.index 1 ≡ b
          → pick b (pick (all_zero (previous_of s)) (Fits (row_for t s f 0)) (Breaks Index))
          (prev_tests t.rows (author_with t (key_of s)) f (row_with t (previous_of s))) ≡ Fits row → Chained row
      above n true g h =
          let y = past_kept (all_zero (previous_of s)) _ _ row h in
          record { prev = 0; is = let q : Fits row ≡ Fits (row_for t s f 0) = sym y.1 in cc; follows = starts (eqb-true _ _ g) y.0 }
      above n false g h =
          let n1 : f.index ≡ 1 → ⊥ = eqb-false _ _ g in
          past_prev (row_with t (previous_of s)) row (omega arith) refl h

  -- Past the test for HELD.
  past_held : (b : Bool) (v : Verdict) (r : ℕ) (row : Row) → pick b v (Holds r) ≡ Fits row → (b ≡ true) × (v ≡ Fits row)
  past_held true v r row e = (refl, e)
  past_held false v r row e = absurd (holds_no_row r row e)

  -- What the rules 6 to 15 let through follows its previous row, and all its dependencies are found.
  pub rules_follow : (row : Row) → rules_of t s f ≡ Fits row → Chained row × (lacks t.ids t.counts.rows s f f.count ≡ false)
  unfolding chain_tests
  rules_follow row e =
      let b = past_deps (chain_tests t s f) row e in
      let m = past (ltb 1 f.mark) _ _ row b.0 in
      let n = past (eqb f.mark 0) _ _ row m.1 in
      let h = past_held (eqb (row_with t (id_of s)) 0) _ _ row n.1 in
      (past_index row h.1, b.1.0)

  -- A row is given only where every test lets the message pass.
  pub passes : (row : Row) → judged_of t s f ≡ Fits row → (p : ℕ) × ((row ≡ row_for t s f p) × Passes t s f p)
  unfolding chain_tests
  passes row e =
      let a = past_room (rules_of t s f) row e in
      let b = past_deps (chain_tests t s f) row a.0 in
      let m = past (ltb 1 f.mark) _ _ row b.0 in
      let n = past (eqb f.mark 0) _ _ row m.1 in
      let h = past_held (eqb (row_with t (id_of s)) 0) _ _ row n.1 in
      let k = past_index row h.1 in
      let le : f.mark ≤ 1 = ltb-false _ _ m.0 in
      let ne : f.mark ≡ 0 → ⊥ = eqb-false _ _ n.0 in
      let q = k.is in (
        k.prev,
        (
          q,
          record {
            marked = omega arith;
            fresh = eqb-true _ _ h.0;
            follows = k.follows;
            deps_found = b.1.0;
            deps_apart = rw q at b.1.1;
            room = rw q at a.1;
          },
        ),
      )

  -- The tests 9 to 12 give the row of a message that follows.
  fits_index : (p : ℕ) → Follows t s f p → index_tests t.ids t.rows t.counts.rows (author_with t (key_of s)) (previous_of s) f ≡ Fits (row_for t s f p)
  unfolding index_tests prev_tests step_tests
  fits_index p (starts i z) = simp (i, z)
  fits_index p (steps h g z o n) =
      let e0 : eqb f.index 0 ≡ false = ne_eqb _ _ (λ (q : f.index ≡ 0). omega arith) in
      let e1 : eqb f.index 1 ≡ false = ne_eqb _ _ (λ (q : f.index ≡ 1). omega arith) in
      simp (e0, e1, g, ne_eqb _ _ z, eq-eqb _ _ o, eq-eqb _ _ n)

  -- Where every test lets the message pass, its row is given.
  pub fits : (p : ℕ) → Passes t s f p → judged_of t s f ≡ Fits (row_for t s f p)
  unfolding chain_tests then_deps dep_tests then_room
  fits p h =
      let m : f.mark ≡ 1 = h.marked in
      let a : chain_tests t s f ≡ Fits (row_for t s f p) = simp (m, h.fresh, fits_index p h.follows) in
      simp (a, h.deps_found, h.deps_apart, h.room)

-- A verdict that names a holding row names the row of the id.
record NamesHolder (t : Table) (s : List ℕ) (v : Verdict) : Type 0 where
  row : (r : ℕ) → v ≡ Holds r → (row_with t (id_of s) ≡ r) × (r ≢ 0)

-- A refusal names none.
breaks_names : {t : Table} {s : List ℕ} {x : Refusal} → NamesHolder t s (Breaks x)
breaks_names = record { row = λ r e. let z : ◌≡◌ {A = ℕ} 0 1 = cc in absurd (omega arith) }

-- A row to take names none.
fits_names : {t : Table} {s : List ℕ} {row : Row} → NamesHolder t s (Fits row)
fits_names = record { row = λ r e. let z : ◌≡◌ {A = ℕ} 0 1 = cc in absurd (omega arith) }

module _ (t : Table) (s : List ℕ) (f : Fields) where
  -- The tests 9 to 12 name none.
  index_names : (ids rows : List ℕ) (n a : ℕ) (x : List ℕ) → NamesHolder t s (index_tests ids rows n a x f)
  unfolding index_tests prev_tests step_tests
  index_names ids rows n a x =
      by_pick (NamesHolder t s) (eqb f.index 0) _ _ (λ _. breaks_names)
      (λ _. by_pick (NamesHolder t s) (eqb f.index 1) _ _
      (λ _. by_pick (NamesHolder t s) (all_zero x) _ _ (λ _. fits_names) (λ _. breaks_names))
      (λ _. by_pick (NamesHolder t s) (eqb (place_of ids n x) 0) _ _ (λ _. breaks_names)
      (λ _. by_pick (NamesHolder t s) (not (eqb (row_at rows (place_of ids n x)).author a)) _ _ (λ _. breaks_names)
      (λ _. by_pick (NamesHolder t s) (not (eqb f.index ((row_at rows (place_of ids n x)).index + 1))) _ _ (λ _. breaks_names) (λ _. fits_names)))))

  -- The tests 6 to 12 name the row of the id.
  chain_names : NamesHolder t s (chain_tests t s f)
  unfolding chain_tests
  chain_names =
      by_pick (NamesHolder t s) (ltb 1 f.mark) _ _ (λ _. breaks_names)
      (λ _. by_pick (NamesHolder t s) (eqb f.mark 0) _ _ (λ _. breaks_names)
      (λ _. by_pick (NamesHolder t s) (eqb (row_with t (id_of s)) 0) _ _
      (λ _. index_names t.ids t.rows t.counts.rows (author_with t (key_of s)) (previous_of s))
      (λ g. record { row = λ r e. let q : row_with t (id_of s) ≡ r = cc in let n : row_with t (id_of s) ≢ 0 = eqb-false _ _ g in (q, rw q at n) })))

  -- The tests 14 and 15 name no other.
  deps_names : (v : Verdict) → NamesHolder t s v → NamesHolder t s (then_deps t s f v)
  unfolding then_deps dep_tests
  deps_names (Fits row) h =
      by_pick (NamesHolder t s) (lacks t.ids t.counts.rows s f f.count) _ _ (λ _. breaks_names)
      (λ _. by_pick (NamesHolder t s) (crossed t.rows row.author (dep_rows t s f)) _ _ (λ _. breaks_names) (λ _. fits_names))
  deps_names (Holds q) h = h
  deps_names (Breaks x) h = h

  -- The test 16 names no other.
  room_names : (v : Verdict) → NamesHolder t s v → NamesHolder t s (then_room t v)
  unfolding then_room
  room_names (Fits row) h = by_pick (NamesHolder t s) (full t row) _ _ (λ _. breaks_names) (λ _. fits_names)
  room_names (Holds q) h = h
  room_names (Breaks x) h = h

  -- An item that is held is held in the row that is named.
  pub holds_row : (r : ℕ) → judged_of t s f ≡ Holds r → (row_with t (id_of s) ≡ r) × (r ≢ 0)
  holds_row = (room_names (rules_of t s f) (deps_names (chain_tests t s f) chain_names)).row

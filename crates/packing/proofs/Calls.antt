-- What each call of the walk back asks, from what its caller was given.
-- Assumes nothing.
use Prim.Native.Nat.{ℕ, ◌+◌, ◌-◌, ◌*◌, ◌≤◌, ◌<◌}
use mathlib.Core.Path.{◌≡◌, refl, sym, ◌∙◌, subst}
use mathlib.Core.List.{List}
use native.Mathlib.Omega.{arith}
use lib.ListN.{length, get_or, set}
use Rattle.store.specs.Table.{row_at, dep_sum}
use Rattle.store.proofs.Facts.{sum_here}
use Rattle.packing.specs.Before.{Within}
use Rattle.packing.specs.Marks.{Closed, Marking, Listed, MayWalk}
use Rattle.packing.proofs.Before.{falling_less, starts_less}
use Rattle.packing.proofs.Marks.{closed_after, list_none, list_more, row_marked}

module _ {rows deps starts marks : List ℕ} {row : ℕ} (may : MayWalk rows deps starts marks row) where
  -- A walk from an earlier row may begin.
  pub walk_earlier : (r : ℕ) → r < row → MayWalk rows deps starts marks r
  walk_earlier r h =
      record {
        falling = falling_less may.falling (omega arith);
        starts_right = starts_less may.starts_right (omega arith);
        closed = may.closed;
        marks_held = let k = may.marks_held in omega arith;
      }

  -- A walk may begin over other marks that are closed,
  pub walk_over : {after : List ℕ} → length after ≡ length marks → Closed rows deps after → MayWalk rows deps starts after row
  walk_over e c =
      record {
        falling = may.falling;
        starts_right = may.starts_right;
        closed = c;
        marks_held = let k = may.marks_held in omega arith;
      }

  -- such as another walk leaves.
  pub walk_after : {after : List ℕ} {last : ℕ} → length after ≡ length marks → Marking marks after (Within rows deps last)
      → MayWalk rows deps starts after row
  walk_after e m = walk_over e (closed_after may.closed m)

  module _ (some : 1 ≤ row) where
    -- A dependency is earlier, and stands in the lent part.
    pub list_falls : (k : ℕ) → dep_sum rows (row - 1) ≤ k → k < dep_sum rows row → get_or deps k 0 < row
    list_falls k low high =
        let s = sum_here rows row some in
        let e : dep_sum rows (row - 1) + (k - dep_sum rows (row - 1)) ≡ k = omega arith in
        subst (λ (j : ℕ). get_or deps j 0 < row) e (may.falling.list_earlier row (omega arith) some (k - dep_sum rows (row - 1)) (omega arith)).1

-- What the dependency-list function has done up to a place.
pub record Done (rows deps starts before marks : List ℕ) (row end place : ℕ) : Type 0 where
  pub low : dep_sum rows (row - 1) ≤ place
  pub high : place ≤ end
  pub ends : end ≡ dep_sum rows row
  pub size : length marks ≡ length before
  pub added : Marking before marks (Listed rows deps (dep_sum rows (row - 1)) place)
  pub may : MayWalk rows deps starts marks row

module _ {rows deps starts : List ℕ} {row : ℕ} where
  -- At the first place nothing is done yet.
  pub done_none : {marks : List ℕ} {end place : ℕ} → 1 ≤ row → MayWalk rows deps starts marks row
      → end ≡ get_or starts row 0 → place ≡ get_or starts (row - 1) 0 → Done rows deps starts marks marks row end place
  done_none {marks} some may e f =
      let w = may.starts_right in
      let ends = w.right row (omega arith) in
      let begins = w.right (row - 1) (omega arith) in
      let s = sum_here rows row some in
      record {
        low = omega arith;
        high = omega arith;
        ends = omega arith;
        size = refl;
        added = subst (λ (k : ℕ). Marking marks marks (Listed rows deps (dep_sum rows (row - 1)) k)) (sym begins ∙ sym f)
            (list_none marks (dep_sum rows (row - 1)));
        may = may;
      }

  -- One dependency more, which is row `r`.
  pub done_more : {before marks after : List ℕ} {end place r : ℕ} → Done rows deps starts before marks row end place → place < end
      → length after ≡ length marks → r ≡ get_or deps place 0 → Marking marks after (Within rows deps r)
      → Done rows deps starts before after row end (place + 1)
  done_more {marks = marks} {after} d h e f m =
      let low = d.low in
      record {
        low = omega arith;
        high = omega arith;
        ends = d.ends;
        size = e ∙ d.size;
        added = list_more d.low d.added (subst (λ (r : ℕ). Marking marks after (Within rows deps r)) f m);
        may = walk_after d.may e m;
      }

  -- The dependency at a place is held, and is an earlier row.
  pub place_held : {before marks : List ℕ} {end place : ℕ} → Done rows deps starts before marks row end place → place < end → place < length deps
  place_held d h =
      let e = d.ends in
      let k = d.may.falling.list_held row (omega arith) in
      omega arith

  pub place_falls : {before marks : List ℕ} {end place : ℕ} → 1 ≤ row → Done rows deps starts before marks row end place → place < end
      → get_or deps place 0 < row
  place_falls {place = place} some d h = let e = d.ends in list_falls d.may some place d.low (omega arith)

  -- The call at a dependency: the measure falls, and the walk may begin.
  pub dependency_call : {before marks : List ℕ} {end place r t : ℕ} → 1 ≤ row → 2 * row ≡ t → Done rows deps starts before marks row end place
      → place < end → r ≡ get_or deps place 0 → (2 * r + 1 < t) × MayWalk rows deps starts marks r
  dependency_call {r = r} some e d h f =
      let k = place_falls some d h in
      let low : r < row = omega arith in
      (omega arith, walk_earlier d.may r low)

  -- The call for the dependency list.
  pub list_call : {marks after : List ℕ} {r t : ℕ} → 1 ≤ row → 2 * row + 1 ≡ t → MayWalk rows deps starts marks row
      → length after ≡ length marks → Marking marks after (Within rows deps r) → (2 * row < t) × ((1 ≤ row) × MayWalk rows deps starts after row)
  list_call some e may f m = (omega arith, (some, walk_after may f m))

  -- After both calls the row is marked.
  pub both_called : {marks b c : List ℕ} {r : ℕ} → 1 ≤ row → MayWalk rows deps starts marks row → r ≡ (row_at rows row).prev
      → Marking marks b (Within rows deps r) → Marking b c (Listed rows deps (dep_sum rows (row - 1)) (dep_sum rows row))
      → length c ≡ length b → length b ≡ length marks → Marking marks (set c row 1) (Within rows deps row)
  both_called {marks} {b} some may e f g p q =
      let h = may.marks_held in
      row_marked may.falling some (subst (λ (d : ℕ). Marking marks b (Within rows deps d)) e f) g (omega arith)

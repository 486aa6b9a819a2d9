-- Filling the table of starts, and marking entry after entry.
-- Assumes nothing.
use Prim.Native.Nat.{ℕ, ◌+◌, ◌≤◌, ◌<◌}
use mathlib.Core.Path.{◌≡◌, refl, ◌∙◌, subst}
use mathlib.Core.List.{List}
use mathlib.Core.Logic.{◌⊎◌, inl, inr}
use native.Mathlib.Omega.{arith}
use lib.ListN.{length, get_or, set, length-set}
use lib.Seq.{get_or-set_same, get_or-set_other}
use Rattle.frontiers.specs.Numbers.{state_at}
use Rattle.store.specs.Table.{row_at, dep_sum}
use Rattle.store.proofs.Rows.{sum_more, sum_grows}
use Rattle.basics.proofs.Tests.{by_eqb}
use Rattle.packing.specs.Marks.{Marking, Starts}
use Rattle.packing.specs.Packing.{PacksEntry, PacksUpTo, RootsWalk}
use Rattle.packing.proofs.Marks.{marking_then, closed_with}
use Rattle.packing.proofs.Calls.{walk_over}
use Rattle.packing.proofs.Roots.{state_back}

-- The table of starts is filled up to `row`, and `sum` dependencies stand there.
pub record Filled (rows before starts : List ℕ) (count sum row : ℕ) : Type 0 where
  pub high : row ≤ count
  pub size : length starts ≡ length before
  pub total : sum ≡ dep_sum rows row
  pub right : (y : ℕ) → y ≤ row → get_or starts y 0 ≡ dep_sum rows y

-- Up to none there are no dependencies.
pub filled_none : (rows starts : List ℕ) (count : ℕ) → 0 < length starts → Filled rows (set starts 0 0) (set starts 0 0) count 0 0
unfolding dep_sum
filled_none rows starts count h =
    record {
      high = omega arith;
      size = refl;
      total = refl;
      right = λ y le. let e : y ≡ 0 = omega arith in rw e (get_or-set_same starts 0 0 0 h);
    }

-- One row more.
filled_more : {rows before starts : List ℕ} {count sum row deps : ℕ} → Filled rows before starts count sum row → row < count
    → count < length before → deps ≡ (row_at rows (row + 1)).deps → Filled rows before (set starts (row + 1) (sum + deps)) count (sum + deps) (row + 1)
filled_more {rows} {before} {starts} {count} {sum} {row} {deps} f h k e =
    let size = f.size in
    let total : sum + deps ≡ dep_sum rows (row + 1) = (let t = f.total in let m = sum_more rows row in omega arith) in
    let held : row + 1 < length starts = omega arith in
    record {
      high = omega arith;
      size = simp length-set size;
      total = total;
      right = λ y le.
          by_eqb (λ b. get_or (set starts (row + 1) (sum + deps)) y 0 ≡ dep_sum rows y) y (row + 1)
          (λ i. rw i (get_or-set_same starts (row + 1) (sum + deps) 0 held ∙ total))
          (λ d. get_or-set_other starts (row + 1) y (sum + deps) 0 d ∙ f.right y (omega arith));
    }

-- The same, of a row `row` that follows those up to `last`.
pub filled_at : {rows before starts : List ℕ} {count sum row last deps : ℕ} → Filled rows before starts count sum last → row ≡ last + 1 → row ≤ count
    → count < length before → deps ≡ (row_at rows row).deps → Filled rows before (set starts row (sum + deps)) count (sum + deps) row
filled_at f e h k d = rw e (filled_more f (omega arith) k (rw e at d))

-- The sum fits: it is at most that of all rows.
pub sum_fits : {rows before starts : List ℕ} {count sum row deps : ℕ} → Filled rows before starts count sum row → row < count
    → deps ≡ (row_at rows (row + 1)).deps → sum + deps ≤ dep_sum rows count
sum_fits {rows} {count = count} {row = row} f h e =
    let t = f.total in
    let m = sum_more rows row in
    let k = sum_grows rows (row + 1) count (omega arith) in
    omega arith

-- At the last row the table is right.
pub filled_all : {rows before starts : List ℕ} {count sum row : ℕ} → Filled rows before starts count sum row → count ≤ row → count < length before
    → Starts rows starts count
filled_all f h k = let high = f.high in let size = f.size in record { held = omega arith; right = λ y le. f.right y (omega arith) }

-- The first `entry` entries are done.
pub record Entered (rows deps starts frontier before marks : List ℕ) (entries entry : ℕ) : Type 0 where
  pub high : entry ≤ entries
  pub size : length marks ≡ length before
  pub added : Marking before marks (PacksUpTo rows deps frontier entry)
  pub may : (k : ℕ) → k < entries → RootsWalk rows deps starts marks (state_at frontier k)

module _ {rows deps starts frontier : List ℕ} {entries : ℕ} where
  -- One entry more.
  pub entered_more : {before marks after : List ℕ} {entry : ℕ} → Entered rows deps starts frontier before marks entries entry → entry < entries
      → length after ≡ length marks → Marking marks after (PacksEntry rows deps frontier entry)
      → Entered rows deps starts frontier before after entries (entry + 1)
  entered_more {before} {marks} {after} {entry} d h e m =
      record {
        high = omega arith;
        size = e ∙ d.size;
        added = marking_then d.added m cases left right;
        may = λ k le r s. let w = d.may k le r s in walk_over w e (closed_with (λ x y p i. state_back p i) w.closed m);
      }
    where
      cases : (x : ℕ) → PacksUpTo rows deps frontier (entry + 1) x → PacksUpTo rows deps frontier entry x ⊎ PacksEntry rows deps frontier entry x
      cases x p = go p.entry p.inside p.packs
        where
          go : (k : ℕ) → k < entry + 1 → PacksEntry rows deps frontier k x
              → PacksUpTo rows deps frontier entry x ⊎ PacksEntry rows deps frontier entry x
          go k low i =
              by_eqb (λ b. PacksUpTo rows deps frontier entry x ⊎ PacksEntry rows deps frontier entry x) k entry
              (λ s. inr (subst (λ (j : ℕ). PacksEntry rows deps frontier j x) s i))
              (λ s. inl (record { entry = k; inside = omega arith; packs = i }))

      left : (x : ℕ) → PacksUpTo rows deps frontier entry x → PacksUpTo rows deps frontier (entry + 1) x
      left x p = record { entry = p.entry; inside = (let k = p.inside in omega arith); packs = p.packs }

      right : (x : ℕ) → PacksEntry rows deps frontier entry x → PacksUpTo rows deps frontier (entry + 1) x
      right x i = record { entry = entry; inside = omega arith; packs = i }

-- A well_formed store: its links and dependencies lead to earlier rows, so happened-before is a strict order on its rows.
-- Assumes nothing.
use Prim.Native.Nat.{ℕ, ◌≤◌, ◌<◌}
use native.Mathlib.Omega.{arith}
use Rattle.store.specs.Table.{Table, WellFormed}
use Rattle.store.proofs.Rows.{sum_grows}
use Rattle.store.proofs.Facts.{prev_older, dep_reaches}
use Rattle.packing.specs.Before.{HappenedBefore}
use Rattle.packing.specs.Marks.{Falling}
use Rattle.packing.proofs.Before.{before_trans, before_earlier}

-- Links and dependencies of a well_formed store lead to earlier rows.
pub well_formed_falls : (t : Table) → WellFormed t → Falling t.rows t.deps t.counts.rows
well_formed_falls t w =
    record {
      link_earlier = λ y h k. prev_older t w y h k;
      list_earlier = λ y h k i l. let r = dep_reaches t w y h k i l in (r.some, r.earlier);
      list_held = λ y h.
          let g = sum_grows t.rows y t.counts.rows h in
          let e = w.deps_sum in
          let d = w.deps_held in
          omega arith;
    }

-- In the rows of a table one happened before another.
abbrev pub BeforeIn : Table → ℕ → ℕ → Type 0
BeforeIn t x y = HappenedBefore t.rows t.deps x y

module _ (t : Table) (w : WellFormed t) where
  -- What happened before a row of the store is an earlier row of it.
  pub earlier : (x y : ℕ) → y ≤ t.counts.rows → BeforeIn t x y → (1 ≤ x) × (x < y)
  earlier x y h p = before_earlier (well_formed_falls t w) h p

  -- Nothing happened before itself.
  pub irreflexive : (x : ℕ) → x ≤ t.counts.rows → BeforeIn t x x → ⊥
  irreflexive x h p = let q = (earlier x x h p).1 in omega arith

  -- What happened before what happened before a row happened before it.
  pub transitive : (x y z : ℕ) → BeforeIn t x y → BeforeIn t y z → BeforeIn t x z
  transitive x y z p q = before_trans p q

  -- No two rows happened before each other.
  pub asymmetric : (x y : ℕ) → y ≤ t.counts.rows → BeforeIn t x y → BeforeIn t y x → ⊥
  asymmetric x y h p q = irreflexive y h (before_trans q p)

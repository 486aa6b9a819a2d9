-- `store::branches::counted_at` meets its contract: each place by the tests that led there.
-- Assumes nothing.
use native.Mathlib.Omega.{arith}
use borrow.Author.Tests.{eq-eqb, ne_eqb, lt-ltb, le-ltb}
use Rattle.store.specs.Branches.{counted_at}
use Rattle.store.proofs.branches.counted_at.Goals as goal
use Rattle.store.proofs.branches.counted_at.Goals.{then-row-eq0-2-via-then-row-eq0-2, then-row-eq0-2-via-else-row-eq0-2+then-row-gt-AUTHOR_LIMIT}

pub returns-then-row-eq0-2 : goal.returns-then-row-eq0-2
unfolding counted_at
returns-then-row-eq0-2 c =
    elim c.then-row-eq0-2.branch [
      | then-row-eq0-2-via-then-row-eq0-2 w ↦ (simp (eq-eqb _ _ c.if-row-eq0.true, eq-eqb _ _ w.if-row-eq0-2.true), omega arith)
      | then-row-eq0-2-via-else-row-eq0-2+then-row-gt-AUTHOR_LIMIT w ↦
          (simp (eq-eqb _ _ c.if-row-eq0.true, ne_eqb _ _ w.if-row-eq0-2.false, lt-ltb _ _ w.if-row-gt-AUTHOR_LIMIT.true), omega arith)
    ]

pub returns-then-row-eq0 : goal.returns-then-row-eq0
unfolding counted_at
returns-then-row-eq0 c =
    (simp (eq-eqb _ _ c.if-row-eq0.true, ne_eqb _ _ c.if-row-eq0-2.false, le-ltb _ _ c.if-row-gt-AUTHOR_LIMIT.false), omega (arith, c.if-row-gt-AUTHOR_LIMIT.false))

pub returns-then-row-gt-ROW_LIMIT : goal.returns-then-row-gt-ROW_LIMIT
unfolding counted_at
returns-then-row-gt-ROW_LIMIT c = (simp (ne_eqb _ _ c.if-row-eq0.false, lt-ltb _ _ c.if-row-gt-ROW_LIMIT.true), omega arith)

pub returns : goal.returns
unfolding counted_at
returns c =
    (simp (ne_eqb _ _ c.if-row-eq0.false, le-ltb _ _ c.if-row-gt-ROW_LIMIT.false), omega (arith, c.if-row-gt-ROW_LIMIT.false))

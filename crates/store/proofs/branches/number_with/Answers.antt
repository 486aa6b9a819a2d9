-- `store::branches::number_with` meets its contract: by whether the author is new.
-- Assumes nothing.
use native.Mathlib.Omega.{arith}
use borrow.Author.Tests.{lt-ltb, le-ltb}
use Rattle.store.proofs.branches.number_with.Goals as goal

pub returns-then-counts-row : goal.returns-then-counts-row
returns-then-counts-row c = rw (lt-ltb _ _ c.if-counts-row.true)

pub overflow_add-result : goal.overflow_add-result
overflow_add-result c =
    let h = c.requires.1 c.if-counts-row.false in
    rw c.counted_at-at.ensures.0 (omega (arith, h))

pub returns : goal.returns
returns c = rw (le-ltb _ _ c.if-counts-row.false, c.counted_at-at.ensures.0)

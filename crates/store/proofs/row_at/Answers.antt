-- `store::row_at` meets its contract: each answer by the tests that led there, the four numbers by what `wide` ensures.
-- Assumes nothing.
use borrow.Author.Tests.{eq-eqb, ne_eqb, lt-ltb, le-ltb}
use Rattle.store.specs.Table.{row_at}
use Rattle.store.proofs.row_at.Goals as goal
use Rattle.store.proofs.row_at.Goals.{then-r-eq0-via-then-r-eq0, then-r-eq0-via-else-r-eq0+then-rows-r}

pub returns-then-r-eq0 : goal.returns-then-r-eq0
unfolding row_at
returns-then-r-eq0 c =
    elim c.then-r-eq0.branch [
      | then-r-eq0-via-then-r-eq0 w ↦ simp (eq-eqb _ _ w.if-r-eq0.true)
      | then-r-eq0-via-else-r-eq0+then-rows-r w ↦ simp (ne_eqb _ _ w.if-r-eq0.false, lt-ltb _ _ w.if-rows-r.true)
    ]

pub returns : goal.returns
unfolding row_at
returns c =
    simp (
      ne_eqb _ _ c.if-r-eq0.false,
      le-ltb _ _ c.if-rows-r.false,
      c.wide-4.ensures,
      c.wide-3.ensures,
      c.wide-2.ensures,
      c.wide.ensures,
    )

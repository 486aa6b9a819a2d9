-- `item::after_payload` meets its contract: each answer rewrites the definition with the tests that led there.
-- Assumes nothing.
use borrow.Author.Tests.{lt-ltb, le-ltb}
use Rattle.item.specs.Layout.{count_tests}
use Rattle.item.proofs.after_payload.Goals as goal

pub returns-then-count-gt-COUNT_LIMIT : goal.returns-then-count-gt-COUNT_LIMIT
unfolding count_tests
returns-then-count-gt-COUNT_LIMIT c = simp (lt-ltb _ _ (rw c.read16-count.ensures.0 at c.if-count-gt-COUNT_LIMIT.true))

pub returns-then-body-p : goal.returns-then-body-p
unfolding count_tests
returns-then-body-p c = let e = c.read16-count.ensures.0 in simp (le-ltb _ _ (rw e at c.if-count-gt-COUNT_LIMIT.false), lt-ltb _ _ (rw e at c.if-body-p.true))

pub returns-then-p-count : goal.returns-then-p-count
unfolding count_tests
returns-then-p-count c = let e = c.read16-count.ensures.0 in simp
    (le-ltb _ _ (rw e at c.if-count-gt-COUNT_LIMIT.false), le-ltb _ _ (rw e at c.if-body-p.false), lt-ltb _ _ (rw e at c.if-p-count.true))

pub returns : goal.returns
unfolding count_tests
returns c = let e = c.read16-count.ensures.0 in simp (
  le-ltb _ _ (rw e at c.if-count-gt-COUNT_LIMIT.false),
  le-ltb _ _ (rw e at c.if-body-p.false),
  le-ltb _ _
      (rw e at c.if-p-count.false),
  c.read32.ensures.0,
  e,
)

-- `kind3::body_layout` meets its contract: each answer rewrites the definition with the tests that led there.
-- Assumes nothing.
use borrow.Author.Tests.{lt-ltb, le-ltb}
use Rattle.kind3.specs.Layout.{body_tests}
use Rattle.kind3.proofs.body_layout.Goals as goal

pub returns-then-body-lt-SMALLEST_BODY : goal.returns-then-body-lt-SMALLEST_BODY
unfolding body_tests
returns-then-body-lt-SMALLEST_BODY c = simp (lt-ltb _ _ c.if-body-lt-SMALLEST_BODY.true)

pub returns-then-count-gt-ENTRY_LIMIT : goal.returns-then-count-gt-ENTRY_LIMIT
unfolding body_tests
returns-then-count-gt-ENTRY_LIMIT c = let e = c.read16-count.ensures.0 in simp (le-ltb _ _ c.if-body-lt-SMALLEST_BODY.false, lt-ltb _ _ (rw e at c.if-count-gt-ENTRY_LIMIT.true))

pub returns-then-body-count : goal.returns-then-body-count
unfolding body_tests
returns-then-body-count c =
    let e = c.read16-count.ensures.0 in
    let h = le-ltb _ _ c.if-body-lt-SMALLEST_BODY.false in
    simp (h, le-ltb _ _ (rw e at c.if-count-gt-ENTRY_LIMIT.false), lt-ltb _ _ (rw e at c.if-body-count.true))

pub returns-then-count-body : goal.returns-then-count-body
unfolding body_tests
returns-then-count-body c =
    let e = c.read16-count.ensures.0 in
    let h = le-ltb _ _ c.if-body-lt-SMALLEST_BODY.false in
    let k = le-ltb _ _ (rw e at c.if-count-gt-ENTRY_LIMIT.false) in
    simp (h, k, le-ltb _ _ (rw e at c.if-body-count.false), lt-ltb _ _ (rw e at c.if-count-body.true))

pub returns : goal.returns
unfolding body_tests
returns c =
    let e = c.read16-count.ensures.0 in
    let h = le-ltb _ _ c.if-body-lt-SMALLEST_BODY.false in
    let n = le-ltb _ _ (rw e at c.if-count-gt-ENTRY_LIMIT.false) in
    simp (h, n, le-ltb _ _ (rw e at c.if-body-count.false), le-ltb _ _ (rw e at c.if-count-body.false), e)

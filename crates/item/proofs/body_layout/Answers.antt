-- `item::body_layout` meets its contract: each answer rewrites the definition with the tests that led there.
-- Assumes nothing.
use borrow.Author.Tests.{lt-ltb, le-ltb}
use Rattle.item.specs.Layout.{body_tests}
use Rattle.item.proofs.body_layout.Goals as goal

pub returns-then-body-lt-SMALLEST_BODY : goal.returns-then-body-lt-SMALLEST_BODY
unfolding body_tests
returns-then-body-lt-SMALLEST_BODY c = simp (lt-ltb _ _ c.if-body-lt-SMALLEST_BODY.true)

pub returns-then-size-gt-PAYLOAD_LIMIT : goal.returns-then-size-gt-PAYLOAD_LIMIT
unfolding body_tests
returns-then-size-gt-PAYLOAD_LIMIT c = let e = c.read32-size.ensures.0 in simp (le-ltb _ _ c.if-body-lt-SMALLEST_BODY.false, lt-ltb _ _ (rw e at c.if-size-gt-PAYLOAD_LIMIT.true))

pub returns-then-body-size : goal.returns-then-body-size
unfolding body_tests
returns-then-body-size c =
    let e = c.read32-size.ensures.0 in
    let h = le-ltb _ _ c.if-body-lt-SMALLEST_BODY.false in
    simp (h, le-ltb _ _ (rw e at c.if-size-gt-PAYLOAD_LIMIT.false), lt-ltb _ _ (rw e at c.if-body-size.true))

pub returns : goal.returns
unfolding body_tests
returns c =
    let e = c.read32-size.ensures.0 in
    let b = le-ltb _ _ c.if-body-lt-SMALLEST_BODY.false in
    let k = le-ltb _ _ (rw e at c.if-size-gt-PAYLOAD_LIMIT.false) in
    simp (b, k, le-ltb _ _ (rw e at c.if-body-size.false), c.after_payload.ensures, e)

-- `item::check_head` meets its contract: each answer rewrites the definition with the tests that led there.
-- Assumes nothing.
use borrow.Author.Tests.{lt-ltb, le-ltb, eq-eqb, ne_eqb}
use Rattle.item.specs.Head.{head_tests}
use Rattle.item.proofs.check_head.Goals as goal

pub returns-then-item-lt4 : goal.returns-then-item-lt4
unfolding head_tests
returns-then-item-lt4 c = simp (lt-ltb _ _ c.if-item-lt4.true)

pub returns-then-limit-length : goal.returns-then-limit-length
unfolding head_tests
returns-then-limit-length c =
    let e = c.read32-length.ensures.0 in
    simp (le-ltb _ _ c.if-item-lt4.false, lt-ltb _ _ (rw e at c.if-limit-length.true))

pub returns-then-length-lt2 : goal.returns-then-length-lt2
unfolding head_tests
returns-then-length-lt2 c =
    let e = c.read32-length.ensures.0 in
    let h = le-ltb _ _ c.if-item-lt4.false in
    simp (h, le-ltb _ _ (rw e at c.if-limit-length.false), lt-ltb _ _ (rw e at c.if-length-lt2.true))

pub returns-then-follows-length : goal.returns-then-follows-length
unfolding head_tests
returns-then-follows-length c =
    let e = c.read32-length.ensures.0 in
    let h = le-ltb _ _ c.if-item-lt4.false in
    let two = le-ltb _ _ (rw e at c.if-length-lt2.false) in
    simp (h, le-ltb _ _ (rw e at c.if-limit-length.false), two, lt-ltb _ _ (rw e at c.if-follows-length.true))

pub returns-then-length-follows : goal.returns-then-length-follows
unfolding head_tests
returns-then-length-follows c =
    let e = c.read32-length.ensures.0 in
    let h = le-ltb _ _ c.if-item-lt4.false in
    let two = le-ltb _ _ (rw e at c.if-length-lt2.false) in
    let all = le-ltb _ _ (rw e at c.if-follows-length.false) in
    simp (h, le-ltb _ _ (rw e at c.if-limit-length.false), two, all, lt-ltb _ _ (rw e at c.if-length-follows.true))

pub returns-then-read16-kind : goal.returns-then-read16-kind
unfolding head_tests
returns-then-read16-kind c =
    let e = c.read32-length.ensures.0 in
    let k = ne_eqb _ _ (rw c.read16.ensures.0 at c.if-read16-kind.true) in
    let h = le-ltb _ _ c.if-item-lt4.false in
    let two = le-ltb _ _ (rw e at c.if-length-lt2.false) in
    let all = le-ltb _ _ (rw e at c.if-follows-length.false) in
    simp (h, le-ltb _ _ (rw e at c.if-limit-length.false), two, all, le-ltb _ _ (rw e at c.if-length-follows.false), k)

pub returns : goal.returns
unfolding head_tests
returns c =
    let e = c.read32-length.ensures.0 in
    let k = eq-eqb _ _ (rw c.read16.ensures.0 at c.if-read16-kind.false) in
    let h = le-ltb _ _ c.if-item-lt4.false in
    let two = le-ltb _ _ (rw e at c.if-length-lt2.false) in
    let all = le-ltb _ _ (rw e at c.if-follows-length.false) in
    let end = le-ltb _ _ (rw e at c.if-length-follows.false) in
    simp (h, le-ltb _ _ (rw e at c.if-limit-length.false), two, all, end, k)

-- `chunks::piece_at` meets its contract: each answer by the tests that led there.
-- Assumes nothing.
use borrow.Author.Tests.{eq-eqb, ne_eqb, lt-ltb, le-ltb}
use native.Mathlib.Nat.{add-sub_cancel_left}
use Rattle.chunks.specs.Piece.{piece_at}
use Rattle.chunks.proofs.piece_at.Goals as goal

pub returns-then-r-eq0 : goal.returns-then-r-eq0
unfolding piece_at
returns-then-r-eq0 c = simp (eq-eqb _ _ c.if-r-eq0.true)

pub returns-then-s-r : goal.returns-then-s-r
unfolding piece_at
returns-then-s-r c = simp (ne_eqb _ _ c.if-r-eq0.false, lt-ltb _ _ c.if-s-r.true)

pub returns : goal.returns
unfolding piece_at
returns c = simp (ne_eqb _ _ c.if-r-eq0.false, le-ltb _ _ c.if-s-r.false, add-sub_cancel_left)

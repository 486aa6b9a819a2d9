-- `standing::sending::better_entry` meets its contract: each answer by the comparisons that led there.
-- Assumes nothing.
use mathlib.Core.Bool.{true}
use native.Mathlib.Omega.{arith}
use Rattle.chunks.specs.Piece.{piece_at}
use Rattle.standing.proofs.Next.{better_below, better_first, better_new, better_old}
use Rattle.standing.proofs.sending.better_entry.Goals as goal

pub returns-then-not-before : goal.returns-then-not-before
returns-then-not-before c =
    let a = c.args in
    let x = rw c.wide.ensures at c.piece_at-key.ensures in
    let y = rw c.wide-2.ensures at c.piece_at.ensures in (
      better_below a.keys.now a.f.now (piece_at a.keys.now a.last) _ a.keys.now a.best a.i _ true x
          (rw y at c.before-2.ensures)
          c.if-not-before.true,
      omega (arith, c.requires.0),
    )

pub returns-then-best-eq0 : goal.returns-then-best-eq0
returns-then-best-eq0 c =
    let a = c.args in
    let x = rw c.wide.ensures at c.piece_at-key.ensures in
    let y = rw c.wide-2.ensures at c.piece_at.ensures in (
      better_first a.keys.now a.f.now (piece_at a.keys.now a.last) _ a.keys.now a.best a.i _ true x
          (rw y at c.before-2.ensures)
          c.if-not-before.false c.if-best-eq0.true,
      omega arith,
    )

pub returns-then-before : goal.returns-then-before
returns-then-before c =
    let a = c.args in
    let x = rw c.wide.ensures at c.piece_at-key.ensures in
    let y = rw c.wide-2.ensures at c.piece_at.ensures in
    let z = rw c.wide-3.ensures at c.piece_at-2.ensures in (
      better_new a.keys.now a.f.now (piece_at a.keys.now a.last) _ _ a.best a.i _ _ x (rw y at c.before-2.ensures)
          z c.before-3.ensures c.if-not-before.false c.if-best-eq0.false c.if-before.true,
      omega arith,
    )

pub returns : goal.returns
returns c =
    let a = c.args in
    let x = rw c.wide.ensures at c.piece_at-key.ensures in
    let y = rw c.wide-2.ensures at c.piece_at.ensures in
    let z = rw c.wide-3.ensures at c.piece_at-2.ensures in (
      better_old a.keys.now a.f.now (piece_at a.keys.now a.last) _ _ a.best a.i _ _ x (rw y at c.before-2.ensures)
          z c.before-3.ensures c.if-not-before.false c.if-best-eq0.false c.if-before.false,
      omega (arith, c.requires.0),
    )

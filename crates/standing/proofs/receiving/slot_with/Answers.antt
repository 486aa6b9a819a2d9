-- `standing::receiving::slot_with` meets its contract: the rest of the entries decides.
-- Assumes nothing.
use mathlib.Core.Path.{sym, ap, ◌∙◌}
use mathlib.Core.Option.{some}
use native.Mathlib.Omega.{arith}
use Rattle.std.proofs.Common.{rules}
use Rattle.chunks.specs.Piece.{piece_at}
use Rattle.standing.proofs.Held.{rows_all, rows_found, rows_more, rows_none}
use Rattle.standing.proofs.receiving.slot_with.Goals as goal

pub loop-i-init : goal.loop-i-init
loop-i-init c =
    let a = c.args in
    (omega arith, rows_all a.store.now.ids.now a.store.now.counts.rows a.item.now (piece_at a.store.now.keys.now a.author) a.n)

pub returns-then-same : goal.returns-then-same
returns-then-same c =
    let a = c.args in
    let l = c.loop-i in
    let k = c.state_with.ensures in
    let y = rw c.wide.ensures at c.piece_at.ensures in (
      k.0,
      rows_found a.store.now.ids.now a.store.now.counts.rows a.item.now (piece_at a.store.now.keys.now a.author) a.n l.i _ _ _
          c.loop-i-test.true
          c.chunk_in.ensures y c.same.ensures l.invariant.1 c.if-same.true ∙ ap some
          (sym k.1),
    )

pub loop-i-preserved : goal.loop-i-preserved
loop-i-preserved c =
    let a = c.args in
    let l = c.loop-i in
    let y = rw c.wide.ensures at c.piece_at.ensures in (
      search rules,
      rows_more a.store.now.ids.now a.store.now.counts.rows a.item.now (piece_at a.store.now.keys.now a.author) a.n l.i _ _ _
          c.loop-i-test.true
          c.chunk_in.ensures y c.same.ensures l.invariant.1 c.if-same.false,
    )

pub returns : goal.returns
returns c =
    let a = c.args in
    let l = c.loop-i in
    rows_none a.store.now.ids.now a.store.now.counts.rows a.item.now (piece_at a.store.now.keys.now a.author) a.n l.i c.loop-i-test.false l.invariant.1

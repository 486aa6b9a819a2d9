-- `standing::sending::next_entry` meets its contract: the best of the entries so far.
-- Assumes nothing.
use mathlib.Core.Path.{refl}
use native.Mathlib.Omega.{arith}
use Rattle.chunks.specs.Piece.{piece_at}
use Rattle.standing.proofs.Next.{next_none, next_more, next_end}
use Rattle.standing.proofs.sending.next_entry.Goals as goal

pub loop-i-init : goal.loop-i-init
loop-i-init c = let a = c.args in (refl, (omega arith, (omega arith, next_none a.keys.now a.f.now (piece_at a.keys.now a.last))))

pub better_entry-best-requires : goal.better_entry-best-requires
better_entry-best-requires c = (c.loop-i.invariant.1.1.0, omega arith)

pub loop-i-preserved : goal.loop-i-preserved
loop-i-preserved c =
    let a = c.args in
    let l = c.loop-i in
    let b = c.better_entry-best.ensures in
    (refl, (omega arith, (b.1, next_more a.keys.now a.f.now (piece_at a.keys.now a.last) l.best l.i _ l.invariant.1.1.1 b.0)))

pub returns : goal.returns
returns c =
    let a = c.args in
    let l = c.loop-i in
    (next_end a.keys.now a.f.now (piece_at a.keys.now a.last) l.best l.i _ (omega arith) l.invariant.1.1.1, omega arith)

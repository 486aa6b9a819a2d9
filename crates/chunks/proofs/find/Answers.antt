-- `chunks::find` meets its contract: nothing before the piece at hand is the one looked for.
-- Assumes nothing.
use Rattle.std.proofs.Common.{rules}
use mathlib.Core.Path.{◌≡◌, sym, ◌∙◌}
use mathlib.Core.Bool.{true, false}
use native.Mathlib.Omega.{arith}
use Rattle.chunks.specs.Bytes.{same_bytes}
use Rattle.chunks.specs.Piece.{piece_at}
use Rattle.chunks.proofs.Finding.{none_more, first_here, found_first, found_none}
use Rattle.chunks.proofs.find.Goals as goal

pub returns-then-same : goal.returns-then-same
returns-then-same c =
    let a = c.args in
    let r = c.loop-r.r in
    let e : same_bytes (piece_at a.s.now r) a.x.now ≡ true = rw (← c.piece_at.ensures) (sym c.same.ensures ∙ c.if-same.true) in
    sym (found_first a.s.now a.x.now a.n r (first_here a.s.now a.x.now r a.n c.loop-r.invariant (search rules) (search rules) e))

pub loop-r-preserved : goal.loop-r-preserved
loop-r-preserved c =
    let a = c.args in
    let r = c.loop-r.r in
    let e : same_bytes (piece_at a.s.now r) a.x.now ≡ false = rw (← c.piece_at.ensures) (sym c.same.ensures ∙ c.if-same.false) in
    (λ i h. none_more a.s.now a.x.now r c.loop-r.invariant e i (omega arith))

pub returns-else-same : goal.returns-else-same
returns-else-same c =
    let a = c.args in
    let r = c.loop-r.r in
    let d : same_bytes (piece_at a.s.now r) a.x.now ≡ false = rw (← c.piece_at.ensures) (sym c.same.ensures ∙ c.if-same.false) in
    sym (found_none a.s.now a.x.now a.n (λ i h. none_more a.s.now a.x.now r c.loop-r.invariant d i (omega arith)))

pub returns : goal.returns
returns c =
    let l = c.loop-r in
    let a = c.args in
    sym (found_none a.s.now a.x.now a.n (λ i h. l.invariant i (omega arith)))

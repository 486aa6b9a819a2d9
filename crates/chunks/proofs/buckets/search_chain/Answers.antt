-- `chunks::buckets::search_chain` meets its contract: what is on the chain and is the piece looked for is still to come.
-- Assumes nothing.
use Rattle.std.proofs.Common.{rules}
use mathlib.Core.Path.{◌≡◌, sym, ap, ◌∙◌}
use mathlib.Core.Bool.{true, false}
use native.Mathlib.Omega.{arith}
use Rattle.chunks.specs.Bytes.{same_bytes}
use Rattle.chunks.specs.Piece.{piece_at}
use Rattle.chunks.specs.Buckets.{linked}
use Rattle.chunks.proofs.Filing.{linked_more, to_come_next, none_to_come, one_found}
use Rattle.chunks.proofs.buckets.search_chain.Goals as goal

pub loop-h-init : goal.loop-h-init
unfolding linked
loop-h-init c = (search rules, (c.wide-h.ensures, rw (← c.wide-h.ensures) (λ i o e. o)))

pub returns-then-passed-eq-LONGEST : goal.returns-then-passed-eq-LONGEST
returns-then-passed-eq-LONGEST c z =
    let l = c.loop-h in
    let a = c.args in
    c.loop-h-test.true (l.invariant.1.0 ∙ ap (λ k. linked a.next.now k a.head) c.if-passed-eq-LONGEST.true ∙ z)

pub returns-then-same : goal.returns-then-same
returns-then-same c =
    let a = c.args in
    let e : same_bytes (piece_at a.s.now c.loop-h.h) a.x.now ≡ true =
    rw (← c.piece_at.ensures) (sym c.same.ensures ∙ c.if-same.true)
    in
    one_found a.s.now a.next.now a.head a.x.now c.loop-h.h (search rules) (search rules) e

pub loop-h-smaller : goal.loop-h-smaller
loop-h-smaller c =
    let f = c.requires.0 c.loop-h.h (search rules) in
    omega (arith, c.wide-h-in-loop-h.ensures)

pub loop-h-preserved : goal.loop-h-preserved
loop-h-preserved c =
    let a = c.args in
    let f = c.requires.0 c.loop-h.h (search rules) in
    let e : same_bytes (piece_at a.s.now c.loop-h.h) a.x.now ≡ false =
    rw (← c.piece_at.ensures) (sym c.same.ensures ∙ c.if-same.false)
    in (
      (omega (arith, c.wide-h-in-loop-h.ensures), search rules),
      (
        c.wide-h-in-loop-h.ensures ∙ linked_more a.next.now c.loop-h.passed a.head c.loop-h.h c.loop-h.invariant.1.0,
        rw c.wide-h-in-loop-h.ensures (to_come_next a.s.now a.next.now a.head a.x.now c.loop-h.h c.loop-h.invariant.1.1 e),
      ),
    )

pub returns : goal.returns
returns c =
    let l = c.loop-h in
    let a = c.args in
    none_to_come a.s.now a.next.now a.head a.x.now l.h (search rules) l.invariant.1.1

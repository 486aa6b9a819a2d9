-- `chunks::buckets::search_twice` meets its contract: what is on the chain twice is still to come.
-- Assumes nothing.
use Rattle.std.proofs.Common.{rules}
use native.Mathlib.Omega.{arith}
use lib.ListN.{get_or}
use Rattle.chunks.proofs.Filing.{twice_next, none_twice, one_twice, long_there}
use Rattle.chunks.proofs.buckets.search_twice.Goals as goal

pub loop-h-init : goal.loop-h-init
loop-h-init c = (search rules, rw (← c.wide-h.ensures) (λ j o i q e. o))

pub search_chain-requires : goal.search_chain-requires
search_chain-requires c =
    (c.requires.0, omega (arith, c.requires.0 c.loop-h.h (search rules)))

pub returns-in-Present : goal.returns-in-Present
returns-in-Present c =
    let a = c.args in
    one_twice a.s.now a.next.now a.head c.loop-h.h c.piece_at.result.now c.search_chain.result c.requires.0 (search rules)
    (search rules) c.piece_at.ensures c.search_chain.ensures c.in-Present.is

pub returns-in-TooLong : goal.returns-in-TooLong
returns-in-TooLong c =
    let a = c.args in
    long_there a.s.now a.next.now a.head (get_or a.next.now c.loop-h.h 0) c.piece_at.result.now c.search_chain.result
    c.search_chain.ensures c.in-TooLong.is

pub loop-h-smaller : goal.loop-h-smaller
loop-h-smaller c =
    omega (arith, c.wide-h-in-loop-h.ensures, c.requires.0 c.loop-h.h (search rules))

pub loop-h-preserved : goal.loop-h-preserved
loop-h-preserved c =
    let a = c.args in (
      omega (arith, c.wide-h-in-loop-h.ensures, c.requires.0 c.loop-h.h (search rules)),
      rw c.wide-h-in-loop-h.ensures
          (twice_next a.s.now a.next.now a.head c.loop-h.h c.piece_at.result.now c.search_chain.result c.loop-h.invariant.1
          c.piece_at.ensures c.search_chain.ensures c.in-Absent.is),
    )

pub returns : goal.returns
returns c =
    let l = c.loop-h in
    let a = c.args in
    none_twice a.s.now a.next.now a.head l.h (search rules) l.invariant.1

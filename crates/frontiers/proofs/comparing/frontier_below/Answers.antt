-- `frontiers::comparing::frontier_below` meets its contract.
-- Assumes nothing.
use Prim.Native.Nat.{◌+◌}
use native.Mathlib.Omega.{arith}
use borrow.Author.Count.{below_more}
use Rattle.basics.proofs.Decisions.{decided_yes}
use Rattle.logs.specs.Held.{chain}
use Rattle.frontiers.proofs.Below.{below_start, below_all}
use Rattle.frontiers.proofs.comparing.frontier_below.Goals as goal

pub loop-a-init : goal.loop-a-init
loop-a-init c =
    let a = c.args in
    below_start (chain a.store.now.ids.now a.store.now.rows.now a.store.now.counts.rows) a.store.now.counts.authors a.f.now a.g.now c.requires.first

pub returns : goal.returns
returns c =
    let a = c.args in
    let l = c.loop-a in
    decided_yes (below_all (chain a.store.now.ids.now a.store.now.rows.now a.store.now.counts.rows) a.store.now.counts.authors a.f.now a.g.now
    c.requires.first l.a (omega arith) l.invariant)

pub returns-else-not-below_entry : goal.returns-else-not-below_entry
returns-else-not-below_entry c =
    let a = c.args in
    let l = c.loop-a in
    decided_yes (below_all (chain a.store.now.ids.now a.store.now.rows.now a.store.now.counts.rows) a.store.now.counts.authors a.f.now a.g.now
    c.requires.first (l.a + 1) (omega arith) (below_more _ _ l.invariant (c.below_entry.ensures.yes c.if-not-below_entry.false)))

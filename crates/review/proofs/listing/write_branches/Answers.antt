-- `review::listing::write_branches` meets its contract: the lowest that is left, again and again.
-- Assumes nothing.
use native.Mathlib.Omega.{arith}
use Rattle.review.proofs.Writing.{sofar_put, sofar_all}
use Rattle.review.proofs.listing.write_branches.Goals as goal

pub loop-k-preserved : goal.loop-k-preserved
loop-k-preserved c =
    let a = c.args in
    let l = c.loop-k in
    let t = c.loop-k-test.true in
    let p = c.lowest_tip-tip in
    let r = sofar_put a.ids.now a.count a.found a.kids.now a.out.now l.k l.kids l.out l.invariant t c.requires in
    r p.result p.ensures _ c.narrow.ensures

pub returns : goal.returns
returns c =
    let a = c.args in
    let l = c.loop-k in
    sofar_all a.ids.now a.count a.found a.kids.now a.out.now l.k l.kids l.out l.invariant (omega arith)

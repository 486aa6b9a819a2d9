-- `frontiers::reading::find_entry` meets its contract.
-- Assumes nothing.
use mathlib.Core.Path.{refl}
use native.Mathlib.Omega.{arith}
use Rattle.frontiers.proofs.Search.{rest_all, rest_found, rest_more, rest_none}
use Rattle.frontiers.proofs.reading.find_entry.Goals as goal

pub loop-i-init : goal.loop-i-init
loop-i-init c = rest_all c.args.f.now _ c.args.a refl

pub returns-then-k-a : goal.returns-then-k-a
returns-then-k-a c =
    let l = c.loop-i in
    let a = c.args in
    let k = c.read_entry-k in
    rest_found a.f.now _ l.i a.a k.result c.loop-i-test.true l.invariant k.ensures c.if-k-a.true

pub loop-i-preserved : goal.loop-i-preserved
loop-i-preserved c =
    let l = c.loop-i in
    let a = c.args in
    let k = c.read_entry-k in
    rest_more a.f.now _ l.i a.a k.result c.loop-i-test.true l.invariant k.ensures c.if-k-a.false

pub returns : goal.returns
returns c =
    let l = c.loop-i in
    let a = c.args in
    rest_none a.f.now _ l.i a.a (omega arith) l.invariant

-- `judging::deps::named_rows` meets its contract: the invariant says that none of the dependencies passed lacks, that their rows stand
-- at the front of the array, and that the rest of it is 0.
-- Assumes nothing.
use Prim.Native.Nat.{◌≤◌}
use mathlib.Core.Path.{◌≡◌, sym, ◌∙◌}
use mathlib.Core.List.{[]}
use native.Mathlib.Omega.{arith}
use Rattle.std.proofs.Common.{rules}
use Rattle.item.specs.Offsets.{count_limit}
use Rattle.item.specs.Layout.{dependency_of}
use Rattle.judging.specs.Message.{lacks, named}
use Rattle.judging.proofs.Found.{look_missing, look_found, look_some, look_within}
use Rattle.judging.proofs.Named.{zeros_at, names_not, names_all, lacks_more, named_more, rest_more}
use Rattle.judging.proofs.deps.named_rows.Goals as goal

pub loop-k-init : goal.loop-k-init
unfolding lacks named
loop-k-init c = (search rules, (search rules, (search rules, λ i h. zeros_at count_limit i)))

pub returns-in_default : goal.returns-in_default
returns-in_default c =
    let l = c.loop-k in
    let a = c.args in
    names_not a.ids.now a.n a.item.now a.f l.rows l.k l.invariant.0 (search rules) l.invariant.1.0
    (look_missing a.ids.now (dependency_of a.f l.k a.item.now) c.dependency_of.result.now a.n c.find_id.result
    c.in_default.is c.find_id.ensures c.dependency_of.ensures)
    l.invariant.1.1.0 l.invariant.1.1.1

pub narrow-requires : goal.narrow-requires
narrow-requires c =
    let a = c.args in
    let h : c.in-Some.r ≤ a.n =
    look_within a.ids.now [] c.dependency_of.result.now a.n c.find_id.result c.in-Some.r
    c.in-Some.is c.find_id.ensures in
    search rules

pub loop-k-preserved : goal.loop-k-preserved
loop-k-preserved c =
    let l = c.loop-k in
    let a = c.args in
    let e = look_found a.ids.now (dependency_of a.f l.k a.item.now) c.dependency_of.result.now a.n c.find_id.result c.in-Some.r
    c.in-Some.is c.find_id.ensures c.dependency_of.ensures in
    let z = look_some a.ids.now (dependency_of a.f l.k a.item.now) c.dependency_of.result.now a.n c.find_id.result c.in-Some.r
    c.in-Some.is c.find_id.ensures in (
      search rules,
      (
        lacks_more a.ids.now a.n a.item.now a.f l.k l.invariant.1.0 (rw e z),
        (
          named_more a.ids.now a.n a.item.now a.f l.k l.rows c.narrow.result (search rules) l.invariant.1.1.0
              (c.narrow.ensures ∙ sym e),
          rest_more a.ids.now a.n a.item.now a.f l.k l.rows c.narrow.result l.invariant.1.1.1,
        ),
      ),
    )

pub returns : goal.returns
returns c =
    let l = c.loop-k in
    let a = c.args in
    let e : l.k ≡ a.f.count = omega arith in
    names_all a.ids.now a.n a.item.now a.f l.rows l.invariant.0 (rw e at l.invariant.1.0) (rw e at l.invariant.1.1.0)
    (rw e at l.invariant.1.1.1)

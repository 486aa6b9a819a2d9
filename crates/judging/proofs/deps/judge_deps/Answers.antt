-- `judging::deps::judge_deps` meets its contract: a dependency lacks, or the rows that all of them name decide.
-- Assumes nothing.
use mathlib.Core.Bool.{true, false}
use mathlib.Core.Path.{sym}
use native.Mathlib.Omega.{arith}
use lib.Seq.{length-take-le}
use Rattle.judging.proofs.Judging.{deps_lack, deps_held}
use Rattle.judging.proofs.Named.{names_sized}
use Rattle.judging.proofs.deps.judge_deps.Goals as goal

pub returns-in_default : goal.returns-in_default
returns-in_default c =
    let a = c.args in
    deps_lack a.ids.now a.rows.now a.n a.item.now a.f a.row c.named_rows.result c.named_rows.ensures _ c.in_default.is

pub slice_bounds-is_crossed-end : goal.slice_bounds-is_crossed-end
slice_bounds-is_crossed-end c =
    let a = c.args in
    sym (length-take-le c.args.f.count c.in-Ok.named (omega (arith, names_sized a.ids.now a.n a.item.now a.f c.named_rows.result c.named_rows.ensures c.in-Ok.named c.in-Ok.is, c.requires.0)))

pub returns-then-is_crossed : goal.returns-then-is_crossed
returns-then-is_crossed c =
    let a = c.args in
    deps_held a.ids.now a.rows.now a.n a.item.now a.f a.row c.named_rows.result c.named_rows.ensures c.in-Ok.named c.in-Ok.is
    c.is_crossed.result true c.is_crossed.ensures c.if-is_crossed.true

pub returns : goal.returns
returns c =
    let a = c.args in
    deps_held a.ids.now a.rows.now a.n a.item.now a.f a.row c.named_rows.result c.named_rows.ensures c.in-Ok.named c.in-Ok.is
    c.is_crossed.result false c.is_crossed.ensures c.if-is_crossed.false

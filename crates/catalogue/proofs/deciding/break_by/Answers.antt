-- `catalogue::deciding::break_by` meets its contract: the nearest row that depends on the author decides.
-- Assumes nothing.
use native.Mathlib.Omega.{arith}
use Rattle.catalogue.proofs.Back.{look_less}
use Rattle.catalogue.proofs.Logs.{nearest_earlier}
use Rattle.catalogue.proofs.Nearer.{break_none, dependency_some, break_kept, break_at}
use Rattle.catalogue.proofs.deciding.break_by.Goals as goal

pub returns-then-nearest-eq0 : goal.returns-then-nearest-eq0
returns-then-nearest-eq0 c =
    let a = c.args in
    break_none a.rows.now a.deps.now a.starts.now a.on a.dependency c.requires _ c.row_at-this.ensures _
    c.nearest_row-nearest.ensures c.if-nearest-eq0.true

pub list_of-requires : goal.list_of-requires
list_of-requires c =
    let l = c.requires.log in
    (omega arith, look_less l (nearest_earlier l.orderly.falling (omega arith) c.nearest_row-nearest.ensures))

pub same_or_before-requires : goal.same_or_before-requires
same_or_before-requires c =
    let a = c.args in (
      dependency_some a.rows.now a.deps.now a.starts.now a.on a.dependency c.requires _ c.row_at-this.ensures _
          c.nearest_row-nearest.ensures _ _ c.list_of.ensures c.dep_by-earlier.ensures (omega arith),
      c.requires.named,
    )

pub returns-then-same_or_before : goal.returns-then-same_or_before
returns-then-same_or_before c =
    let a = c.args in
    break_kept a.rows.now a.deps.now a.starts.now a.on a.dependency c.requires _ c.row_at-this.ensures _
    c.nearest_row-nearest.ensures _ _ c.list_of.ensures c.dep_by-earlier.ensures
    (c.same_or_before.ensures.yes c.if-same_or_before.true)

pub returns : goal.returns
returns c =
    let a = c.args in
    break_at a.rows.now a.deps.now a.starts.now a.on a.dependency c.requires _ c.row_at-this.ensures _
    c.nearest_row-nearest.ensures _ _ c.list_of.ensures c.dep_by-earlier.ensures
    (omega arith) (c.same_or_before.ensures.no c.if-same_or_before.false)

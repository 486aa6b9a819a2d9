-- `releases::showing::show_entry` meets its contract.
-- Assumes nothing.
use mathlib.Core.Path.{ap}
use native.Mathlib.Omega.{arith}
use Rattle.store.specs.declared.Row.{Row}
use Rattle.releases.proofs.Answering.{shown_none, shown_found}
use Rattle.releases.proofs.showing.show_entry.Goals as goal

pub returns-then-at-eq0 : goal.returns-then-at-eq0
returns-then-at-eq0 c =
    let a = c.args in
    shown_none a.rows.now a.components.now a.state a.component _ _ c.wide.ensures c.if-at-eq0.true
    c.walk_back-at.ensures.1

pub narrow-requires-2 : goal.narrow-requires-2
narrow-requires-2 c =
    let p = c.requires in
    let w = c.walk_back-at in
    let h = p.indexes w.result (omega (arith, w.ensures.0, c.wide.ensures, p.held)) in
    omega (arith, ap (λ (r : Row). r.index) c.row_at-row.ensures, h, p.limit)

pub returns : goal.returns
returns c =
    let a = c.args in
    shown_found a.rows.now a.components.now a.expanded.now a.state a.component _ c.walk_back-at.result _ _ _ _ c.wide.ensures
    c.if-at-eq0.false c.row_at-row.ensures c.narrow.ensures c.narrow-2.ensures c.is_frozen.ensures c.walk_back-at.ensures.1

-- `catalogue::looking::list_of` meets its contract.
-- Assumes nothing.
use native.Mathlib.Omega.{arith}
use Rattle.catalogue.proofs.Back.{list_places, list_is}
use Rattle.std.proofs.Common.{rules}
use Rattle.catalogue.proofs.looking.list_of.Goals as goal

pub bounds-starts-row : goal.bounds-starts-row
bounds-starts-row c =
    let a = c.args in
    let p = list_places a.rows.now a.deps.now a.starts.now a.row c.requires.0 c.requires.1 in
    omega (arith, p.0)

pub bounds-starts-row-2 : goal.bounds-starts-row-2
bounds-starts-row-2 c =
    let a = c.args in
    let p = list_places a.rows.now a.deps.now a.starts.now a.row c.requires.0 c.requires.1 in
    p.0

pub offset_bounds-deps-from : goal.offset_bounds-deps-from
offset_bounds-deps-from c =
    let a = c.args in
    let p = list_places a.rows.now a.deps.now a.starts.now a.row c.requires.0 c.requires.1 in
    omega (arith, p.1.0, p.1.1)

pub slice_bounds-result-count : goal.slice_bounds-result-count
slice_bounds-result-count c =
    let a = c.args in
    let p = list_places a.rows.now a.deps.now a.starts.now a.row c.requires.0 c.requires.1 in
    p.1.0

pub slice_bounds-result-start : goal.slice_bounds-result-start
slice_bounds-result-start c =
    let a = c.args in
    let p = list_places a.rows.now a.deps.now a.starts.now a.row c.requires.0 c.requires.1 in
    search (rules, p.1.0)

pub slice_bounds-result-end : goal.slice_bounds-result-end
slice_bounds-result-end c =
    let a = c.args in
    let p = list_places a.rows.now a.deps.now a.starts.now a.row c.requires.0 c.requires.1 in
    search (rules, p.1.1)

pub returns : goal.returns
returns c =
    let a = c.args in
    list_is a.rows.now a.deps.now a.starts.now a.row c.requires.0 c.requires.1.begins

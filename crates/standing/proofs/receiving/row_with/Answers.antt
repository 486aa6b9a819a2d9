-- `standing::receiving::row_with` meets its contract: the place that was found, or 0.
-- Assumes nothing.
use mathlib.Core.Path.{◌∙◌}
use native.Mathlib.Omega.{arith}
use Rattle.standing.proofs.Held.{place_missing, place_found, place_within}
use Rattle.standing.proofs.receiving.row_with.Goals as goal

pub returns-in_default : goal.returns-in_default
returns-in_default c =
    let a = c.args in
    place_missing a.ids.now _ _ a.rows _ c.find_id-found.ensures c.chunk_in.ensures c.in_default.is

pub narrow-requires : goal.narrow-requires
narrow-requires c =
    let a = c.args in
    let w = place_within a.ids.now _ _ a.rows _ c.find_id-found.ensures
    c.chunk_in.ensures _ c.in-Some.is in
    omega (arith, w, c.requires.0)

pub returns : goal.returns
returns c =
    let a = c.args in
    c.narrow.ensures ∙ place_found a.ids.now _ _ a.rows _ c.find_id-found.ensures
    c.chunk_in.ensures _ c.in-Some.is

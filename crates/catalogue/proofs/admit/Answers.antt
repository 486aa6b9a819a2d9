-- `catalogue::admit` meets its contract: the tests of the store decide which of the three cases of the promise holds.
-- Assumes nothing.
use mathlib.Core.Path.{refl, subst}
use Rattle.store.specs.Clauses.{table_in}
use Rattle.store.specs.Table.{Table}
use Rattle.catalogue.specs.Steady.{KeepsM7}
use Rattle.catalogue.specs.Profile.{damaged, unsteady, steady}
use Rattle.catalogue.proofs.Stored.{may_search, steps_kept, steps_broken}
use Rattle.catalogue.proofs.admit.Goals as goal

pub returns-then-not-well_kept-clause-judged : goal.returns-then-not-well_kept-clause-judged
returns-then-not-well_kept-clause-judged c =
    damaged (rw c.read-held.ensures at (c.well_kept.ensures.no c.if-not-well_kept.true)) refl refl refl

pub find_backstep-found-requires : goal.find_backstep-found-requires
find_backstep-found-requires c =
    may_search (table_in c.read-held.result) (c.well_kept.ensures.yes c.if-not-well_kept.false).store

pub returns-then-found-ne0-clause-judged : goal.returns-then-found-ne0-clause-judged
returns-then-found-ne0-clause-judged c =
    let held = c.read-held.result in
    unsteady (rw c.read-held.ensures at (c.well_kept.ensures.yes c.if-not-well_kept.false))
    (subst (λ (t : Table). KeepsM7 t → ⊥) c.read-held.ensures
    (steps_broken held.rows.now held.deps.now held.counts.rows _ _ c.find_backstep-found.ensures c.if-found-ne0.true)) refl refl refl

pub admit_under-requires : goal.admit_under-requires
admit_under-requires c =
    let held = c.read-held.result in (
      rw c.read-held.ensures at (c.well_kept.ensures.yes c.if-not-well_kept.false),
      subst KeepsM7 c.read-held.ensures
          (steps_kept held.rows.now held.deps.now held.counts.rows _ _ c.find_backstep-found.ensures c.if-found-ne0.false),
    )

pub returns-clause-judged : goal.returns-clause-judged
returns-clause-judged c =
    let held = c.read-held.result in
    steady (rw c.read-held.ensures at (c.well_kept.ensures.yes c.if-not-well_kept.false))
    (subst KeepsM7 c.read-held.ensures
    (steps_kept held.rows.now held.deps.now held.counts.rows _ _ c.find_backstep-found.ensures c.if-found-ne0.false))
    c.admit_under.ensures.judged

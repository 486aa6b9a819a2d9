-- `origins::entering::unplaced_item` meets its contract.
-- Assumes nothing.
use mathlib.Core.Path.{sym, ◌∙◌}
use native.Mathlib.Omega.{arith}
use Rattle.store.specs.Clauses.{table_in}
use Rattle.admission.proofs.Writing.{held_within}
use Rattle.origins.proofs.Placing.{unplaced_fits, unplaced_held, unplaced_broken}
use Rattle.origins.proofs.entering.unplaced_item.Goals as goal

pub narrow-requires : goal.narrow-requires
narrow-requires c =
    let a = c.args in
    omega (
      arith,
      held_within (table_in a.store.now) a.item.now a.f
          c.requires.1 c.requires.0 c.in-Holds.r (sym c.judge-verdict.ensures ∙ c.in-Holds.is),
      c.requires.1.rows_limit,
    )

pub returns-in-Fits : goal.returns-in-Fits
returns-in-Fits c = unplaced_fits _ _ c.in-Fits.field-0 c.judge-verdict.ensures c.in-Fits.is

pub returns-in-Holds : goal.returns-in-Holds
returns-in-Holds c = unplaced_held _ _ c.in-Holds.r _ c.judge-verdict.ensures c.in-Holds.is
    c.narrow.ensures

pub returns-in-Breaks : goal.returns-in-Breaks
returns-in-Breaks c = unplaced_broken _ _ c.in-Breaks.r c.judge-verdict.ensures c.in-Breaks.is

-- `origins::admit_at` meets its contract.
-- Assumes nothing.
use Rattle.store.specs.Clauses.{table_held}
use Rattle.origins.proofs.Placing.{from_part}
use Rattle.origins.proofs.admit_at.Goals as goal

pub returns-clause-judged : goal.returns-clause-judged
returns-clause-judged c =
    let a = c.args in
    from_part (table_held a.store.now) a.origins.now a.origin _ _ _
    a.intake.now a.start a.end _ _ c.min-to.ensures c.min-from.ensures c.admit.ensures.judged

-- `inspection::row_depends` meets its contract: each answer by the tests that led there.
-- Assumes nothing.
use mathlib.Core.Path.{sym, ◌∙◌}
use Rattle.inspection.proofs.Turns.{depends_fails, depends_rest}
use Rattle.inspection.proofs.dep_rules.row_depends.Goals as goal

pub returns-then-all_reach : goal.returns-then-all_reach
returns-then-all_reach c =
    let a = c.args in
    c.one_per_author.ensures ∙ sym (depends_rest a.rows.now a.r a.ds.now (sym c.all_reach.ensures ∙ c.if-all_reach.true))

pub returns-else-all_reach : goal.returns-else-all_reach
returns-else-all_reach c =
    let a = c.args in
    c.if-all_reach.false ∙ sym (depends_fails a.rows.now a.r a.ds.now (sym c.all_reach.ensures ∙ c.if-all_reach.false))

-- `logs::evidence::sorted` meets its contract: the comparison of the ids says which row comes first.
-- Assumes nothing.
use mathlib.Core.Path.{sym, ◌∙◌}
use Rattle.logs.proofs.evidence.sorted.Goals as goal

pub returns-then-lower : goal.returns-then-lower
returns-then-lower c = λ l. rw (sym c.lower.ensures ∙ c.if-lower.true)

pub returns-else-lower : goal.returns-else-lower
returns-else-lower c = λ l. rw (sym c.lower.ensures ∙ c.if-lower.false)

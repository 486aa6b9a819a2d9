-- `logs::evidence::with_child` meets its contract: each comparison is a test of the definition.
-- Assumes nothing.
use mathlib.Core.Path.{sym, ◌∙◌}
use Rattle.logs.proofs.evidence.with_child.Goals as goal

pub returns-then-lower : goal.returns-then-lower
returns-then-lower c = λ l. rw (sym c.lower.ensures ∙ c.if-lower.true)

pub returns-then-lower-3 : goal.returns-then-lower-3
returns-then-lower-3 c =
    λ l.
    rw (
      sym c.lower.ensures ∙ c.if-lower.false,
      sym c.lower-2.ensures ∙ c.if-lower-2.true,
      sym c.lower-then-lower-2.ensures ∙ c.if-lower-3.true,
    )

pub returns-else-lower-3 : goal.returns-else-lower-3
returns-else-lower-3 c =
    λ l.
    rw (
      sym c.lower.ensures ∙ c.if-lower.false,
      sym c.lower-2.ensures ∙ c.if-lower-2.true,
      sym c.lower-then-lower-2.ensures ∙ c.if-lower-3.false,
    )

pub returns-else-lower-2 : goal.returns-else-lower-2
returns-else-lower-2 c =
    λ l. rw (sym c.lower.ensures ∙ c.if-lower.false, sym c.lower-2.ensures ∙ c.if-lower-2.false)

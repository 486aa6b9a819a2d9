-- `admission::answer_number` meets its contract: by the answer's cases.
-- Assumes nothing.
use mathlib.Core.Path.{sym, ap, ◌∙◌}
use Rattle.admission.specs.Answer.{answer_number}
use Rattle.admission.proofs.answer_number.Goals as goal

pub returns-in-Refused : goal.returns-in-Refused
returns-in-Refused c = c.number.ensures ∙ sym (ap answer_number c.in-Refused.is)

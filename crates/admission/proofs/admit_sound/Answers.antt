-- `admission::admit_sound` meets its contract: a sound layout is judged by its fields, a refused one leaves the parts.
-- Assumes nothing.
use mathlib.Core.Path.{sym, ◌∙◌}
use Rattle.store.specs.Clauses.{table_held}
use Rattle.admission.proofs.Writing.{layout_sound, layout_refused}
use Rattle.admission.proofs.admit_sound.Goals as goal

pub admit_item-requires : goal.admit_item-requires
admit_item-requires c =
    (sym c.layout_of-layout.ensures ∙ c.in-Ok.is, c.requires)

pub returns-in-Ok-clause-judged : goal.returns-in-Ok-clause-judged
returns-in-Ok-clause-judged c =
    let a = c.args in
    layout_sound (table_held a.store.now) a.item.now c.layout_of-layout.result
    c.layout_of-layout.ensures c.in-Ok.f _ c.admit_item.result c.in-Ok.is c.admit_item.ensures.judged

pub returns-in-Err-clause-judged : goal.returns-in-Err-clause-judged
returns-in-Err-clause-judged c =
    let a = c.args in
    layout_refused (table_held a.store.now) a.item.now c.layout_of-layout.result
    c.layout_of-layout.ensures c.in-Err.refusal c.in-Err.is

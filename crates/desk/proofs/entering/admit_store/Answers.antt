-- `desk::entering::admit_store` meets its contract: a sound layout is judged by its fields, a refused one leaves the parts.
-- Assumes nothing.
use mathlib.Core.Path.{sym, ◌∙◌}
use Rattle.store.specs.Clauses.{table_held}
use Rattle.desk.proofs.Steps.{store_sound, store_refused}
use Rattle.desk.proofs.entering.admit_store.Goals as goal

pub admit_fields-requires : goal.admit_fields-requires
admit_fields-requires c =
    (sym c.layout_of-layout.ensures ∙ c.in-Ok.is, c.requires)

pub returns-in-Ok-clause-judged : goal.returns-in-Ok-clause-judged
returns-in-Ok-clause-judged c =
    let a = c.args in
    store_sound (table_held a.store.now) a.places a.item.now
    c.layout_of-layout.result c.layout_of-layout.ensures c.in-Ok.f _ c.admit_fields.result c.in-Ok.is c.admit_fields.ensures.judged

pub returns-in-Err-clause-judged : goal.returns-in-Err-clause-judged
returns-in-Err-clause-judged c =
    let a = c.args in
    store_refused (table_held a.store.now) a.places a.item.now
    c.layout_of-layout.result c.layout_of-layout.ensures c.in-Err.refusal c.in-Err.is

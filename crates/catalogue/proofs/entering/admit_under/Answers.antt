-- `catalogue::entering::admit_under` meets its contract: a sound layout is judged by its fields, a refused one leaves the parts.
-- Assumes nothing.
use mathlib.Core.Path.{sym, ◌∙◌}
use Rattle.store.specs.Clauses.{table_held}
use Rattle.catalogue.proofs.Judged.{unlaid}
use Rattle.catalogue.proofs.entering.admit_under.Goals as goal

pub admit_item-requires : goal.admit_item-requires
admit_item-requires c =
    let a = c.args in
    record {
      store = c.requires.0.store;
      keeps = c.requires.1;
      laid = sym
          c.layout_of-layout.ensures ∙ c.in-Ok.is;
    }

pub returns-in-Err-clause-judged : goal.returns-in-Err-clause-judged
returns-in-Err-clause-judged c =
    let a = c.args in
    let t = table_held a.store.now in
    unlaid t a.origins.now a.origin a.item.now _ c.in-Err.refusal c.layout_of-layout.ensures c.in-Err.is

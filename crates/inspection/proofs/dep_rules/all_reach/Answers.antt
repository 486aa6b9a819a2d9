-- `inspection::all_reach` meets its contract: all pass the closure's test where each is an earlier row of another author.
-- Assumes nothing.
use Rattle.std.proofs.Common.{rules, tests, ◌∙◌, sym}
use Rattle.std.proofs.lemmas.Iterator.{YieldsList-from_slice}
use Rattle.std.proofs.lemmas.Iterator.Search.{all_from_yields_List}
use Rattle.store.specs.Table.{reaches}
use Rattle.inspection.proofs.Turns.{every_all}
use Rattle.inspection.proofs.dep_rules.all_reach.Goals as goal

pub returns : goal.returns
returns c =
    let test = reaches c.args.rows.now c.args.r in
    all_from_yields_List test _ _ _ c.all.ensures.ran (YieldsList-from_slice c.args.ds.now cc) (λ x b q k. search (rules, tests))
    ∙ sym (every_all test c.args.ds.now)

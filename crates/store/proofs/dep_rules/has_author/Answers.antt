-- `store::dep_rules::has_author` meets its contract: some row passes the closure's test where one is of the author.
-- Assumes nothing.
use Rattle.std.proofs.Common.{rules, tests, ◌∙◌, sym}
use lib.Dec.{eqb}
use Rattle.std.proofs.lemmas.Iterator.{YieldsList-from_slice}
use Rattle.std.proofs.lemmas.Iterator.Search.{any_from_yields_List}
use Rattle.store.proofs.Depends.{author_in}
use Rattle.store.proofs.Turns.{has_any}
use Rattle.store.proofs.dep_rules.has_author.Goals as goal

pub returns : goal.returns
returns c =
    let rows = c.args.rows.now in
    let a = c.args.a in
    any_from_yields_List (λ d. eqb (author_in rows d) a) _ _ _ c.any.ensures.ran (YieldsList-from_slice c.args.ds.now cc) (λ x b q k. search (rules, tests))
    ∙ sym (has_any rows a c.args.ds.now)

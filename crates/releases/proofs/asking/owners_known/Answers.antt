-- `releases::asking::owners_known` meets its contract.
-- Assumes nothing.
use Rattle.std.proofs.Common.{◌<◌, ◌≤◌, take, rules, tests}
use Rattle.std.proofs.lemmas.Iterator.{cases_from_all, YieldsList-from_slice}
use Rattle.releases.specs.Current.{component_limit}
use Rattle.releases.proofs.Walking.{most_decides}
use Rattle.releases.proofs.asking.owners_known.Goals as goal

pub returns : goal.returns
returns c =
    let a = c.args in
    most_decides a.owners.now a.authors component_limit c.all.result c.requires
    (cases_from_all _ _ _ (λ x. x ≤ a.authors) (λ x. a.authors < x) c.all.ensures.ran (YieldsList-from_slice (take component_limit a.owners.now) c.iter.ensures.rest)
    (λ x q k. search (rules, tests)) (λ x q k. search (rules, tests)))

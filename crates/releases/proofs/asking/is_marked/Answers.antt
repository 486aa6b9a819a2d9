-- `releases::asking::is_marked` meets its contract.
-- Assumes nothing.
use Rattle.std.proofs.Common.{◌<◌, ◌≤◌, take, rules, tests}
use Rattle.std.proofs.lemmas.Iterator.{cases_from_all, YieldsList-from_slice}
use Rattle.releases.proofs.Walking.{most_decides}
use Rattle.releases.proofs.asking.is_marked.Goals as goal

pub returns : goal.returns
returns c =
    let a = c.args in
    most_decides a.expanded.now 1 a.n c.all.result c.requires
    (cases_from_all _ _ _ (λ x. x ≤ 1) (λ x. 1 < x) c.all.ensures.ran (YieldsList-from_slice (take a.n a.expanded.now) c.iter.ensures.rest)
    (λ x q k. search (rules, tests)) (λ x q k. search (rules, tests)))

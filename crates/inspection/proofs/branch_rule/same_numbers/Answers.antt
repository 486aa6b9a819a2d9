-- `inspection::same_numbers` meets its contract: by what the closure says at each place.
-- Assumes nothing.
use Rattle.std.proofs.Common.{rules, tests, refl, arith}
use Prim.Native.Nat.{◌+◌}
use mathlib.Core.Path.{◌≡◌}
use mathlib.Core.Logic.{◌≢◌}
use lib.ListN.{get_or}
use Rattle.std.proofs.lemmas.Iterator.{cases_from_all, YieldsList-from_range}
use Rattle.inspection.proofs.Turns.{all_below}
use Rattle.inspection.proofs.branch_rule.same_numbers.Goals as goal

pub returns : goal.returns
returns c =
    let a = c.args in
    let s = a.branches.now in
    let u = a.counts.now in
    all_below a.n (λ k. get_or s (a.at + k) 0 ≡ get_or u (a.at + k) 0) (λ k. get_or s (a.at + k) 0 ≢ get_or u (a.at + k) 0) (λ k p q. q p)
    c.all.result
    (cases_from_all _ _ c.all.result (λ k. get_or s (a.at + k) 0 ≡ get_or u (a.at + k) 0) (λ k. get_or s (a.at + k) 0 ≢ get_or u (a.at + k) 0)
    c.all.ensures.ran (YieldsList-from_range 0 a.n a.n refl (omega arith)) (λ x q k. search (rules, tests)) (λ x q k. search (rules, tests)))

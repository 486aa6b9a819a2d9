-- `inspection::rows_chained` meets its contract: by what the closure says of each row.
-- Assumes nothing.
use Rattle.std.proofs.Common.{rules, tests, refl, arith}
use Prim.Native.Nat.{◌+◌}
use mathlib.Core.Path.{◌≡◌}
use mathlib.Core.Bool.{true, false}
use Rattle.std.proofs.lemmas.Iterator.{cases_from_all, YieldsList-from_range}
use Rattle.basics.proofs.Tests.{not_both_ways}
use Rattle.store.specs.Table.{chained}
use Rattle.inspection.proofs.Turns.{all_below, rows_below}
use Rattle.inspection.proofs.row_rules.rows_chained.Goals as goal

pub returns : goal.returns
returns c =
    let a = c.args in
    let rows = a.rows.now in
    rows_below (λ r. chained rows r ≡ true) a.n c.all.result
    (all_below a.n (λ k. chained rows (k + 1) ≡ true) (λ k. chained rows (k + 1) ≡ false) (λ k p q. not_both_ways (chained rows (k + 1)) p q)
    c.all.result
    (cases_from_all _ _ c.all.result (λ k. chained rows (k + 1) ≡ true) (λ k. chained rows (k + 1) ≡ false)
    c.all.ensures.ran (YieldsList-from_range 0 a.n a.n refl (omega arith)) (λ x q k. search (rules, tests)) (λ x q k. search (rules, tests))))

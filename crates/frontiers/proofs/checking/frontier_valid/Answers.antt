-- `frontiers::checking::frontier_valid` meets its contract: every entry has passed.
-- Assumes nothing.
use Prim.Native.Nat.{◌/◌}
use mathlib.Core.Path.{refl}
use native.Mathlib.Omega.{arith}
use lib.ListN.{length}
use Rattle.std.proofs.Common.{rules}
use Rattle.std.proofs.lemmas.Iterator.{cases_from_all, YieldsList-from_range}
use Rattle.basics.proofs.Decisions.{decides_same}
use Rattle.logs.specs.Held.{chain}
use Rattle.frontiers.specs.Numbers.{entry_width, EntryValid}
use Rattle.frontiers.proofs.Ranges.{decides_each}
use Rattle.frontiers.proofs.checking.frontier_valid.Goals as goal

pub returns-then-f-eq0 : goal.returns-then-f-eq0
returns-then-f-eq0 c =
    let a = c.args in
    let n = length a.f.now / entry_width in
    let valid = EntryValid (chain a.store.now.ids.now a.store.now.rows.now a.store.now.counts.rows) a.store.now.counts.authors a.f.now in
    decides_same (λ h. record { whole = c.if-f-eq0.true; entries = h }) (λ v. v.entries)
    (decides_each valid n _
    (cases_from_all _ _ _ valid (λ i. valid i → ⊥) c.all.ensures.ran (YieldsList-from_range 0 _ n refl (omega arith))
    (λ x q k. search rules) (λ x q k. search rules)))

-- `standing::receiving::all_held` meets its contract: `all` asks of each entry what is asked of one.
-- Assumes nothing.
use Rattle.std.proofs.Common.{rules, refl}
use Rattle.kind3.proofs.Ranges.{all_below}
use Rattle.standing.specs.Finding.{EntryHeld}
use Rattle.standing.proofs.receiving.all_held.Goals as goal

pub returns : goal.returns
returns c =
    let a = c.args in
    all_below (EntryHeld a.store.now.keys.now a.store.now.ids.now a.store.now.counts a.item.now) a.n _ _ _ c.all.ensures.ran refl (λ x q k. search rules) (λ x q k. search rules)

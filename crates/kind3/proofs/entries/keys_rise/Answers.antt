-- `kind3::entries::keys_rise` meets its contract: `all` asks of each entry what is asked of one.
-- Assumes nothing.
use Rattle.std.proofs.Common.{rules, refl}
use Rattle.kind3.specs.Entries.{RisesAt}
use Rattle.kind3.proofs.Ranges.{all_below}
use Rattle.kind3.proofs.entries.keys_rise.Goals as goal

pub returns : goal.returns
returns c = let a = c.args in all_below (RisesAt a.item.now) a.n _ _ _ c.all.ensures.ran refl (λ x q k. search rules) (λ x q k. search rules)

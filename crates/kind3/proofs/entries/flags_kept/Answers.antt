-- `kind3::entries::flags_kept` meets its contract: `all` asks of each entry what is asked of one.
-- Assumes nothing.
use Rattle.std.proofs.Common.{rules, refl}
use Rattle.kind3.specs.Entries.{FlagsAt}
use Rattle.kind3.proofs.Ranges.{all_below}
use Rattle.kind3.proofs.entries.flags_kept.Goals as goal

pub returns : goal.returns
returns c = let a = c.args in all_below (FlagsAt a.item.now) a.n _ _ _ c.all.ensures.ran refl (λ x q k. search rules) (λ x q k. search rules)

-- `item::id_of` meets its contract: what is hashed is all that follows the mark.
-- Assumes nothing.
use mathlib.Core.Path.{ap, ◌∙◌}
use Rattle.sha256.specs.Sha256.{sha256_of}
use Rattle.item.proofs.id_of.Goals as goal

pub returns : goal.returns
returns c = c.digest.ensures ∙ ap sha256_of c.hashed_of.ensures

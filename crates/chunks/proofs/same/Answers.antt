-- `chunks::same` meets its contract: the library's equality of slices.
-- Assumes nothing.
use mathlib.Core.Path.{◌∙◌}
use Rattle.chunks.proofs.Rest.{equal_same}
use Rattle.chunks.proofs.same.Goals as goal

pub returns : goal.returns
returns c = c.eq.ensures ∙ equal_same c.args.a.now c.args.b.now

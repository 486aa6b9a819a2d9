-- `chunks::is_zero` meets its contract: the library's walk over a slice.
-- Assumes nothing.
use Rattle.std.proofs.Common.{rules, tests}
use Rattle.std.proofs.lemmas.Iterator.{YieldsList-from_slice}
use Rattle.std.proofs.lemmas.Iterator.Search.{all_from_yields_List}
use mathlib.Core.Path.{◌∙◌}
use lib.Dec.{eqb}
use Rattle.chunks.proofs.Rest.{all_zeros}
use Rattle.chunks.proofs.is_zero.Goals as goal

pub returns : goal.returns
returns c =
    all_from_yields_List (λ x. eqb x 0) _ _ _ c.all.ensures.ran (YieldsList-from_slice c.args.a.now cc) (λ x b q k. search (rules, tests))
    ∙ all_zeros c.args.a.now

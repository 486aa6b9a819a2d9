-- `packing::output::count_marked` meets its contract: what is counted is as many as the list of the marked rows is long.
-- Assumes nothing.
use mathlib.Core.Path.{◌≡◌, ◌∙◌}
use lib.Dec.{eqb}
use lib.ListN.{take, drop}
use Rattle.std.specs.List.{count_by}
use Rattle.std.proofs.Common.{rules}
use Rattle.packing.proofs.Listing.{marks_counted}
use Rattle.packing.proofs.output.count_marked.Goals as goal

pub returns : goal.returns
returns c =
    let a = c.args in
    let counted : c.count.result ≡ count_by (λ x. eqb x 1) (take a.count (drop 1 a.marks.now)) = search rules in
    counted ∙ marks_counted a.marks.now a.count c.requires

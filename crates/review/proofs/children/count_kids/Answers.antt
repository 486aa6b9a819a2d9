-- `review::children::count_kids` meets its contract: what is counted is the table's part for these rows.
-- Assumes nothing.
use mathlib.Core.Path.{◌≡◌, ◌∙◌}
use mathlib.Core.Bool.{not}
use lib.Dec.{eqb}
use lib.ListN.{take, drop}
use Rattle.std.specs.List.{count_by}
use Rattle.std.proofs.Common.{rules}
use Rattle.review.proofs.Kids.{kids_counted}
use Rattle.review.proofs.children.count_kids.Goals as goal

pub returns : goal.returns
returns c =
    let a = c.args in
    let r = c.iter.ensures.rest in
    let counted : c.count.result ≡ count_by (λ x. not (eqb x 0)) (take a.count (drop 1 a.kids.now)) = search rules in
    counted ∙ kids_counted a.kids.now a.count c.requires

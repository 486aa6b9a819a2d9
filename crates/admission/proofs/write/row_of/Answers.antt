-- `admission::write::row_of` meets its contract: the number that the lookup found, or 0.
-- Assumes nothing.
use Rattle.std.proofs.Common.{rules}
use Rattle.judging.proofs.Found.{found_within}
use Rattle.admission.proofs.write.row_of.Goals as goal

pub narrow-requires : goal.narrow-requires
narrow-requires c =
    let a = c.args in
    let h = found_within a.ids.now a.id.now a.n c.find_id.result c.unwrap_or.result c.find_id.ensures c.unwrap_or.ensures in
    search rules

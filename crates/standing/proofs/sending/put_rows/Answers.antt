-- `standing::sending::put_rows` meets its contract: two bytes and three ids, one behind the other.
-- Assumes nothing.
use Rattle.standing.proofs.Puts.{rows_laid}
use Rattle.standing.proofs.sending.put_rows.Goals as goal

pub returns : goal.returns
returns c =
    let a = c.args in
    let p = c.requires in
    rows_laid a.ids.now a.out.now a.at a.phase a.last a.low a.high _ _ _ _ p.0 p.1.0 p.1.1.0
    c.put_flags.ensures
    c.put_id.ensures
    c.put_id-2.ensures c.put_id-3.ensures

-- `standing::sending::put_standing` meets its contract: length, kind, count and the entries, one behind the other.
-- Assumes nothing.
use Rattle.standing.proofs.Items.{standing_laid}
use Rattle.standing.proofs.sending.put_standing.Goals as goal

pub returns : goal.returns
returns c =
    let a = c.args in
    standing_laid a.keys.now a.ids.now a.f.now c.requires.0 a.out.now _ _ _ _ c.requires.1
    c.put32.ensures
    c.put16.ensures
    c.put16-2.ensures c.put_entries.ensures

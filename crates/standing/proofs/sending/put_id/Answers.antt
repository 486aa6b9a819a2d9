-- `standing::sending::put_id` meets its contract: zero bytes, or the piece of the row.
-- Assumes nothing.
use mathlib.Core.Path.{sym, ap, ◌∙◌}
use Rattle.writing.specs.Laying.{laid_at}
use Rattle.standing.proofs.Puts.{id_none, piece_fits, piece_laid}
use Rattle.standing.proofs.sending.put_id.Goals as goal

pub returns-then-row-eq0 : goal.returns-then-row-eq0
returns-then-row-eq0 c =
    let a = c.args in
    c.copy_at.ensures ∙ ap (laid_at a.out.now a.at)
    (sym (id_none a.ids.now a.row c.if-row-eq0.true))

pub copy_at-requires-2 : goal.copy_at-requires-2
copy_at-requires-2 c =
    let a = c.args in
    piece_fits a.ids.now a.out.now _ a.at a.row _ c.requires.0
    c.requires.1 c.if-row-eq0.false c.wide.ensures c.piece_at.ensures

pub returns : goal.returns
returns c =
    let a = c.args in
    piece_laid a.ids.now a.out.now _ _ a.at a.row _ c.if-row-eq0.false
    c.wide.ensures c.piece_at.ensures c.copy_at-2.ensures

-- `standing::sending::put_entry` meets its contract: the key, and behind it the rest by the phase.
-- Assumes nothing.
use native.Mathlib.Omega.{arith}
use Rattle.standing.proofs.Puts.{piece_fits, growing_laid, forked_laid}
use Rattle.standing.proofs.sending.put_entry.Goals as goal

pub copy_at-requires : goal.copy_at-requires
copy_at-requires c =
    piece_fits c.args.keys.now c.args.out.now _ c.args.at c.args.k.author _ (omega (arith, c.requires.0)) c.requires.1.key
    (λ z. let h = c.requires.1.author in omega arith) c.wide.ensures c.piece_at.ensures

pub put_rows-requires : goal.put_rows-requires
put_rows-requires c =
    let r = rw c.in-Growing.is at c.requires.1.rows in
    (omega (arith, c.requires.0), (r, (omega arith, omega arith)))

pub put_rows-requires-in-Forked : goal.put_rows-requires-in-Forked
put_rows-requires-in-Forked c =
    let r = rw c.in-Forked.is at c.requires.1.rows in
    (omega (arith, c.requires.0), (r.0, (r.1.0.1, r.1.1.1)))

pub returns-in-Growing : goal.returns-in-Growing
returns-in-Growing c =
    let a = c.args in
    rw c.in-Growing.is
    (growing_laid a.keys.now a.ids.now a.out.now _ _ _ a.at a.k.author _ c.requires.0
    c.wide.ensures
    c.piece_at.ensures
    c.copy_at.ensures a.k.last
    (rw c.in-Growing.is at c.requires.1) c.put_rows.ensures)

pub returns-in-Forked : goal.returns-in-Forked
returns-in-Forked c =
    let a = c.args in
    rw c.in-Forked.is
    (forked_laid a.keys.now a.ids.now a.out.now _ _ _ a.at a.k.author _ c.requires.0
    c.wide.ensures
    c.piece_at.ensures
    c.copy_at.ensures a.k.last _ _
    (rw c.in-Forked.is at c.requires.1) c.put_rows-in-Forked.ensures)

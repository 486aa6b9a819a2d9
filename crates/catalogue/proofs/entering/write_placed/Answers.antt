-- `catalogue::entering::write_placed` meets its contract: a row that is given is written where its origin has a place.
-- Assumes nothing.
use native.Mathlib.Omega.{arith}
use mathlib.Core.Path.{refl}
use Rattle.store.specs.Clauses.{table_held}
use Rattle.admission.proofs.Writing.{writable, row_free}
use Rattle.catalogue.proofs.Judged.{placeless, placed}
use Rattle.catalogue.proofs.entering.write_placed.Goals as goal

pub returns-then-origins-n-clause-judged : goal.returns-then-origins-n-clause-judged
returns-then-origins-n-clause-judged c =
    let a = c.args in
    let t = table_held a.store.now in
    placeless t a.origins.now a.origin a.item.now a.f c.requires.laid a.row c.requires.given c.if-origins-n.true

pub narrow-next-requires : goal.narrow-next-requires
narrow-next-requires c =
    let a = c.args in
    let t = table_held a.store.now in
    let h = row_free t a.item.now a.f c.requires.store c.requires.laid a.row c.requires.given in
    omega (arith, h)

pub write_row-requires : goal.write_row-requires
write_row-requires c =
    let a = c.args in
    let t = table_held a.store.now in
    writable t a.item.now a.f c.requires.store c.requires.laid a.row a.id.now c.requires.id_is c.requires.given

pub returns-clause-judged : goal.returns-clause-judged
returns-clause-judged c =
    let a = c.args in
    let t = table_held a.store.now in
    placed t a.origins.now a.origin a.item.now a.f c.requires.laid a.row _ _ _ c.requires.given
    c.if-origins-n.false
    c.write_row.ensures.judged
    c.narrow-next.ensures refl

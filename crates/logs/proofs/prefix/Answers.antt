-- `logs::prefix` meets its contract: each refusal where its test failed, and the climb where all held.
-- Assumes nothing.
use mathlib.Core.Path.{refl}
use Rattle.store.specs.Clauses.{table_in}
use Rattle.logs.specs.Refusals.{PrefixRefused}
use Rattle.logs.proofs.Dones.{places_linked, prefix_done}
use Rattle.logs.proofs.prefix.Goals as goal

pub returns-then-not-well_formed : goal.returns-then-not-well_formed
returns-then-not-well_formed c = PrefixRefused.not_well_formed refl (c.well_formed-2.ensures.no c.if-not-well_formed.true)

pub returns-then-not-in_one_log : goal.returns-then-not-in_one_log
returns-then-not-in_one_log c =
    PrefixRefused.not_one_log refl (c.well_formed-2.ensures.yes c.if-not-well_formed.false)
    ((c.in_one_log.ensures c.args.store.now.ids.now).no c.if-not-in_one_log.true)

pub climb-requires : goal.climb-requires
climb-requires c =
    let a = c.args in
    let t = table_in a.store.now in
    places_linked t (c.well_formed-2.ensures.yes c.if-not-well_formed.false) c.args.store.now.bytes
    a.a
    a.b
    ((c.in_one_log.ensures a.store.now.ids.now).yes c.if-not-in_one_log.false)

pub returns : goal.returns
returns c =
    let a = c.args in
    let t = table_in a.store.now in
    prefix_done t (c.well_formed-2.ensures.yes c.if-not-well_formed.false) c.args.store.now.bytes
    a.a
    a.b
    c.climb.result
    ((c.in_one_log.ensures a.store.now.ids.now).yes c.if-not-in_one_log.false)
    c.climb.ensures

-- `catalogue::entering::steps_on` meets its contract: the rows that the message names are asked for.
-- Assumes nothing.
use native.Mathlib.Omega.{arith}
use mathlib.Core.Path.{sym}
use lib.Seq.{length-take-le}
use Rattle.item.proofs.Laid.{sound_item}
use Rattle.store.specs.Clauses.{table_in}
use Rattle.judging.proofs.Named.{names_sized}
use Rattle.catalogue.proofs.Messages.{none_missing, may_ask, asked}
use Rattle.catalogue.proofs.entering.steps_on.Goals as goal

pub named_rows-requires : goal.named_rows-requires
named_rows-requires c =
    let a = c.args in
    ((sound_item a.item.now a.f c.requires.0.laid).count_limit_lem, c.requires.0.store.rows_limit)

pub returns-in_default : goal.returns-in_default
returns-in_default c =
    let a = c.args in
    absurd
    (none_missing (table_in a.store.now) a.item.now a.f c.requires.0 a.row c.requires.1 c.named_rows.result c.named_rows.ensures _ c.in_default.is)

pub slice_bounds-named-end : goal.slice_bounds-named-end
slice_bounds-named-end c =
    let a = c.args in
    let k = (sound_item a.item.now a.f c.requires.0.laid).count_limit_lem in
    let z = names_sized a.store.now.ids.now a.store.now.counts.rows a.item.now a.f c.named_rows.result c.named_rows.ensures c.in-Ok.named c.in-Ok.is in
    omega arith

pub slice_bounds-keeps_from-end : goal.slice_bounds-keeps_from-end
slice_bounds-keeps_from-end c =
    let a = c.args in
    let k = (sound_item a.item.now a.f c.requires.0.laid).count_limit_lem in
    let z = names_sized a.store.now.ids.now a.store.now.counts.rows a.item.now a.f c.named_rows.result c.named_rows.ensures c.in-Ok.named c.in-Ok.is in
    sym (length-take-le a.f.count c.in-Ok.named (omega (arith, z, k)))

pub keeps_from-requires : goal.keeps_from-requires
keeps_from-requires c =
    let a = c.args in
    may_ask (table_in a.store.now) a.item.now a.f c.requires.0 a.row c.requires.1 c.named_rows.result c.named_rows.ensures c.in-Ok.named
    c.in-Ok.is

pub returns : goal.returns
returns c =
    let a = c.args in
    asked (table_in a.store.now) a.item.now a.f c.requires.0 a.row c.requires.1 c.named_rows.result c.named_rows.ensures c.in-Ok.named
    c.in-Ok.is _ c.keeps_from.ensures

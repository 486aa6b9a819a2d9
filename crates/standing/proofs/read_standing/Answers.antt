-- `standing::read_standing` meets its contract: each answer is given where the tests before it were passed.
-- Assumes nothing.
use mathlib.Core.Path.{refl, sym, ap, subst, ◌∙◌}
use Rattle.std.specs.Prelude.{Err}
use Rattle.std.proofs.lemmas.Result.{err_from_is_err_and}
use Rattle.basics.specs.Bytes.{Bytes}
use Rattle.store.specs.Clauses.{table_in}
use Rattle.standing.specs.Calls.{Legible, NotRead, ReadsStanding}
use Rattle.standing.proofs.Decoded.{all_known, known_all}
use Rattle.standing.proofs.Answers.{item_is, item_has, may_read, takes_reads}
use Rattle.standing.proofs.read_standing.Goals as goal

pub returns-then-not-well_formed : goal.returns-then-not-well_formed
returns-then-not-well_formed c =
    (NotRead.not_well_formed refl (c.well_formed-2.ensures.no c.if-not-well_formed.true), refl)

pub returns-in_err-n : goal.returns-in_err-n
returns-in_err-n c =
    let a = c.args in
    let well = c.well_formed-2.ensures.yes c.if-not-well_formed.false in
    let p = err_from_is_err_and c.from_residual.result c.from_residual.ensures.1 in
    subst (ReadsStanding (table_in a.store.now) a.item.now a.out.now a.out.now) (sym (p.1 ∙ ap Err p.2))
    (NotRead.not_laid _ refl well (sym c.layout_of.ensures ∙ c.in_err-n.was), refl)

pub flags_kept-requires : goal.flags_kept-requires
flags_kept-requires c =
    let a = c.args in
    let t = table_in a.store.now in
    let n = c.in_ok-n.n in
    let sound = sym c.layout_of.ensures ∙ c.in_ok-n.was in
    item_has t a.item.now n sound

pub returns-then-not-flags_kept : goal.returns-then-not-flags_kept
returns-then-not-flags_kept c =
    let a = c.args in
    let t = table_in a.store.now in
    let n = c.in_ok-n.n in
    let sound = sym c.layout_of.ensures ∙ c.in_ok-n.was in
    let well = c.well_formed-2.ensures.yes c.if-not-well_formed.false in
    (NotRead.not_flags n refl well (item_is t a.item.now n sound) (c.flags_kept.ensures.no c.if-not-flags_kept.true), refl)

pub all_held-requires : goal.all_held-requires
all_held-requires c =
    let a = c.args in
    let t = table_in a.store.now in
    let n = c.in_ok-n.n in
    let sound = sym c.layout_of.ensures ∙ c.in_ok-n.was in
    let well = c.well_formed-2.ensures.yes c.if-not-well_formed.false in
    (well.rows_limit, item_has t a.item.now n sound)

pub returns-then-not-all_held : goal.returns-then-not-all_held
returns-then-not-all_held c =
    let a = c.args in
    let t = table_in a.store.now in
    let n = c.in_ok-n.n in
    let sound = sym c.layout_of.ensures ∙ c.in_ok-n.was in
    let well = c.well_formed-2.ensures.yes c.if-not-well_formed.false in
    let legible : Legible t a.item.now n =
    record {
      well_formed = well;
      item = item_is t a.item.now n sound;
      flags = c.flags_kept.ensures.yes c.if-not-flags_kept.false;
    } in
    (NotRead.not_known n refl legible (λ k. c.all_held.ensures.no c.if-not-all_held.true (known_all t a.item.now n k)), refl)

pub take_entries-requires : goal.take_entries-requires
take_entries-requires c =
    let a = c.args in
    let t = table_in a.store.now in
    let n = c.in_ok-n.n in
    let sound = sym c.layout_of.ensures ∙ c.in_ok-n.was in
    let well = c.well_formed-2.ensures.yes c.if-not-well_formed.false in
    let bytes : Bytes a.store.now.ids.now = c.args.store.now.bytes in
    may_read t a.item.now n well bytes sound

pub returns : goal.returns
returns c =
    let a = c.args in
    let t = table_in a.store.now in
    let n = c.in_ok-n.n in
    let sound = sym c.layout_of.ensures ∙ c.in_ok-n.was in
    let well = c.well_formed-2.ensures.yes c.if-not-well_formed.false in
    let legible : Legible t a.item.now n =
    record {
      well_formed = well;
      item = item_is t a.item.now n sound;
      flags = c.flags_kept.ensures.yes c.if-not-flags_kept.false;
    } in
    let held = c.all_held.ensures.yes c.if-not-all_held.false in
    takes_reads t a.item.now n legible (all_known t a.item.now n held) (item_has t a.item.now n sound)
    a.out.now c.take_entries.new.out c.take_entries.result c.take_entries.ensures

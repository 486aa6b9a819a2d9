-- `releases::current_release` meets its contract: the tests decide the refusals, the table the owner, its entry what is shown.
-- Assumes nothing.
use mathlib.Core.Path.{◌∙◌}
use Rattle.store.specs.Clauses.{table_in}
use Rattle.releases.proofs.Answering.{owner_read, entry_found, may_show, shown_answer}
use Rattle.releases.proofs.current_release.Goals as goal

pub show_entry-requires : goal.show_entry-requires
show_entry-requires c =
    let a = c.args in
    let o = owner_read a.owners.now _ a.component c.wide.ensures in
    may_show (table_in a.store.now) a.store.now.bytes a.f.now a.components.now a.expanded.now a.owners.now a.component
    c.in_ok-check_asked.ensures c.in-Some.state (entry_found a.f.now _ _ _ c.in-Some.state o c.in-Some.is c.find_entry.ensures)

pub returns : goal.returns
returns c =
    let a = c.args in
    let o = owner_read a.owners.now _ a.component c.wide.ensures in
    shown_answer (table_in a.store.now) a.store.now.bytes a.f.now a.components.now a.expanded.now a.owners.now a.component
    c.in_ok-check_asked.ensures c.in-Some.state (entry_found a.f.now _ _ _ c.in-Some.state o c.in-Some.is c.find_entry.ensures)
    (λ z. c.if-owner-eq0.false (o ∙ z)) c.show_entry.result c.show_entry.ensures

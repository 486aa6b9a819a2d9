-- `admission::write::write_row` meets its contract: the parts that the calls leave are those of the store with the row.
-- Assumes nothing.
use Rattle.store.specs.Clauses.{table_held}
use mathlib.Core.Path.{◌≡◌, ◌∙◌, subst}
use Rattle.std.specs.Prelude.{take}
use Rattle.judging.specs.Message.{dep_rows}
use Rattle.judging.proofs.Named.{named_length}
use Rattle.admission.proofs.Writing.{written}
use Rattle.admission.proofs.write.write_row.Goals as goal

pub put_key-requires : goal.put_key-requires
put_key-requires c =
    let w = c.requires in
    (w.author_next, (w.keys_place, rw c.key_of.ensures w.key_sized))

-- The copied rows are those that the dependencies name.
pub returns-clause-judged : goal.returns-clause-judged
returns-clause-judged c =
    let a = c.args in
    let r = c.dependency_rows in
    let n = subst (λ t. take a.f.count r.new.rows ≡ dep_rows t a.item.now a.f) c.read.ensures r.ensures.1 in
    written (table_held a.store.now) a.item.now a.f
    a.row a.id.now c.key_of.result.now _ _ _ _ _ c.counts_with-store.result c.key_of.ensures c.requires.id_is c.put_key.ensures
    c.put.ensures c.put_row.ensures
    (c.copy_at.ensures ∙ rw (n, named_length a.store.now.ids.now a.store.now.counts.rows a.item.now a.f a.f.count))
    c.count_row.ensures c.counts_with-store.ensures

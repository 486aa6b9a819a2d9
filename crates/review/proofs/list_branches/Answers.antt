-- `review::list_branches` meets its contract: the table of children is filled, and what is listed from it is every branch.
-- Assumes nothing.
use Rattle.review.proofs.Result.{may_compare, writes_of}
use Rattle.std.proofs.Common.{rules}
use Rattle.review.proofs.list_branches.Goals as goal

pub write_table-requires : goal.write_table-requires
write_table-requires c =
    (may_compare c.args.store.now.ids.now c.args.store.now.rows.now c.args.store.now.branches.now _ c.args.store.now.counts.rows c.requires (search rules), c.requires.limit)

pub returns : goal.returns
returns c =
    let a = c.args in
    let f = c.fill_children in
    let w = c.write_table in
    writes_of a.store.now.rows.now a.store.now.ids.now a.store.now.counts.rows a.author a.last _ f.ensures
    (may_compare a.store.now.ids.now a.store.now.rows.now a.store.now.branches.now _ a.store.now.counts.rows c.requires (search rules)) c.requires.limit a.out.now _ w.result w.ensures

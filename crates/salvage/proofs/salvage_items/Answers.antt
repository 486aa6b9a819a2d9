-- `salvage::salvage_items` meets its contract.
-- Assumes nothing.
use Rattle.salvage.specs.Working.{lent_by}
use Rattle.salvage.proofs.Ending.{may_start, may_answer_all, rescuing_from, all_rescued}
use Rattle.salvage.proofs.salvage_items.Goals as goal

pub keep_all-bytes-requires : goal.keep_all-bytes-requires
keep_all-bytes-requires c = (
  c.requires.0,
  may_start c.args.stick.now c.args.clean.now c.args.list.now _ c.args.n c.requires.0.0.all c.requires.1.0 c.requires.1.1
      c.free_all.ensures,
)

pub answer_all-requires : goal.answer_all-requires
answer_all-requires c =
    let k = c.keep_all-bytes.ensures.kept in (
      c.requires.0.0,
      may_answer_all _ _ _ _ _ _ _ _ k.0 k.1,
    )

pub returns-clause-kept : goal.returns-clause-kept
returns-clause-kept c =
    let a = c.args in
    let k = c.keep_all-bytes.ensures.kept in
    all_rescued a.stick.now a.n (lent_by a.store.now a.origins.now a.clean.now a.list.now) _ _ _ _ _ _ c.requires.0.0.all
    c.free_all.ensures (rescuing_from _ a.store.now _ _ _ _ _ _ _ c.requires.0.1 k.0) k.1
    c.answer_all.ensures.kept

-- `admission::write::dependency_rows` meets its contract: the rows of the dependencies passed stand at the front.
-- Assumes nothing.
use Rattle.std.proofs.Common.{rules}
use mathlib.Core.Path.{ap, ◌∙◌}
use lib.ListN.{length-set}
use Rattle.chunks.specs.Lookup.{place_of}
use Rattle.judging.specs.Message.{named}
use Rattle.judging.proofs.Named.{named_more}
use Rattle.admission.proofs.write.dependency_rows.Goals as goal

pub loop-k-init : goal.loop-k-init
unfolding named
loop-k-init c = search rules

pub loop-k-preserved : goal.loop-k-preserved
loop-k-preserved c =
    let l = c.loop-k in
    let a = c.args in (
      simp length-set (search rules),
      named_more a.store.now.ids.now a.store.now.counts.rows a.item.now a.f l.k l.rows c.row_of.result (search rules) l.invariant.1
          (c.row_of.ensures ∙ ap (place_of a.store.now.ids.now a.store.now.counts.rows) c.dependency_of.ensures),
    )

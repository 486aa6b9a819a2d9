-- `limits::message::put_ids` meets its contract: the ids so far are put.
-- Assumes nothing.
use mathlib.Core.Path.{◌≡◌}
use native.Mathlib.Omega.{arith}
use Rattle.limits.proofs.Laws.{ids_none, ids_more}
use Rattle.limits.proofs.message.put_ids.Goals as goal

pub loop-n-init : goal.loop-n-init
loop-n-init c = let a = c.args in ids_none a.item.now a.at a.ids.now

pub loop-n-preserved : goal.loop-n-preserved
loop-n-preserved c = let l = c.loop-n in let a = c.args in ids_more a.item.now a.at a.ids.now l.n _ _ l.invariant c.put_id.ensures

pub returns : goal.returns
returns c =
    let l = c.loop-n in
    let e : l.n ≡ c.args.count = omega arith in
    rw e at l.invariant

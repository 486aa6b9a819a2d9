-- `hash_of` meets its contract. The loop's invariant: the hash value is the one after i blocks.
-- Assumes nothing.
use Rattle.sha256.specs.Sha256.{padded, H⁽⁰⁾}
use Rattle.sha256.proofs.Steps.{H_none, H_more}
use Rattle.sha256.proofs.hash_of.Goals as goal

pub loop-i-init : goal.loop-i-init
unfolding H⁽⁰⁾
loop-i-init c = H_none (padded c.args.s.now)

pub loop-i-preserved : goal.loop-i-preserved
loop-i-preserved c =
    let l = c.loop-i in
    H_more (padded c.args.s.now) l.h c.block_of.result c.next_hash-next.result l.i l.invariant c.block_of.ensures c.next_hash-next.ensures

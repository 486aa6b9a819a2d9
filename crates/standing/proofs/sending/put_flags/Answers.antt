-- `standing::sending::put_flags` meets its contract: two bytes stored.
-- Assumes nothing.
use native.Mathlib.Omega.{arith}
use lib.ListN.{length-set}
use Rattle.standing.proofs.Puts.{laid_bytes}
use Rattle.standing.proofs.sending.put_flags.Goals as goal

pub bounds-out-at-2 : goal.bounds-out-at-2
bounds-out-at-2 c = simp length-set (omega (arith, c.requires))

pub returns : goal.returns
returns c = let a = c.args in rw c.present.ensures (laid_bytes a.out.now a.at a.phase _ c.requires)

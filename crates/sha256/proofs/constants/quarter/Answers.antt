-- `constants::quarter` meets its contract: each arm's numbers stand in the standard's table from there on.
-- Assumes nothing.
use Rattle.std.proofs.Common.{◌≡◌, refl, arith}
use Rattle.sha256.specs.Sha256.{K}
use Rattle.sha256.proofs.constants.quarter.Goals as goal

pub returns-in-0 : goal.returns-in-0
unfolding K
returns-in-0 c = rw c.in-0.is refl

pub returns-in-1 : goal.returns-in-1
unfolding K
returns-in-1 c = rw c.in-1.is refl

pub returns-in-2 : goal.returns-in-2
unfolding K
returns-in-2 c = rw c.in-2.is refl

pub returns-in_default : goal.returns-in_default
unfolding K
returns-in_default c = let e : c.args.q ≡ 3 = omega arith in rw e refl

-- `origins::admit` meets its contract: the test of the store decides which of the two cases of the promise holds.
-- Assumes nothing.
use mathlib.Core.Path.{refl}
use Rattle.origins.specs.Origins.{damaged, sound}
use Rattle.origins.proofs.admit.Goals as goal

pub admit_sound-requires : goal.admit_sound-requires
admit_sound-requires c =
    rw c.read.ensures at (c.well_kept.ensures.yes c.if-well_kept.true)

pub returns-then-well_kept-clause-judged : goal.returns-then-well_kept-clause-judged
returns-then-well_kept-clause-judged c =
    sound (rw c.read.ensures at (c.well_kept.ensures.yes c.if-well_kept.true)) c.admit_sound.ensures.judged

pub returns-clause-judged : goal.returns-clause-judged
returns-clause-judged c = damaged (rw c.read.ensures at (c.well_kept.ensures.no c.if-well_kept.false)) refl refl refl

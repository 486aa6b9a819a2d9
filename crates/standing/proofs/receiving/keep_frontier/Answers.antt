-- `standing::receiving::keep_frontier` meets its contract: no valid frontier, no room, or a copy.
-- Assumes nothing.
use mathlib.Core.Path.{refl}
use Rattle.std.proofs.Common.{rules}
use Rattle.standing.specs.Finding.{NotKept}
use Rattle.standing.proofs.receiving.keep_frontier.Goals as goal

pub returns-then-not-frontier_valid : goal.returns-then-not-frontier_valid
returns-then-not-frontier_valid c = (NotKept.not_valid refl (c.frontier_valid.ensures.no c.if-not-frontier_valid.true), refl)

pub returns-then-out-read : goal.returns-then-out-read
returns-then-out-read c = (NotKept.no_room refl (c.frontier_valid.ensures.yes c.if-not-frontier_valid.false) c.if-out-read.true, refl)

pub returns : goal.returns
returns c =
    record {
      valid = c.frontier_valid.ensures.yes
          c.if-not-frontier_valid.false;
      count = refl;
      fits = search rules;
      content = c.copy_at.ensures;
    }

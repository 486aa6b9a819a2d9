-- `limits::message::put_ids` meets its contract: the ids so far are put.
-- Assumes nothing.
use mathlib.Core.Path.{◌≡◌}
use Rattle.limits.specs.Laid.{ids_put}
use Rattle.limits.proofs.message.put_ids.Given as goal

abbrev pub invariant-loop-n : goal.invariant-loop-n
invariant-loop-n l = l.item ≡ ids_put l.initial.item l.at l.ids l.n

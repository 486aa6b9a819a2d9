-- `admission::write::dependency_rows` meets its contract: the rows of the dependencies passed stand at the front.
-- Assumes nothing.
use mathlib.Core.Path.{◌≡◌}
use lib.ListN.{length}
use Rattle.std.specs.Prelude.{take}
use Rattle.item.specs.Offsets.{count_limit}
use Rattle.judging.specs.Message.{named}
use Rattle.admission.proofs.write.dependency_rows.Given as goal

abbrev pub invariant-loop-k : goal.invariant-loop-k
invariant-loop-k l = (length l.rows ≡ count_limit) × (take l.k l.rows ≡ named l.ids l.counts.rows l.item l.f l.k)

-- `salvage::keeping::keep_all` meets its contract: each step is the salvage's, and leaves less to do.
-- Assumes nothing.
use mathlib.Core.Path.{◌≡◌}
use lib.ListN.{length}
use Rattle.store.specs.Clauses.{SameParts}
use Rattle.cutting.specs.Cutting.{items_of}
use Rattle.morning.specs.Intake.{kept_by}
use Rattle.salvage.specs.Marks.{BeginsIn, LowestFree}
use Rattle.salvage.specs.Working.{Rescuing, effort}
use Rattle.salvage.proofs.keeping.keep_all.Given as goal

abbrev pub invariant-loop-k : goal.invariant-loop-k
invariant-loop-k l =
    (SameParts l.initial.store l.store × ((length l.origins ≡ length l.initial.origins) × ((length l.clean ≡ length l.initial.clean) × (length l.list ≡ length l.initial.list)))) ×
    (BeginsIn l.stick l.begins l.n ×
    (Rescuing (items_of l.stick) (kept_by l.initial.store l.initial.origins) l.initial.clean l.initial.list (kept_by l.store l.origins) l.clean l.bytes l.list ×
    LowestFree l.list l.n l.k))

abbrev pub decreases-loop-k : goal.decreases-loop-k
decreases-loop-k l =
    effort l.list (length (items_of l.stick))

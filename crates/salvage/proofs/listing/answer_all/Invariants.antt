-- `salvage::listing::answer_all` meets its contract.
-- Assumes nothing.
use Prim.Native.Nat.{◌+◌, ◌≤◌}
use mathlib.Core.Path.{◌≡◌}
use lib.ListN.{length}
use Rattle.store.specs.Clauses.{SameParts}
use Rattle.cutting.specs.Cutting.{items_of}
use Rattle.morning.specs.Intake.{kept_by}
use Rattle.salvage.specs.Listing.{AnsweredAll}
use Rattle.salvage.proofs.listing.answer_all.Given as goal

abbrev pub invariant-loop-k : goal.invariant-loop-k
invariant-loop-k l =
    (SameParts l.initial.store l.store × ((length l.origins ≡ length l.initial.origins) × (length l.list ≡ length l.initial.list))) ×
    ((l.n + 1 ≤ length l.begins) ×
    AnsweredAll (items_of l.stick) l.k (kept_by l.initial.store l.initial.origins) l.initial.list (kept_by l.store l.origins) l.list)

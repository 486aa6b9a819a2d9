-- `intake::all_items` meets its contract.
-- Assumes nothing.
use mathlib.Core.Path.{◌≡◌}
use Prim.Native.Nat.{◌-◌, ◌^◌, ◌<◌}
use lib.ListN.{length}
use Rattle.store.specs.Clauses.{SameParts}
use Rattle.morning.specs.Intake.{kept_by}
use Rattle.intake.specs.Taking.{TakenIn}
use Rattle.intake.specs.Window.{Within, stretch}
use Rattle.intake.proofs.all_items.Given as goal

abbrev pub invariant-loop-number : goal.invariant-loop-number
invariant-loop-number g l =
    (SameParts l.initial.store l.store ×
    ((length l.window ≡ length l.initial.window) × ((length l.origins ≡ length l.initial.origins) × (length l.frontier ≡ length l.initial.frontier)))) ×
    (Within l.window l.stand.span.at l.stand.span.held ×
    ((l.number < 2 ^ 64) ×
    TakenIn (kept_by l.initial.store l.initial.origins) l.initial.frontier (stretch l.window l.stand.span.at l.stand.span.held) (kept_by l.store l.origins) l.frontier
    l.stand.used l.stand.going l.number))

abbrev pub decreases-loop-number : goal.decreases-loop-number
decreases-loop-number g l = 2 ^ 64 - l.number

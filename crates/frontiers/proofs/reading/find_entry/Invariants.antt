-- `frontiers::reading::find_entry` meets its contract.
-- Assumes nothing.
use Prim.Native.Nat.{◌-◌, ◌/◌}
use mathlib.Core.Path.{◌≡◌}
use lib.ListN.{length}
use Rattle.frontiers.specs.Entries.{entry_of}
use Rattle.frontiers.specs.Numbers.{entry_width, entries_at, entries_of}
use Rattle.frontiers.proofs.reading.find_entry.Given as goal

abbrev pub invariant-loop-i : goal.invariant-loop-i
invariant-loop-i l = entry_of (entries_of l.f) l.a ≡ entry_of (entries_at l.f (length l.f / entry_width - l.i) l.i) l.a

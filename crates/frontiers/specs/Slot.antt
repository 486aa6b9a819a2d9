-- What a search for an author's entry gives.
-- Assumes nothing.
use Rattle.std.specs.Prelude.{Option}
use Rattle.logs.specs.declared.LogState.{LogState}

-- The log state of the entry, or its absence.
abbrev pub Slot : Type 0
Slot = Option LogState

-- `intake::main` meets its contract: the memory that it lends holds zeros.
-- Assumes nothing.
use mathlib.Core.Path.{refl}
use Rattle.intake.proofs.Keeping.{zeros_are_bytes}
use Rattle.intake.proofs.main.Goals as goal

pub intake-requires : goal.intake-requires
intake-requires c = ((refl, zeros_are_bytes 32768), refl)

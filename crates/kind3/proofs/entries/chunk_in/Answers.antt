-- `kind3::entries::chunk_in` meets its contract: the part lies inside its entry.
-- Assumes nothing.
use native.Mathlib.Nat.{add-sub_cancel_left}
use Rattle.kind3.proofs.entries.chunk_in.Goals as goal

pub returns : goal.returns
returns c = simp add-sub_cancel_left

-- The payload of a sound and of a refused item.
-- Assumes nothing.
use Rattle.std.specs.Prelude.{Ok, Err}
use Prim.Native.Nat.{ℕ, ◌+◌, ◌-◌}
use native.Mathlib.Nat.{add-sub_cancel_left}
use mathlib.Core.Path.{◌≡◌}
use mathlib.Core.List.{List, []}
use lib.ListN.{take, drop}
use Rattle.answers.specs.declared.Refusal.{Refusal}
use Rattle.item.specs.declared.Fields.{Fields}
use Rattle.item.specs.Layout.{layout_of, payload_in, payload_of}

-- The payload of a sound item.
pub payload_sound : (s : List ℕ) (f : Fields) → layout_of s ≡ Ok f → take (f.payload + f.size - f.payload) (drop f.payload s) ≡ payload_of s
unfolding payload_in
payload_sound s f e = rw (e, add-sub_cancel_left)

-- A refused item has none.
pub payload_refused : (s : List ℕ) (r : Refusal) → layout_of s ≡ Err r → [] ≡ payload_of s
unfolding payload_in
payload_refused s r e = rw e

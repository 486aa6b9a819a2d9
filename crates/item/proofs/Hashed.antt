-- What the id is taken over: the body of the item without the mark, whatever the mark is.
-- Assumes nothing.
use Prim.Native.Nat.{ℕ, ◌+◌, ◌-◌}
use native.Mathlib.Omega.{arith}
use mathlib.Core.Path.{◌≡◌, sym, ap, ◌∙◌}
use mathlib.Core.Logic.{◌≢◌}
use mathlib.Core.List.{List, ◌++◌}
use lib.ListN.{length, get_or, set, drop, length-drop}
use lib.Seq.{ext_get_or, get_or-drop, drop-set-lt}
use Rattle.item.specs.declared.Fields.{Fields}
use Rattle.item.specs.Layout.{hashed_of}
use Rattle.item.specs.Laid.{IsItem}
use Rattle.item.proofs.Places.{at_key_lem}

-- Of an item it is every part of the body but the mark, the signature last.
pub item_hashed : {s : List ℕ} {f : Fields} (i : IsItem s f)
    → hashed_of s ≡ i.key ++ (i.previous ++ (i.index ++ (i.size ++ (i.payload ++ (i.count ++ (i.dependencies ++ i.signature))))))
item_hashed i = at_key_lem i

-- Another mark leaves it.
pub hashed_marked : (s : List ℕ) (m : ℕ) → hashed_of (set s 6 m) ≡ hashed_of s
hashed_marked s m = drop-set-lt 7 s 6 m (omega arith)

-- Two items that differ only in the mark have it in common.
pub hashed_apart : (s t : List ℕ) → length s ≡ length t → ((k : ℕ) → k ≢ 6 → get_or s k 0 ≡ get_or t k 0) → hashed_of s ≡ hashed_of t
hashed_apart s t e h =
    ext_get_or 0 (drop 7 s) (drop 7 t) (length-drop 7 s ∙ ap (λ (n : ℕ). n - 7) e ∙ sym (length-drop 7 t))
    (λ i b. get_or-drop 7 s i 0 ∙ h (7 + i) (λ q. omega arith) ∙ sym (get_or-drop 7 t i 0))

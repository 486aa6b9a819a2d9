-- The id of an item: over every part of the body but the mark, and the same whatever the mark is.
-- Assumes nothing.
use Prim.Native.Nat.{ℕ}
use mathlib.Core.Path.{◌≡◌, ap}
use mathlib.Core.Logic.{◌≢◌}
use mathlib.Core.List.{List, ◌++◌}
use lib.ListN.{length, get_or, set}
use Rattle.sha256.specs.Sha256.{sha256_of}
use Rattle.item.specs.declared.Fields.{Fields}
use Rattle.item.specs.Id.{id_of}
use Rattle.item.specs.Laid.{IsItem}
use Rattle.item.proofs.Hashed.{item_hashed, hashed_marked, hashed_apart}

-- The id of an item is SHA-256 of the parts of its body after the mark, the signature last.
pub item_id : {s : List ℕ} {f : Fields} (i : IsItem s f)
    → id_of s ≡ sha256_of (i.key ++ (i.previous ++ (i.index ++ (i.size ++ (i.payload ++ (i.count ++ (i.dependencies ++ i.signature)))))))
item_id i = ap sha256_of (item_hashed i)

-- Another mark leaves the id.
pub id_marked : (s : List ℕ) (m : ℕ) → id_of (set s 6 m) ≡ id_of s
id_marked s m = ap sha256_of (hashed_marked s m)

-- Two items that differ only in the mark have one id.
pub one_id : (s t : List ℕ) → length s ≡ length t → ((k : ℕ) → k ≢ 6 → get_or s k 0 ≡ get_or t k 0) → id_of s ≡ id_of t
one_id s t e h = ap sha256_of (hashed_apart s t e h)

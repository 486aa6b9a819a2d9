-- What a list holds, by places.
-- Assumes nothing.
use Prim.Native.Nat.{ℕ, zero, suc, ◌+◌, ◌≤◌, ◌<◌, suc-le-suc, zero-le}
use mathlib.Core.Path.{◌≡◌, refl, sym, ◌∙◌}
use mathlib.Core.List.Memᴰ
use mathlib.Core.List.{List, [], ◌∷◌, Memᴰ}
use native.Mathlib.Omega.{arith}
use native.Mathlib.Nat.{le_of_suc-le-suc}
use lib.ListN.{length, take, drop, get_or, length-drop}
use lib.Seq.{get_or-take, get_or-drop, length-take-le}

-- A place of a list that holds `x`.
pub record Place (l : List ℕ) (x : ℕ) : Type 0 where
  pub at : ℕ
  pub inside : at < length l
  pub here : x ≡ get_or l at 0

-- What a list holds stands at a place.
pub place_of : {x : ℕ} {l : List ℕ} → Memᴰ x l → Place l x
place_of (Memᴰ.head e) = record { at = 0; inside = suc-le-suc zero-le; here = e }
place_of (Memᴰ.tail m) =
    let p = place_of m in
    record { at = suc p.at; inside = suc-le-suc p.inside; here = p.here }

-- What stands at a place is held.
pub held_at : (l : List ℕ) (k : ℕ) → k < length l → Memᴰ (get_or l k 0) l
held_at [] k h = absurd (omega arith)
held_at (x ∷ l) zero h = Memᴰ.head refl
held_at (x ∷ l) (suc k) h = Memᴰ.tail (held_at l k (le_of_suc-le-suc h))

-- What a part of a list holds stands at a place of the whole.
pub part_place : {x : ℕ} (n s : ℕ) (l : List ℕ) → s + n ≤ length l → (p : Place (take n (drop s l)) x) → (p.at < n) × (x ≡ get_or l (s + p.at) 0)
part_place n s l h p =
    let size : length (take n (drop s l)) ≡ n = length-take-le n (drop s l) (rw length-drop (omega arith)) in
    let low : p.at < n = rw size at p.inside in
    (low, p.here ∙ get_or-take n (drop s l) p.at 0 low ∙ get_or-drop s l p.at 0)

-- What stands at a place of a part is held by the part.
pub part_held : (n s : ℕ) (l : List ℕ) → s + n ≤ length l → (k : ℕ) → k < n → Memᴰ (get_or l (s + k) 0) (take n (drop s l))
part_held n s l h k low =
    let size : length (take n (drop s l)) ≡ n = length-take-le n (drop s l) (rw length-drop (omega arith)) in
    Memᴰ.cast (sym (get_or-take n (drop s l) k 0 low ∙ get_or-drop s l k 0)) (held_at (take n (drop s l)) k (rw size low))

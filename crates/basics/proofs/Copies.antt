-- One turn of a loop that copies.
-- Assumes nothing.
use Prim.Native.Nat.{ℕ, ◌+◌, ◌≤◌, ◌<◌}
use mathlib.Core.Path.{◌≡◌, ap, ◌∙◌}
use mathlib.Core.List.{List}
use native.Mathlib.Omega.{arith}
use native.Mathlib.Numerals.{add-one}
use lib.ListN.{length, take, get_or, set}
use lib.Seq.{paste, paste-suc, take-take, length-take-le}

-- The store of one turn takes the copy of i elements to that of i + 1.
pub stored_more : (d : List ℕ) (at : ℕ) (s : List ℕ) (i : ℕ) (out : List ℕ) (v : ℕ) → out ≡ paste d at s i → at + i < length d → i < length s
    → v ≡ get_or s i 0 → set out (at + i) v ≡ paste d at s (i + 1)
stored_more d at s i out v e h k g = rw (add-one, g, e) (paste-suc d at s i 0 (omega arith) k)

-- And so it is of a list of whatever elements.
pub stored_any : {A : Type 0} (d : List A) (at : ℕ) (s : List A) (i : ℕ) (out : List A) (v : A) → out ≡ paste d at s i → at + i < length d → i < length s
    → v ≡ get_or s i v → set out (at + i) v ≡ paste d at s (i + 1)
stored_any {A = A} d at s i out v e h k g =
    rw (add-one, e) (ap (λ (u : A). set (paste d at s i) (at + i) u) g ∙ paste-suc d at s i v h k)

-- A copy of all of the first n elements of a list is a copy of n elements of it.
pub pasted_part : (d : List ℕ) (at : ℕ) (s : List ℕ) (n : ℕ) → n ≤ length s → paste d at (take n s) (length (take n s)) ≡ paste d at s n
pasted_part d at s n h = rw (length-take-le n s h, take-take n n s (omega arith))

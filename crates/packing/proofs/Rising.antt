-- For basics: strictly rising lists. One is determined by what it holds.
-- Assumes nothing.
use Prim.Native.Nat.{ℕ, ◌≤◌, ◌<◌}
use mathlib.Core.Path.{◌≡◌, refl}
use mathlib.Core.List.Memᴰ
use mathlib.Core.List.{List, [], ◌∷◌, ◌++◌, Memᴰ}
use mathlib.Core.Logic.{⊎_elim}
use native.Mathlib.Omega.{arith}
use Rattle.packing.specs.Packing.{RisesFrom, end, next}

-- All of a rising list is above where it rises from.
pub rises_above : {low : ℕ} {l : List ℕ} {x : ℕ} → RisesFrom low l → Memᴰ x l → low < x
rises_above end m = absurd (Memᴰ.not-nil m)
rises_above {x = x} (next h r) m =
    ⊎_elim (λ e. omega arith) (λ t. let k = rises_above r t in omega arith) (Memᴰ.cases_cons m)

-- A larger number behind a rising list.
pub rises_next : {low : ℕ} {l : List ℕ} (x : ℕ) → RisesFrom low l → low < x → ((y : ℕ) → Memᴰ y l → y < x) → RisesFrom low (l ++ (x ∷ []))
rises_next x end h f = next h end
rises_next x (next {x = y} k r) h f = next k (rises_next x r (f y (Memᴰ.head refl)) (λ z m. f z (Memᴰ.tail m)))

-- The head of a list that rises is no larger than what it holds.
head_least : {low y x : ℕ} {l : List ℕ} → RisesFrom low (y ∷ l) → Memᴰ x (y ∷ l) → y ≤ x
head_least (next h r) m = ⊎_elim (λ e. omega arith) (λ t. let k = rises_above r t in omega arith) (Memᴰ.cases_cons m)

rest_rises : {low y : ℕ} {l : List ℕ} → RisesFrom low (y ∷ l) → RisesFrom y l
rest_rises (next h r) = r

-- What a list holds that is above its head, its rest holds.
in_rest : {y x : ℕ} {l : List ℕ} → y < x → Memᴰ x (y ∷ l) → Memᴰ x l
in_rest h m = ⊎_elim (λ e. absurd (omega arith)) (λ t. t) (Memᴰ.cases_cons m)

-- Two rising lists that hold the same are the same.
pub rising_unique : {a b : ℕ} (l k : List ℕ) → RisesFrom a l → RisesFrom b k
    → ((x : ℕ) → Memᴰ x l → Memᴰ x k) → ((x : ℕ) → Memᴰ x k → Memᴰ x l) → l ≡ k
rising_unique [] [] r s f g = refl
rising_unique [] (y ∷ k) r s f g = absurd (Memᴰ.not-nil (g y (Memᴰ.head refl)))
rising_unique (x ∷ l) [] r s f g = absurd (Memᴰ.not-nil (f x (Memᴰ.head refl)))
rising_unique (x ∷ l) (y ∷ k) r s f g =
    let p = head_least s (f x (Memᴰ.head refl)) in
    let q = head_least r (g y (Memᴰ.head refl)) in
    let e : x ≡ y = omega arith in
    let rest : l ≡ k =
    rising_unique l k (rest_rises r) (rest_rises s)
    (λ z m. let h = rises_above (rest_rises r) m in in_rest (omega arith) (f z (Memᴰ.tail m)))
    (λ z m. let h = rises_above (rest_rises s) m in in_rest (omega arith) (g z (Memᴰ.tail m))) in
    rw (e, rest)

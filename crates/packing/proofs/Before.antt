-- Laws of happened-before.
-- Assumes nothing.
use Prim.Native.Nat.{ℕ, zero, suc, ◌+◌, ◌-◌, ◌≤◌, ◌<◌}
use mathlib.Core.Path.{◌≡◌, refl, sym, ap, subst}
use mathlib.Core.List.Memᴰ
use mathlib.Core.List.{List, Memᴰ}
use mathlib.Core.Logic.{◌⊎◌, inl, inr}
use native.Mathlib.Omega.{arith}
use lib.ListN.{length, get_or}
use Rattle.store.specs.Table.{row_at, dep_sum, deps_in}
use Rattle.store.proofs.Facts.{sum_here}
use Rattle.packing.specs.Before.{Step, by_link, by_list, HappenedBefore, one, more, Within}
use Rattle.packing.specs.Marks.{Listed, Falling, Starts}
use Rattle.basics.proofs.Members.{place_of, part_place, part_held}

-- What falls up to a row falls up to each before it.
pub falling_less : {rows deps : List ℕ} {n m : ℕ} → Falling rows deps n → m ≤ n → Falling rows deps m
falling_less {n = n} {m} f h =
    record {
      link_earlier = λ y le. f.link_earlier y (omega arith);
      list_earlier = λ y le. f.list_earlier y (omega arith);
      list_held = λ y le. f.list_held y (omega arith);
    }

-- Starts that are right up to a row are right up to each before it.
pub starts_less : {rows starts : List ℕ} {n m : ℕ} → Starts rows starts n → m ≤ n → Starts rows starts m
starts_less {n = n} {m} f h = record { held = (let k = f.held in omega arith); right = λ y le. f.right y (omega arith) }

module _ {rows deps : List ℕ} where
  -- Happened before what happened before.
  pub before_trans : {x y z : ℕ} → HappenedBefore rows deps x y → HappenedBefore rows deps y z → HappenedBefore rows deps x z
  before_trans p (one s) = more p s
  before_trans p (more q s) = more (before_trans p q) s

  -- What is before a row within a history is in that history.
  pub within_back : {x y last : ℕ} → HappenedBefore rows deps x y → Within rows deps last y → Within rows deps last x
  within_back p (inl w) = inr (subst (HappenedBefore rows deps _) w.1 p)
  within_back p (inr q) = inr (before_trans p q)

  -- None has no history.
  pub no_step : {x : ℕ} → Step rows deps x 0 → ⊥
  unfolding row_at
  no_step (by_link h e) = omega arith
  no_step (by_list m) = Memᴰ.not-nil m

  pub none_before : {x y : ℕ} → y ≡ 0 → HappenedBefore rows deps x y → ⊥
  none_before e (one s) = no_step (subst (Step rows deps _) e s)
  none_before e (more p s) = no_step (subst (Step rows deps _) e s)

  pub none_within : {x : ℕ} → Within rows deps 0 x → ⊥
  none_within (inl w) = let h = w.0 in omega arith
  none_within (inr p) = none_before refl p

  -- The history of a previous row is part of the history.
  pub link_within : {x y : ℕ} → Within rows deps (row_at rows y).prev x → Within rows deps y x
  link_within (inl i) = inr (one (by_link (subst (λ (d : ℕ). 1 ≤ d) (sym i.1) i.0) i.1))
  link_within {x} {y} (inr p) = inr (more p (by_link (not_none (row_at rows y).prev refl) refl))
    where
      not_none : (r : ℕ) → (row_at rows y).prev ≡ r → 1 ≤ r
      not_none zero e = absurd (none_before e p)
      not_none (suc r) e = omega arith

module _ {rows deps : List ℕ} {n : ℕ} (w : Falling rows deps n) (y : ℕ) (some : 1 ≤ y) (held : y ≤ n) where
  -- The dependency list of a row is held.
  list_inside : dep_sum rows (y - 1) + (row_at rows y).deps ≤ length deps
  list_inside = rw (sum_here rows y some) at (w.list_held y held)

  -- A step by the dependency list, and back: the place where the row stands.
  place_listed : {z : ℕ} → Memᴰ z (deps_in rows deps y) → {x : ℕ} → Within rows deps z x → Listed rows deps (dep_sum rows (y - 1)) (dep_sum rows y) x
  place_listed m {x} i =
      let p = place_of m in
      let f = part_place (row_at rows y).deps (dep_sum rows (y - 1)) deps list_inside p in
      let e = sum_here rows y some in
      let low = f.0 in
      record {
        place = dep_sum rows (y - 1) + p.at;
        low = omega arith;
        high = omega arith;
        within = subst (λ (d : ℕ). Within rows deps d x) f.1 i;
      }

  -- A row of the dependency list is not none.
  listed_some : {z : ℕ} → Memᴰ z (deps_in rows deps y) → 1 ≤ z
  listed_some m =
      let p = place_of m in
      let f = part_place (row_at rows y).deps (dep_sum rows (y - 1)) deps list_inside p in
      subst (λ (d : ℕ). 1 ≤ d) (sym f.1) (w.list_earlier y held some p.at f.0).0

  place_step : (k : ℕ) → dep_sum rows (y - 1) ≤ k → k < dep_sum rows y → Step rows deps (get_or deps k 0) y
  place_step k low high =
      let s = sum_here rows y some in
      let e : dep_sum rows (y - 1) + (k - dep_sum rows (y - 1)) ≡ k = omega arith in
      let m = part_held (row_at rows y).deps (dep_sum rows (y - 1)) deps list_inside (k - dep_sum rows (y - 1)) (omega arith) in
      by_list (Memᴰ.cast (ap (λ (j : ℕ). get_or deps j 0) (sym e)) m)

  -- A step from what is within a history leads on.
  pub step_on : {x z : ℕ} → Step rows deps z y → Within rows deps z x → HappenedBefore rows deps x y
  step_on s (inl i) = one (subst (λ (d : ℕ). Step rows deps d y) (sym i.1) s)
  step_on s (inr p) = more p s

  -- The history of a row is the row, the history of its previous row and those of its dependencies: these are in it,
  pub within_of_list : {x : ℕ} → Listed rows deps (dep_sum rows (y - 1)) (dep_sum rows y) x → Within rows deps y x
  within_of_list l = inr (step_on (place_step l.place l.low l.high) l.within)

  -- and it holds no other.
  pub within_cases : {x : ℕ} → Within rows deps y x
      → (x ≡ y) ⊎ (Within rows deps (row_at rows y).prev x ⊎ Listed rows deps (dep_sum rows (y - 1)) (dep_sum rows y) x)
  within_cases (inl i) = inl i.1
  within_cases (inr (one (by_link h e))) = inr (inl (inl (subst (λ (d : ℕ). 1 ≤ d) e h, e)))
  within_cases (inr (one (by_list m))) = inr (inr (place_listed m (inl (listed_some m, refl))))
  within_cases {x} (inr (more p (by_link h e))) = inr (inl (inr (subst (HappenedBefore rows deps x) e p)))
  within_cases (inr (more p (by_list m))) = inr (inr (place_listed m (inr p)))

  -- A step leads to an earlier row.
  falls_one : {x : ℕ} → Step rows deps x y → (1 ≤ x) × (x < y)
  falls_one (by_link h e) = let k = w.link_earlier y held some in (h, omega arith)
  falls_one (by_list m) =
      let p = place_of m in
      let f = part_place (row_at rows y).deps (dep_sum rows (y - 1)) deps list_inside p in
      subst (λ (d : ℕ). (1 ≤ d) × (d < y)) (sym f.1) (w.list_earlier y held some p.at f.0)

-- A step leads to an earlier row, which is not none; so does a path.
pub step_earlier : {rows deps : List ℕ} {n x y : ℕ} → Falling rows deps n → y ≤ n → Step rows deps x y → (1 ≤ x) × (x < y)
step_earlier {y = zero} f h s = absurd (no_step s)
step_earlier {y = suc m} f h s = falls_one f (suc m) (omega arith) h s

pub before_earlier : {rows deps : List ℕ} {n x y : ℕ} → Falling rows deps n → y ≤ n → HappenedBefore rows deps x y → (1 ≤ x) × (x < y)
before_earlier f h (one s) = step_earlier f h s
before_earlier f h (more p s) =
    let k = step_earlier f h s in
    let low = k.1 in
    let q = before_earlier f (omega arith) p in
    let high = q.1 in
    (q.0, omega arith)

-- Rows within a history are rows up to its last.
pub within_range : {rows deps : List ℕ} {n last x : ℕ} → Falling rows deps n → last ≤ n → Within rows deps last x → (1 ≤ x) × (x ≤ n)
within_range f h (inl i) = let a = i.0 in let e = i.1 in (omega arith, omega arith)
within_range f h (inr p) = let q = before_earlier f h p in let a = q.0 in let b = q.1 in (a, omega arith)

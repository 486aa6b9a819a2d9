-- Logs, the dependencies of an author, and the nearest row that has one.
-- Assumes nothing.
use Prim.Native.Nat.{ℕ, zero, suc, ◌≤◌}
use mathlib.Core.Path.{◌≡◌, refl, sym, ap, subst, ◌∙◌}
use mathlib.Core.Bool.{Bool}
use mathlib.Core.List.Memᴰ
use mathlib.Core.List.{List, [], ◌∷◌, Memᴰ}
use mathlib.Core.Logic.{◌⊎◌, inl, inr, ⊎_elim, ◌≢◌}
use native.Mathlib.Omega.{arith}
use Rattle.basics.specs.Pick.{pick}
use Rattle.basics.proofs.Tests.{by_eqb}
use Rattle.store.specs.Table.{row_at, deps_in}
use Rattle.store.proofs.Rows.{row_none}
use Rattle.packing.specs.Before.{HappenedBefore}
use Rattle.packing.specs.Marks.{Falling}
use Rattle.catalogue.specs.Steady.{InLog, SameOrBefore}
use Rattle.catalogue.specs.Nearest.{dep_by, Nearest}

-- What happened before a row happened before all that it happened before.
pub before_then : {rows deps : List ℕ} {x y z : ℕ} → HappenedBefore rows deps x y → HappenedBefore rows deps y z → HappenedBefore rows deps x z
before_then h (HappenedBefore.one s) = HappenedBefore.more h s
before_then h (HappenedBefore.more g s) = HappenedBefore.more (before_then h g) s

-- The order of the rule is transitive.
pub same_or_before_then : {rows deps : List ℕ} {x y z : ℕ} → SameOrBefore rows deps x y → SameOrBefore rows deps y z → SameOrBefore rows deps x z
same_or_before_then (inl e) (inl f) = inl (e ∙ f)
same_or_before_then {rows} {deps} {x} {y} {z} (inl e) (inr g) = inr (subst (λ (w : ℕ). HappenedBefore rows deps w z) (sym e) g)
same_or_before_then {rows} {deps} {x} {y} {z} (inr g) (inl f) = inr (subst (HappenedBefore rows deps x) f g)
same_or_before_then (inr g) (inr k) = inr (before_then g k)

-- A row of a log is a row,
pub in_log_some : {rows : List ℕ} {p x : ℕ} → InLog rows p x → 1 ≤ p
in_log_some (InLog.here h) = h
in_log_some (InLog.behind x g) = in_log_some g

-- and not a later one.
pub in_log_earlier : {rows deps : List ℕ} {n p x : ℕ} → Falling rows deps n → x ≤ n → InLog rows p x → p ≤ x
in_log_earlier f h (InLog.here k) = omega arith
in_log_earlier {rows} {deps} {n} {p} f h (InLog.behind zero g) =
    let e : (row_at rows 0).prev ≡ 0 = ap (λ r. r.prev) (row_none rows) in
    let z : p ≤ (row_at rows 0).prev = in_log_earlier f (omega arith) g in
    omega arith
in_log_earlier f h (InLog.behind (suc x) g) =
    let l = f.link_earlier (suc x) h (omega arith) in
    let z = in_log_earlier f (omega arith) g in
    omega arith

-- Where no dependency is of an author, none of the rows is.
pub dep_by_none : (rows : List ℕ) (a : ℕ) (ds : List ℕ) → ((d : ℕ) → Memᴰ d ds → 1 ≤ d) → dep_by rows a ds ≡ 0 → (d : ℕ) → Memᴰ d ds
    → (row_at rows d).author ≡ a → ⊥
unfolding dep_by
dep_by_none rows a [] some e d m f = elim m [ ]
dep_by_none rows a (c ∷ ds) some e d m f =
    by_eqb (λ (t : Bool). pick t c (dep_by rows a ds) ≡ 0 → ⊥) (row_at rows c).author a
    (λ g z. let h : 1 ≤ c = some c (Memᴰ.head refl) in absurd (omega arith))
    (λ g z. ⊎_elim (λ (k : d ≡ c). g (ap (λ (r : ℕ). (row_at rows r).author) (sym k) ∙ f))
    (λ k. dep_by_none rows a ds (λ r i. some r (Memᴰ.tail i)) z d k f) (Memᴰ.cases_cons m)) e

-- A dependency of an author is one of the rows, and is of that author.
pub dep_by_some : (rows : List ℕ) (a : ℕ) (ds : List ℕ) → dep_by rows a ds ≢ 0
    → Memᴰ (dep_by rows a ds) ds × ((row_at rows (dep_by rows a ds)).author ≡ a)
unfolding dep_by
dep_by_some rows a [] h = absurd (h refl)
dep_by_some rows a (c ∷ ds) h =
    by_eqb (λ (t : Bool). pick t c (dep_by rows a ds) ≢ 0 → Memᴰ (pick t c (dep_by rows a ds)) (c ∷ ds) ×
    ((row_at rows (pick t c (dep_by rows a ds))).author ≡ a))
    (row_at rows c).author a (λ g k. (Memᴰ.head refl, g)) (λ g k. let r = dep_by_some rows a ds k in (Memᴰ.tail r.0, r.1)) h

-- A row of the log that depends on the author is in the log of the nearest such row.
pub nearest_first : {rows deps : List ℕ} {n a x q : ℕ} → Falling rows deps n → x ≤ n → ((y d : ℕ) → y ≤ n → Memᴰ d (deps_in rows deps y) → 1 ≤ d)
    → Nearest rows deps a x q → (p d : ℕ) → InLog rows p x → Memᴰ d (deps_in rows deps p) → (row_at rows d).author ≡ a → InLog rows p q
nearest_first l i some Nearest.none p d g m f = g
nearest_first l i some (Nearest.found x h k) p d g m f = g
nearest_first {rows} {deps} {n} {a} l i some (Nearest.further x q h k near) p d (InLog.here j) m f =
    absurd (dep_by_none rows a (deps_in rows deps x) (λ c. some x c i) k d m f)
nearest_first l i some (Nearest.further x q h k near) p d (InLog.behind y g) m f =
    nearest_first l (omega (arith, l.link_earlier x i h)) some near p d g m f

-- The nearest row has a dependency of the author, unless there is none.
pub nearest_depends : {rows deps : List ℕ} {a x q : ℕ} → Nearest rows deps a x q → 1 ≤ q → (InLog rows q x) × (dep_by rows a (deps_in rows deps q) ≢ 0)
nearest_depends Nearest.none h = absurd (omega arith)
nearest_depends (Nearest.found x h k) g = (InLog.here h, k)
nearest_depends (Nearest.further x q h k n) g = let r = nearest_depends n g in (InLog.behind x r.0, r.1)

-- The nearest row is not a later one.
pub nearest_earlier : {rows deps : List ℕ} {n a x q : ℕ} → Falling rows deps n → x ≤ n → Nearest rows deps a x q → q ≤ x
nearest_earlier f h Nearest.none = omega arith
nearest_earlier f h (Nearest.found x k m) = omega arith
nearest_earlier f h (Nearest.further x q k m near) =
    let l = f.link_earlier x h k in
    let z = nearest_earlier f (omega arith) near in
    omega arith

-- A row of a log is its last row, or in the log behind it.
pub in_log_split : {rows : List ℕ} {p x : ℕ} → InLog rows p x → (p ≡ x) ⊎ InLog rows p (row_at rows x).prev
in_log_split (InLog.here h) = inl refl
in_log_split (InLog.behind x g) = inr g

-- Laws of marks: what a walk adds, and that the marked rows stay closed.
-- Assumes nothing.
use Prim.Native.Nat.{ℕ, ◌+◌, ◌-◌, ◌≤◌, ◌<◌}
use mathlib.Core.Path.{◌≡◌, sym, ap, ◌∙◌, subst}
use mathlib.Core.List.{List}
use mathlib.Core.Logic.{◌⊎◌, inl, inr, ⊎_elim, ◌≢◌}
use native.Mathlib.Omega.{arith}
use lib.ListN.{length, get_or, set}
use lib.Seq.{get_or-set_same, get_or-set_other}
use Rattle.store.specs.Table.{row_at, dep_sum}
use Rattle.basics.proofs.Tests.{by_eqb}
use Rattle.packing.specs.Before.{HappenedBefore, Within}
use Rattle.packing.specs.Marks.{Marked, Closed, Marking, Listed, Falling}
use Rattle.packing.proofs.Before.{within_back, none_within, link_within, within_of_list, within_cases}

-- Nothing is added where all the new rows are marked.
pub marking_same : (m : List ℕ) {New : ℕ → Type 0} → ((x : ℕ) → New x → Marked m x) → Marking m m New
marking_same m f = record { kept = λ x e. e; added = f; only = λ x e. inl e }

-- One walk after another.
pub marking_then : {a b c : List ℕ} {P Q R : ℕ → Type 0} → Marking a b P → Marking b c Q
    → ((x : ℕ) → R x → P x ⊎ Q x) → ((x : ℕ) → P x → R x) → ((x : ℕ) → Q x → R x) → Marking a c R
marking_then f g cases left right =
    record {
      kept = λ x e. g.kept x (f.kept x e);
      added = λ x r. ⊎_elim (λ p. g.kept x (f.added x p)) (λ q. g.added x q) (cases x r);
      only = λ x e. ⊎_elim (λ d. ⊎_elim (λ b. inl b) (λ p. inr (left x p)) (f.only x d)) (λ q. inr (right x q)) (g.only x e);
    }

-- What is added for one reason is added for another that holds of the same rows.
pub marking_as : {a b : List ℕ} {P Q : ℕ → Type 0} → Marking a b P → ((x : ℕ) → P x → Q x) → ((x : ℕ) → Q x → P x) → Marking a b Q
marking_as m to from =
    record {
      kept = m.kept;
      added = λ x q. m.added x (from x q);
      only = λ x e. ⊎_elim (λ d. inl d) (λ p. inr (to x p)) (m.only x e);
    }

-- A row is marked.
pub marking_set : (m : List ℕ) (row : ℕ) → row < length m → Marking m (set m row 1) (λ (x : ℕ). x ≡ row)
marking_set m row h =
    record {
      kept = λ x e. ⊎_elim (λ i. here x i) (λ d. get_or-set_other m row x 1 0 d ∙ e) (same x);
      added = here;
      only = λ x e. ⊎_elim (λ i. inr i) (λ d. inl (sym (get_or-set_other m row x 1 0 d) ∙ e)) (same x);
    }
  where
    here : (x : ℕ) → x ≡ row → Marked (set m row 1) x
    here x e = ap (λ (i : ℕ). get_or (set m row 1) i 0) e ∙ get_or-set_same m row 1 0 h

    same : (x : ℕ) → (x ≡ row) ⊎ (x ≢ row)
    same x = by_eqb (λ b. (x ≡ row) ⊎ (x ≢ row)) x row (λ e. inl e) (λ d. inr d)

module _ {rows deps : List ℕ} where
  -- The marked rows stay closed where rows are added that are closed themselves,
  pub closed_with : {a b : List ℕ} {New : ℕ → Type 0} → ((x y : ℕ) → HappenedBefore rows deps x y → New y → New x)
      → Closed rows deps a → Marking a b New → Closed rows deps b
  closed_with new c m =
      record { back = λ x y p e. ⊎_elim (λ d. m.kept x (c.back x y p d)) (λ i. m.added x (new x y p i)) (m.only y e) }

  -- such as a history.
  pub closed_after : {a b : List ℕ} {last : ℕ} → Closed rows deps a → Marking a b (Within rows deps last) → Closed rows deps b
  closed_after c m = closed_with (λ x y p i. within_back p i) c m

  -- What a marked row stands for is marked.
  pub already : {m : List ℕ} {row : ℕ} → Closed rows deps m → Marked m row → Marking m m (Within rows deps row)
  already {m} {row} c e = marking_same m (λ x i. ⊎_elim (λ w. ap (λ (k : ℕ). get_or m k 0) w.1 ∙ e) (λ p. c.back x row p e) i)

  -- None adds nothing.
  pub none_marked : (m : List ℕ) (row : ℕ) → row ≡ 0 → Marking m m (Within rows deps row)
  none_marked m row e = marking_same m (λ x i. absurd (none_within (subst (λ (r : ℕ). Within rows deps r x) e i)))

  -- An empty stretch of dependencies adds nothing.
  pub list_none : (m : List ℕ) (k : ℕ) → Marking m m (Listed rows deps k k)
  list_none m k = marking_same m (λ x l. let low = l.low in let high = l.high in absurd (omega arith))

  -- One dependency more.
  pub list_more : {a b c : List ℕ} {from to : ℕ} → from ≤ to → Marking a b (Listed rows deps from to)
      → Marking b c (Within rows deps (get_or deps to 0)) → Marking a c (Listed rows deps from (to + 1))
  list_more {from = from} {to} h f g = marking_then f g cases left right
    where
      cases : (x : ℕ) → Listed rows deps from (to + 1) x → Listed rows deps from to x ⊎ Within rows deps (get_or deps to 0) x
      cases x l = go l.place l.low l.high l.within
        where
          go : (k : ℕ) → from ≤ k → k < to + 1 → Within rows deps (get_or deps k 0) x → Listed rows deps from to x ⊎ Within rows deps (get_or deps to 0) x
          go k low high i =
              by_eqb (λ b. Listed rows deps from to x ⊎ Within rows deps (get_or deps to 0) x) k to
              (λ e. inr (subst (λ (j : ℕ). Within rows deps (get_or deps j 0) x) e i))
              (λ d. inl (record { place = k; low = low; high = omega arith; within = i }))

      left : (x : ℕ) → Listed rows deps from to x → Listed rows deps from (to + 1) x
      left x l = record { place = l.place; low = l.low; high = (let k = l.high in omega arith); within = l.within }

      right : (x : ℕ) → Within rows deps (get_or deps to 0) x → Listed rows deps from (to + 1) x
      right x i = record { place = to; low = h; high = omega arith; within = i }

-- A row is marked after its previous row and its dependencies: with it its whole history is.
pub row_marked : {rows deps a b c : List ℕ} {row : ℕ} → Falling rows deps row → 1 ≤ row
    → Marking a b (Within rows deps (row_at rows row).prev) → Marking b c (Listed rows deps (dep_sum rows (row - 1)) (dep_sum rows row))
    → row < length c → Marking a (set c row 1) (Within rows deps row)
row_marked {rows} {deps} {c = c} {row} w some f g h =
    marking_then {R = Within rows deps row} (marking_then f g (λ x r. r) (λ x p. inl p) (λ x q. inr q)) (marking_set c row h)
    (λ x i. ⊎_elim (λ e. inr e) (λ s. inl s) (within_cases w row some (le_refl row) i))
    (λ x s. ⊎_elim (λ p. link_within p) (λ l. within_of_list w row some (le_refl row) l) s)
    (λ x e. inl (some, e))
  where
    le_refl : (n : ℕ) → n ≤ n
    le_refl n = omega arith

-- One turn of each look back.
-- Assumes nothing.
use Prim.Native.Nat.{ℕ, zero, suc, ◌+◌, ◌-◌, ◌≤◌, ◌<◌}
use mathlib.Core.Path.{◌≡◌, refl, sym, ap, subst, ◌∙◌}
use mathlib.Core.Bool.{Bool, true, false}
use mathlib.Core.List.{List}
use mathlib.Core.Logic.{inl, inr, ⊎_elim, ◌≢◌}
use native.Mathlib.Omega.{arith}
use borrow.Author.Tests.{eq-eqb, ne_eqb, eqb-true, eqb-false}
use lib.Dec.{eqb}
use lib.ListN.{length, take, drop, get_or, drop_of_length-le}
use lib.Seq.{drop-cons}
use Rattle.basics.specs.Decides.{Decides}
use Rattle.basics.specs.Pick.{pick}
use Rattle.store.specs.Table.{row_at, deps_in, dep_sum}
use Rattle.store.proofs.Facts.{sum_here}
use Rattle.store.specs.declared.Row.{Row}
use Rattle.packing.proofs.Before.{falling_less, starts_less, before_earlier}
use Rattle.store.specs.Limits.{row_limit}
use Rattle.packing.specs.Before.{Step, HappenedBefore, Within}
use Rattle.packing.specs.Marks.{Falling, Starts, Blank, Closed, Marking}
use Rattle.catalogue.specs.Steady.{InLog, SameOrBefore}
use Rattle.catalogue.specs.Nearest.{dep_by, Nearest, MayLook}
use Rattle.catalogue.proofs.Logs.{same_or_before_then, in_log_some, in_log_earlier, in_log_split}

-- Where the dependencies of a row begin and end in the part.
pub list_places : (rows deps starts : List ℕ) (row : ℕ) → 1 ≤ row → MayLook rows deps starts row
    → (row < length starts) × ((get_or starts (row - 1) 0 ≤ get_or starts row 0) × (get_or starts row 0 ≤ length deps))
list_places rows deps starts row h m =
    let s = m.begins in
    let a : get_or starts (row - 1) 0 ≡ dep_sum rows (row - 1) = s.right (row - 1) (omega arith) in
    let b : get_or starts row 0 ≡ dep_sum rows row = s.right row (omega arith) in
    let e = sum_here rows row h in
    let l = m.orderly.falling.list_held row (omega arith) in
    (s.held, (omega arith, omega arith))

-- The part from there to there is the row's list.
pub list_is : (rows deps starts : List ℕ) (row : ℕ) → 1 ≤ row → Starts rows starts row
    → take (get_or starts row 0 - get_or starts (row - 1) 0) (drop (get_or starts (row - 1) 0) deps) ≡ deps_in rows deps row
list_is rows deps starts row h s =
    let a : get_or starts (row - 1) 0 ≡ dep_sum rows (row - 1) = s.right (row - 1) (omega arith) in
    let b : get_or starts row 0 ≡ dep_sum rows row = s.right row (omega arith) in
    let e = sum_here rows row h in
    let n : get_or starts row 0 - get_or starts (row - 1) 0 ≡ (row_at rows row).deps = omega arith in
    rw (n, a)

-- The dependency at a place is of the author,
pub dep_found : (rows : List ℕ) (a : ℕ) (l : List ℕ) (k v : ℕ) (row : Row) → k < length l → dep_by rows a l ≡ dep_by rows a (drop k l) → v ≡ get_or l k 0
    → row ≡ row_at rows v → row.author ≡ a → v ≡ dep_by rows a l
unfolding dep_by
dep_found rows a l k v row h e f g i =
    let t : eqb (row_at rows (get_or l k 0)).author a ≡ true = eq-eqb _ _
    (ap (λ (x : ℕ). (row_at rows x).author) (sym f) ∙ ap (λ (r : Row). r.author) (sym g) ∙ i) in
    f ∙ ap (λ (b : Bool). pick b (get_or l k 0) (dep_by rows a (drop (suc k) l))) (sym t) ∙ sym (ap (dep_by rows a) (drop-cons l k 0 h)) ∙ sym e

-- or is passed over,
pub dep_passed : (rows : List ℕ) (a : ℕ) (l : List ℕ) (k v : ℕ) (row : Row) → k < length l → dep_by rows a l ≡ dep_by rows a (drop k l) → v ≡ get_or l k 0
    → row ≡ row_at rows v → row.author ≢ a → dep_by rows a l ≡ dep_by rows a (drop (k + 1) l)
unfolding dep_by
dep_passed rows a l k v row h e f g i =
    let t : eqb (row_at rows (get_or l k 0)).author a ≡ false =
    ne_eqb _ _ (λ z. i (ap (λ (r : Row). r.author) g ∙ ap (λ (x : ℕ). (row_at rows x).author) f ∙ z)) in
    let s : suc k ≡ k + 1 = omega arith in
    e ∙ ap (dep_by rows a) (drop-cons l k 0 h) ∙ ap (λ (b : Bool). pick b (get_or l k 0) (dep_by rows a (drop (suc k) l))) t ∙ ap
    (λ (n : ℕ). dep_by rows a (drop n l)) s

-- and behind the last there is none.
pub dep_none : (rows : List ℕ) (a : ℕ) (l : List ℕ) (k : ℕ) → length l ≤ k → dep_by rows a l ≡ dep_by rows a (drop k l) → 0 ≡ dep_by rows a l
unfolding dep_by
dep_none rows a l k h e = sym (e ∙ ap (dep_by rows a) (drop_of_length-le l {i = k} h))

-- The log of the row, and of the place that the climb has come to, have the earlier row together.
abbrev pub Climbed : List ℕ → ℕ → ℕ → ℕ → Type 0
Climbed rows p row at = (at ≤ row) × ((InLog rows p at → InLog rows p row) × (InLog rows p row → InLog rows p at))

-- Before the first link.
pub climb_first : (rows : List ℕ) (p row : ℕ) → Climbed rows p row row
climb_first rows p row = (omega arith, (λ g. g, λ g. g))

-- One link more.
pub climb_more : (rows deps : List ℕ) (p row at : ℕ) (this : Row) → Falling rows deps row → p < at → Climbed rows p row at → this ≡ row_at rows at
    → (this.prev < at) × Climbed rows p row this.prev
climb_more rows deps p row at this f h i e =
    let z : this.prev ≡ (row_at rows at).prev = ap (λ (r : Row). r.prev) e in
    let l : (row_at rows at).prev < at = f.link_earlier at i.0 (omega arith) in
    let b : at ≤ row = i.0 in (
      omega arith,
      (
        omega arith,
        (
          λ g. i.1.0 (InLog.behind at (subst (InLog rows p) z g)),
          λ g. ⊎_elim (λ (q : p ≡ at). absurd (omega arith)) (λ k. subst (InLog rows p) (sym z) k) (in_log_split (i.1.1 g)),
        ),
      ),
    )

-- Where it ends at the earlier row, that is in the log; where it ends before it, it is not.
pub climb_decides : (rows deps : List ℕ) (p row at : ℕ) → Falling rows deps row → 1 ≤ p → at ≤ p → Climbed rows p row at → Decides (InLog rows p row) (eqb at p)
climb_decides rows deps p row at f h l i =
    record {
      yes = λ e. i.1.0 (subst (InLog rows p) (sym (eqb-true at p e)) (InLog.here h));
      no = λ e g.
          let n : at ≢ p = eqb-false at p e in
          let b : at ≤ row = i.0 in
          let k : p ≤ at = in_log_earlier f b (i.1.1 g) in
          n (omega arith);
    }

-- What is in the log of a row is the row, or happened before it.
pub log_before : {rows deps : List ℕ} {n p x : ℕ} → Falling rows deps n → x ≤ n → InLog rows p x → SameOrBefore rows deps p x
log_before f h (InLog.here k) = inl refl
log_before {rows} {deps} {n} {p} f h (InLog.behind zero g) = absurd (omega (arith, in_log_some g, in_log_earlier f h (InLog.behind zero g)))
log_before {rows} {deps} {n} {p} f h (InLog.behind (suc x) g) =
    let l : (row_at rows (suc x)).prev < suc x = f.link_earlier (suc x) h (omega arith) in
    let s = in_log_some g in
    let b = in_log_earlier f (omega arith) g in
    same_or_before_then (log_before f (omega arith) g) (inr (HappenedBefore.one (Step.by_link (omega arith) refl)))

-- One row further back.
pub nearest_more : (rows deps starts : List ℕ) (a row at : ℕ) (this : Row) → MayLook rows deps starts row → 1 ≤ at → at ≤ row
    → ((q : ℕ) → Nearest rows deps a at q → Nearest rows deps a row q) → dep_by rows a (deps_in rows deps at) ≡ 0 → this ≡ row_at rows at
    → (this.prev < at) × ((this.prev ≤ row) × ((q : ℕ) → Nearest rows deps a this.prev q → Nearest rows deps a row q))
nearest_more rows deps starts a row at this m h b i z e =
    let p : this.prev ≡ (row_at rows at).prev = ap (λ (r : Row). r.prev) e in
    let l : (row_at rows at).prev < at = m.orderly.falling.link_earlier at b h in
    (omega arith, (omega arith, λ q n. i q (Nearest.further at q h z (subst (λ (x : ℕ). Nearest rows deps a x q) p n))))

-- What may be looked back from a row may be from an earlier one.
pub look_less : {rows deps starts : List ℕ} {n m : ℕ} → MayLook rows deps starts n → m ≤ n → MayLook rows deps starts m
look_less {n = n} {m = m} l h =
    let k : n ≤ row_limit = l.limit in
    record {
      orderly = record {
        falling = falling_less l.orderly.falling h;
        some = λ y d i. l.orderly.some y d
            (omega arith);
        single = λ y c d i. l.orderly.single y c d (omega arith);
      };
      begins = starts_less l.begins h;
      limit = omega arith;
    }

-- A later row is neither the same nor before.
pub later_not : (rows deps : List ℕ) (d e : ℕ) → Falling rows deps e → e < d → SameOrBefore rows deps d e → ⊥
later_not rows deps d e f h (inl z) = omega arith
later_not rows deps d e f h (inr b) = omega (arith, before_earlier f (omega arith) b)

-- Where nothing is marked, what is marked is closed.
pub blank_closed : (rows deps marks : List ℕ) → Blank marks → Closed rows deps marks
blank_closed rows deps marks b = record { back = λ x y h m. absurd (b.none y m) }

-- A walk from a row with nothing marked decides what is the row or before it.
pub walk_decides : (rows deps before after : List ℕ) (d e : ℕ) → 1 ≤ d → d ≤ e → Blank before → Marking before after (Within rows deps e)
    → Decides (SameOrBefore rows deps d e) (eqb (get_or after d 0) 1)
walk_decides rows deps before after d e h k b m =
    record {
      yes = λ t. ⊎_elim (λ x. absurd (b.none d x)) (⊎_elim (λ w. inl w.1) inr) (m.only d (eqb-true _ _ t));
      no = λ t s. eqb-false _ _ t (m.added d (⊎_elim (λ z. inl (omega arith, z)) inr s));
    }

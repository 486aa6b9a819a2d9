-- The rows of a well_formed store may be looked through; and what looking through them says of the store.
-- Assumes nothing.
use Rattle.std.specs.Prelude.{Ok}
use Prim.Native.Nat.{ℕ, zero, suc, ◌≤◌, ◌<◌}
use mathlib.Core.Path.{◌≡◌, sym, ap, ◌∙◌}
use mathlib.Core.Bool.{Bool, true}
use mathlib.Core.List.{List, Memᴰ}
use mathlib.Core.Logic.{◌≢◌}
use native.Mathlib.Omega.{arith}
use borrow.Author.Tests.{eqb-true, eqb-false}
use lib.Dec.{eqb}
use lib.ListN.{get_or}
use Rattle.basics.specs.Decides.{Decides}
use Rattle.basics.proofs.Members.{place_of}
use Rattle.basics.proofs.Tests.{by_ltb}
use Rattle.store.specs.Table.{Table, WellFormed, row_at, deps_of, one_per_author}
use Rattle.store.specs.declared.Row.{Row}
use Rattle.store.proofs.Depends.{one_at, depends_one}
use Rattle.packing.specs.Before.{Step}
use Rattle.packing.proofs.Before.{no_step, step_earlier}
use Rattle.packing.proofs.Stored.{well_formed_falls}
use Rattle.catalogue.specs.Steady.{InLog, KeepsFrom, BreaksFrom, KeepUpTo}
use Rattle.catalogue.specs.Nearest.{Latest, Orderly, MayLook, Steps, steady, stepped_back}
use Rattle.catalogue.specs.Calls.{MaySearch, TellsSteady, told, NamesBackstep, named}
use Rattle.catalogue.specs.declared.deciding.Backstep.{Backstep}
use Rattle.catalogue.proofs.Logs.{in_log_earlier}

-- Two of a list that has one row an author at most are one where their authors are.
one_of : (rows l : List ℕ) → one_per_author rows l ≡ true → (c d : ℕ) → Memᴰ c l → Memᴰ d l → (row_at rows c).author ≡ (row_at rows d).author → c ≡ d
one_of rows l e c d m k f =
    let p = place_of m in
    let q = place_of k in
    let a : (row_at rows (get_or l q.at 0)).author ≡ (row_at rows (get_or l p.at 0)).author =
    ap (λ (x : ℕ). (row_at rows x).author) (sym q.here) ∙ sym f ∙ ap (λ (x : ℕ). (row_at rows x).author) p.here in
    by_ltb (λ (b : Bool). c ≡ d) p.at q.at (λ h. absurd (one_at rows l e p.at q.at h q.inside a))
    (λ h. by_ltb (λ (b : Bool). c ≡ d) q.at p.at (λ g. absurd (one_at rows l e q.at p.at g p.inside (sym a)))
    (λ g. let z : p.at ≡ q.at = omega arith in p.here ∙ ap (λ (i : ℕ). get_or l i 0) z ∙ sym q.here))

-- The rows of a well_formed store are orderly.
pub well_formed_orderly : (t : Table) → WellFormed t → Orderly t.rows t.deps t.counts.rows
well_formed_orderly t w =
    record {
      falling = well_formed_falls t w;
      some = λ y d h m. (step_earlier (well_formed_falls t w) h (Step.by_list m)).0;
      single = single;
    }
  where
    single : (y c d : ℕ) → y ≤ t.counts.rows → Memᴰ c (deps_of t y) → Memᴰ d (deps_of t y)
        → (row_at t.rows c).author ≡ (row_at t.rows d).author → c ≡ d
    single zero c d h m k f = absurd (no_step {rows = t.rows} {deps = t.deps} (Step.by_list m))
    single (suc y) c d h m k f =
        one_of t.rows (deps_of t (suc y)) (depends_one t.rows (suc y) (deps_of t (suc y)) (w.rows_depend (suc y) h (omega arith))) c d m k f

-- So they may be looked through.
pub may_search : (t : Table) → WellFormed t → MaySearch t.rows t.deps t.counts.rows
may_search t w = record { orderly = well_formed_orderly t w; limit = w.rows_limit }

-- A row that M7 is broken against is not above the rows looked through.
pub break_within : (rows deps starts : List ℕ) (n r q : ℕ) (this : Row) (l : List ℕ) → MayLook rows deps starts n → 1 ≤ r → r ≤ n → this ≡ row_at rows r
    → Latest rows deps this.prev l q → q ≢ 0 → q ≤ n
break_within rows deps starts n r q this l m h b e k z =
    let p : this.prev ≡ (row_at rows r).prev = ap (λ (y : Row). y.prev) e in
    let o : (row_at rows r).prev < r = m.orderly.falling.link_earlier r b h in
    let i : InLog rows q this.prev = (k.broken (omega (arith, z))).compared.earlier in
    let y : q ≤ this.prev = in_log_earlier m.orderly.falling (omega arith) i in
    omega arith

-- The same two rows, as numbers of two bytes.
pub steps_same : (rows deps : List ℕ) (n r q r' q' : ℕ) → Steps rows deps n r q → r' ≡ r → q' ≡ q → Steps rows deps n r' q'
steps_same rows deps n r q r' q' s e f = rw (e, f) s

-- No row to break M7 against: the message keeps it, and only then.
pub latest_decides : (rows deps : List ℕ) (x : ℕ) (ds : List ℕ) (q : ℕ) → Latest rows deps x ds q → Decides (KeepsFrom rows deps x ds) (eqb q 0)
latest_decides rows deps x ds q l =
    record {
      yes = λ e. l.kept (eqb-true q 0 e);
      no = λ e k.
          let z : q ≢ 0 = eqb-false q 0 e in
          let b : BreaksFrom rows deps x ds q = l.broken (omega (arith, z)) in
          b.apart (k q b.d b.e b.compared);
    }

-- No lowest row: the rows keep M7,
pub steps_kept : (rows deps : List ℕ) (n r p : ℕ) → Steps rows deps n r p → r ≡ 0 → KeepUpTo rows deps n
steps_kept rows deps n r p (steady k e f) z = k
steps_kept rows deps n r p (stepped_back l) z = let s : 1 ≤ r = l.some in absurd (omega arith)

-- and some: they break it.
pub steps_broken : (rows deps : List ℕ) (n r p : ℕ) → Steps rows deps n r p → r ≢ 0 → KeepUpTo rows deps n → ⊥
steps_broken rows deps n r p (steady k e f) z y = z e
steps_broken rows deps n r p (stepped_back l) z y =
    let b = l.breaks in
    b.apart (y r l.held l.some p b.d b.e b.compared)

-- Whether there is one decides.
pub steps_decide : (rows deps : List ℕ) (n r p : ℕ) → Steps rows deps n r p → Decides (KeepUpTo rows deps n) (eqb r 0)
steps_decide rows deps n r p s =
    record { yes = λ e. steps_kept rows deps n r p s (eqb-true r 0 e); no = λ e. steps_broken rows deps n r p s (eqb-false r 0 e) }

-- So does the row that is named: the store is steady where it is 0, and only then.
pub named_tells : (t : Table) (b : Backstep) → NamesBackstep t (Ok b) → TellsSteady t (Ok (eqb b.row 0))
named_tells t b (NamesBackstep.damaged_store n e) = let z : ◌≡◌ {A = ℕ} 0 1 = cc in absurd (omega arith)
named_tells t b (named w r p s e) =
    let z : b ≡ record { row = r; earlier = p } = cc in
    told w (eqb r 0) (steps_decide t.rows t.deps t.counts.rows r p s) (ap (λ (y : Backstep). Ok (eqb y.row 0)) z)

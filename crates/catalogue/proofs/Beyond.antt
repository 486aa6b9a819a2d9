-- "Entries beyond the counts are never read": over two tables that agree within the counts the two calls on a store keep their promises with
-- the same answers, so their answers are the same.
-- Assumes nothing.
use Rattle.catalogue.specs.declared.deciding.Backstep.{Backstep}
use Rattle.std.specs.Prelude.{Bool, Result}
use Rattle.answers.specs.declared.Refusal.{Refusal}
use Prim.Native.Nat.{ℕ, ◌≤◌}
use mathlib.Core.Path.{◌≡◌, sym, ap, subst}
use mathlib.Core.List.{List}
use mathlib.Core.Logic.{◌↔◌}
use native.Mathlib.Omega.{arith}
use Rattle.basics.proofs.Decisions.{decides_same}
use Rattle.store.specs.Agree.{Agree}
use Rattle.store.specs.Table.{Table, WellFormed, row_at, deps_of}
use Rattle.store.specs.declared.lent.Counts.{Counts}
use Rattle.store.proofs.Agreeing.{agree_deps, well_formed_together, agree_back}
use Rattle.catalogue.specs.Steady.{Compared, Breaks, KeepsM7}
use Rattle.catalogue.specs.Nearest.{Steps, steady, stepped_back}
use Rattle.catalogue.specs.Calls.{TellsSteady, told, NamesBackstep, named}
use Rattle.catalogue.proofs.Growing.{prev_within, prev_same, still_before, compared_back, row_within, row_keeps}
use Rattle.catalogue.proofs.Unique.{one_steady, one_backstep}

module _ (t u : Table) (g : Agree t u) (w : WellFormed t) where
  -- There are as many rows there.
  same_many : t.counts.rows ≡ u.counts.rows
  same_many = ap (λ (c : Counts). c.rows) g.same_counts

  -- The other table is well formed, too.
  there : WellFormed u
  there = well_formed_together t u g w

  -- A store that keeps M7 keeps it there.
  keeps_there : KeepsM7 t → KeepsM7 u
  keeps_there k r h i = let e = same_many in row_keeps t u w g.within r (omega arith) i (k r (omega arith) i)

  -- A row that breaks M7 against another breaks it there.
  breaks_there : (r p : ℕ) → r ≤ t.counts.rows → 1 ≤ r → Breaks t.rows t.deps r p → Breaks u.rows u.deps r p
  breaks_there r p h i b =
      let n = same_many in
      let back = agree_back t u g in
      let x : (row_at u.rows r).prev ≡ (row_at t.rows r).prev = sym (prev_same t u w g.within r h) in
      let l : deps_of u r ≡ deps_of t r = sym (agree_deps t u w g.within r h i) in
      let c : Compared t.rows t.deps (row_at u.rows r).prev (deps_of u r) p b.d b.e =
      subst (λ (y : ℕ). Compared t.rows t.deps y (deps_of u r) p b.d b.e) (sym x)
      (subst (λ (y : List ℕ). Compared t.rows t.deps (row_at t.rows r).prev y p b.d b.e) (sym l) b.compared) in
      let k = compared_back u t there back.within (row_at u.rows r).prev (deps_of u r) (prev_within u t there back.within r (omega arith))
      (row_within u t there back.within r (omega arith)) p b.d b.e c in
      record {
        d = b.d;
        e = b.e;
        compared = k.0;
        apart = λ s. b.apart (still_before u t there back.within b.d b.e k.1 s);
      }

-- What looking through the rows finds, it finds there.
steps_there : (t u : Table) → Agree t u → WellFormed t → (r p : ℕ) → Steps t.rows t.deps t.counts.rows r p
    → Steps u.rows u.deps u.counts.rows r p
steps_there t u g w r p (steady k e f) = steady (keeps_there t u g w k) e f
steps_there t u g w r p (stepped_back l) =
    let n = same_many t u g w in
    let h : r ≤ t.counts.rows = l.held in
    stepped_back
    (record {
      some = l.some;
      held = omega arith;
      breaks = breaks_there t u g w r p h l.some l.breaks;
      lowest = λ k i j. row_keeps t u w g.within k (omega arith) j (l.lowest k i j);
      latest = λ q b. l.latest q (breaks_there u t (agree_back t u g) (there t u g w) r q (omega arith) l.some b);
    })

-- What each call promises over a table, it promises over the other.
tells_there : (t u : Table) → Agree t u → (c : Result Bool Refusal) → TellsSteady t c → TellsSteady u c
tells_there t u g c (TellsSteady.damaged_store n e) = TellsSteady.damaged_store (λ w. n (well_formed_together u t (agree_back t u g) w)) e
tells_there t u g c (told w b d e) =
    told (there t u g w) b (decides_same (keeps_there t u g w) (keeps_there u t (agree_back t u g) (there t u g w)) d) e

names_there : (t u : Table) → Agree t u → (a : Result Backstep Refusal) → NamesBackstep t a → NamesBackstep u a
names_there t u g a (NamesBackstep.damaged_store n e) = NamesBackstep.damaged_store (λ w. n (well_formed_together u t (agree_back t u g) w)) e
names_there t u g a (named w r p s e) = named (there t u g w) r p (steps_there t u g w r p s) e

-- So over tables that agree within the counts each call promises the same,
pub steady_beyond : (t u : Table) → Agree t u → (c : Result Bool Refusal) → TellsSteady t c ↔ TellsSteady u c
steady_beyond t u g c = (tells_there t u g c, tells_there u t (agree_back t u g) c)

pub backstep_beyond : (t u : Table) → Agree t u → (a : Result Backstep Refusal) → NamesBackstep t a ↔ NamesBackstep u a
backstep_beyond t u g a = (names_there t u g a, names_there u t (agree_back t u g) a)

-- and answers the same.
pub same_steady : (t u : Table) → Agree t u → (c d : Result Bool Refusal) → TellsSteady t c → TellsSteady u d → c ≡ d
same_steady t u g c d p q = one_steady u c d (tells_there t u g c p) q

pub same_backstep : (t u : Table) → Agree t u → (a b : Result Backstep Refusal) → NamesBackstep t a → NamesBackstep u b → a ≡ b
same_backstep t u g a b p q = one_backstep u a b (names_there t u g a p) q

-- A store with one row more keeps M7 where the old one does and the row does: every old row is what it was.
-- Assumes nothing.
use Prim.Native.Nat.{ℕ, zero, suc, ◌+◌, ◌≤◌, ◌<◌}
use mathlib.Core.Path.{◌≡◌, sym, ap, subst, ◌∙◌}
use mathlib.Core.List.{List, Memᴰ}
use mathlib.Core.Logic.{inl, inr, ⊎_elim}
use native.Mathlib.Omega.{arith}
use native.Mathlib.Nat.{eq-or-lt_of_le}
use lib.ListN.{length, get_or}
use Rattle.basics.proofs.Members.{Place, place_of, held_at}
use Rattle.store.specs.Agree.{SameWithin}
use Rattle.store.specs.Table.{Table, WellFormed, row_at, deps_of}
use Rattle.store.specs.declared.Row.{Row}
use Rattle.store.proofs.Agreeing.{agree_rows, agree_deps}
use Rattle.store.proofs.Facts.{prev_older}
use Rattle.store.proofs.Validity.{none_prev}
use Rattle.packing.specs.Before.{Step}
use Rattle.packing.proofs.Before.{step_earlier}
use Rattle.packing.proofs.Beyond.{before_there}
use Rattle.packing.proofs.Stored.{well_formed_falls}
use Rattle.catalogue.specs.Steady.{InLog, SameOrBefore, Compared, KeepsFrom, KeepsAt, KeepsM7}
use Rattle.catalogue.proofs.Logs.{in_log_some, in_log_earlier}

module _ (t u : Table) (w : WellFormed t) (same : SameWithin t u t.counts.rows t.counts.authors t.counts.deps) where
  -- The previous row of a row of the store is one of the store, or none.
  pub prev_within : (x : ℕ) → x ≤ t.counts.rows → (row_at t.rows x).prev ≤ t.counts.rows
  prev_within zero h = omega (arith, none_prev t)
  prev_within (suc x) h = omega (arith, prev_older t w (suc x) h (omega arith))

  -- Old rows have the same previous row.
  pub prev_same : (x : ℕ) → x ≤ t.counts.rows → (row_at t.rows x).prev ≡ (row_at u.rows x).prev
  prev_same x h = ap (λ (r : Row). r.prev) (agree_rows t u w same x h)

  -- The log of an old row is the old one.
  log_back : {p x : ℕ} → InLog u.rows p x → x ≤ t.counts.rows → InLog t.rows p x
  log_back (InLog.here h) k = InLog.here h
  log_back {p} (InLog.behind x g) k =
      InLog.behind x (subst (InLog t.rows p) (sym (prev_same x k)) (log_back g (subst (λ (y : ℕ). y ≤ t.counts.rows) (prev_same x k) (prev_within x k))))

  -- What is the same or before is so still.
  pub still_before : (d e : ℕ) → e ≤ t.counts.rows → SameOrBefore t.rows t.deps d e → SameOrBefore u.rows u.deps d e
  still_before d e h (inl z) = inl z
  still_before d e h (inr b) = inr (before_there t u same w b h)

  -- What is compared for a message on an old row that depends on old rows was compared before.
  pub compared_back : (x : ℕ) (ds : List ℕ) → x ≤ t.counts.rows → ((k : ℕ) → k < length ds → get_or ds k 0 ≤ t.counts.rows) → (p d e : ℕ)
      → Compared u.rows u.deps x ds p d e → Compared t.rows t.deps x ds p d e × (e ≤ t.counts.rows)
  compared_back x ds h b p d e c =
      let g : InLog t.rows p x = log_back c.earlier h in
      let l : p ≤ x = in_log_earlier (well_formed_falls t w) h g in
      let f : deps_of t p ≡ deps_of u p = agree_deps t u w same p (omega arith) (in_log_some g) in
      let m : Memᴰ d (deps_of t p) = subst (Memᴰ d) (sym f) c.of_earlier in
      let i : d < p = (step_earlier (well_formed_falls t w) (omega arith) (Step.by_list m)).1 in
      let at : Place ds e = place_of c.of_later in
      let j : e ≤ t.counts.rows = subst (λ (y : ℕ). y ≤ t.counts.rows) (sym at.here) (b at.at at.inside) in (
        record {
          earlier = g;
          of_earlier = m;
          of_later = c.of_later;
          one_author = ap (λ (r : Row). r.author) (agree_rows t u w same d (omega arith)) ∙ c.one_author
              ∙ sym (ap (λ (r : Row). r.author) (agree_rows t u w same e j));
        },
        j,
      )

  -- So the message keeps M7 as it did.
  still_keeps : (x : ℕ) (ds : List ℕ) → x ≤ t.counts.rows → ((k : ℕ) → k < length ds → get_or ds k 0 ≤ t.counts.rows)
      → KeepsFrom t.rows t.deps x ds → KeepsFrom u.rows u.deps x ds
  still_keeps x ds h b keep p d e c = let k = compared_back x ds h b p d e c in still_before d e k.1 (keep p d e k.0)

  -- The dependencies of a row of the store are rows of it.
  pub row_within : (r : ℕ) → r ≤ t.counts.rows → (i : ℕ) → i < length (deps_of t r) → get_or (deps_of t r) i 0 ≤ t.counts.rows
  row_within r h i l = let a = (step_earlier (well_formed_falls t w) h (Step.by_list (held_at (deps_of t r) i l))).1 in omega arith

  -- Every old row keeps M7 as it did.
  pub row_keeps : (r : ℕ) → r ≤ t.counts.rows → 1 ≤ r → KeepsAt t.rows t.deps r → KeepsAt u.rows u.deps r
  row_keeps r h k keep =
      subst (λ (x : ℕ). KeepsFrom u.rows u.deps x (deps_of u r)) (prev_same r h)
      (subst (KeepsFrom u.rows u.deps (row_at t.rows r).prev) (agree_deps t u w same r h k)
      (still_keeps (row_at t.rows r).prev (deps_of t r) (prev_within r h) (row_within r h) keep))

  -- So the store with one row more keeps M7.
  pub grown_keeps : (row : Row) (ds : List ℕ) → row_at u.rows (t.counts.rows + 1) ≡ row → deps_of u (t.counts.rows + 1) ≡ ds
      → u.counts.rows ≡ t.counts.rows + 1 → row.prev ≤ t.counts.rows → ((k : ℕ) → k < length ds → get_or ds k 0 ≤ t.counts.rows)
      → KeepsM7 t → KeepsFrom t.rows t.deps row.prev ds → KeepsM7 u
  grown_keeps row ds e f n low b keep new r h k =
      ⊎_elim
      (λ (q : r ≡ t.counts.rows + 1). subst (KeepsAt u.rows u.deps) (sym q)
      (subst (λ (x : Row). KeepsFrom u.rows u.deps x.prev (deps_of u (t.counts.rows + 1))) (sym e)
      (subst (KeepsFrom u.rows u.deps row.prev) (sym f) (still_keeps row.prev ds low b new))))
      (λ (q : r < t.counts.rows + 1). row_keeps r (omega arith) k (keep r (omega arith) k)) (eq-or-lt_of_le (omega arith))

-- M7 of a message that the rules 6 to 15 let through, by the rows that it names.
-- Assumes nothing.
use Prim.Native.Nat.{ℕ, ◌≤◌, ◌<◌}
use mathlib.Core.Path.{◌≡◌, refl, sym, ap, subst, ◌∙◌}
use mathlib.Core.Bool.{Bool}
use mathlib.Core.List.{List, Memᴰ}
use native.Mathlib.Omega.{arith}
use lib.ListN.{length, take, get_or}
use Rattle.std.specs.Prelude.{Result, Ok, Err}
use Rattle.basics.specs.Decides.{Decides}
use Rattle.basics.proofs.Decisions.{decides_same}
use Rattle.basics.proofs.Members.{Place, place_of, held_at}
use Rattle.basics.proofs.Tests.{by_eqb, not_both_ways}
use Rattle.item.specs.Layout.{previous_of, dependency_of}
use Rattle.item.specs.declared.Fields.{Fields}
use Rattle.store.specs.Table.{Table, WellFormed, key_at, author_of, deps_of}
use Rattle.store.specs.declared.Row.{Row}
use Rattle.store.proofs.Facts.{author_held, same_key_lem}
use Rattle.judging.specs.Message.{row_with, dep_rows}
use Rattle.judging.specs.Named.{Names}
use Rattle.judging.specs.Verdict.{rules_of}
use Rattle.judging.specs.declared.Verdict.TheVariants.{Fits}
use Rattle.judging.proofs.Named.{named_length, named_at, each_found, names_rows}
use Rattle.judging.proofs.Passing.{Follows, starts, steps, rules_follow}
use Rattle.admission.specs.Paper.{Has, NoPrevious}
use Rattle.admission.proofs.Accepting.{has_found, found_has}
use Rattle.packing.specs.Before.{Step}
use Rattle.packing.proofs.Before.{step_earlier}
use Rattle.packing.proofs.Stored.{well_formed_falls}
use Rattle.catalogue.specs.Steady.{InLog, KeepsFrom}
use Rattle.catalogue.specs.Calls.{MayAsk}
use Rattle.catalogue.specs.Profile.{M7, MayProfile}
use Rattle.catalogue.proofs.Logs.{in_log_some, in_log_earlier}
use Rattle.catalogue.proofs.Stored.{may_search}

-- The rows that a message names: its previous row, and those that it depends on.
pub record NamedRows (t : Table) (s : List ℕ) (f : Fields) (x : ℕ) (ds : List ℕ) : Type 0 where
  pub on_none : NoPrevious f → x ≡ 0
  pub on_named : (NoPrevious f → ⊥) → Has t (previous_of s) x
  pub number : length ds ≡ f.count
  pub named : (k : ℕ) → k < f.count → Has t (dependency_of f k s) (get_or ds k 0)

module _ (t : Table) (w : WellFormed t) (s : List ℕ) (f : Fields) (x : ℕ) (ds : List ℕ) (n : NamedRows t s f x ds) where
  -- The previous row is a row of the store, or none,
  pub prev_within : x ≤ t.counts.rows
  prev_within = by_eqb (λ (b : Bool). x ≤ t.counts.rows) f.index 1 (λ e. omega (arith, n.on_none e)) (λ e. (n.on_named e).message.held)

  -- and so are those that it depends on.
  pub deps_within : (k : ℕ) → k < length ds → get_or ds k 0 ≤ t.counts.rows
  deps_within k h = (n.named k (omega (arith, n.number))).message.held

  -- A dependency of a row of the log is a row of the store.
  dependency_held : (p d : ℕ) → InLog t.rows p x → Memᴰ d (deps_of t p) → (1 ≤ d) × (d ≤ t.counts.rows)
  dependency_held p d g m =
      let b = prev_within in
      let l = in_log_earlier (well_formed_falls t w) b g in
      let e = step_earlier (well_formed_falls t w) (omega arith) (Step.by_list m) in
      let k = e.1 in
      (e.0, omega arith)

  -- What is said of the rows is said of the ids and keys,
  pub m7_of : KeepsFrom t.rows t.deps x ds → M7 t s f
  m7_of keep some r has p g d m k l e dep same =
      let z : x ≡ r = sym (found_has t w (previous_of s) x (n.on_named some)) ∙ found_has t w (previous_of s) r has in
      let i : InLog t.rows p x = subst (InLog t.rows p) (sym z) g in
      let a = dependency_held p d i m in
      let b = author_held t w d a.1 a.0 in
      let c = author_held t w e dep.message.held dep.message.some in
      let q : get_or ds k 0 ≡ e = sym (found_has t w (dependency_of f k s) (get_or ds k 0) (n.named k l)) ∙ found_has t w (dependency_of f k s) e dep in
      keep p d e
      (record {
        earlier = i;
        of_earlier = m;
        of_later = subst (λ (y : ℕ). Memᴰ y ds) q (held_at ds k (omega (arith, n.number)));
        one_author = same_key_lem t w (author_of t d) (author_of t e) b.0 b.1 c.0 c.1 same;
      })

  -- A message without a previous one has no log.
  follows : (p : ℕ) → InLog t.rows p x → NoPrevious f → ⊥
  follows p g i =
      let a = in_log_some g in
      let b = in_log_earlier (well_formed_falls t w) prev_within g in
      omega (arith, n.on_none i)

  -- and back.
  pub m7_from : M7 t s f → KeepsFrom t.rows t.deps x ds
  m7_from m p d e c =
      let at : Place ds e = place_of c.of_later in
      let h : at.at < f.count = omega (arith, at.inside, n.number) in
      let some : NoPrevious f → ⊥ = follows p c.earlier in
      m some x (n.on_named some) p c.earlier d c.of_earlier at.at h e
      (subst (Has t (dependency_of f at.at s)) (sym at.here) (n.named at.at h)) (ap (key_at t) c.one_author)

module _ (t : Table) (w : WellFormed t) (s : List ℕ) (f : Fields) where
  -- A message that follows names its previous row.
  prev_named : (p : ℕ) → Follows t s f p → (NoPrevious f → p ≡ 0) × ((NoPrevious f → ⊥) → Has t (previous_of s) p)
  prev_named p (starts i z) = (λ e. refl, λ k. absurd (k i))
  prev_named p (steps h g z o i) = (
    λ (e : f.index ≡ 1). absurd (omega arith),
    λ k. subst (Has t (previous_of s)) g (has_found t w (previous_of s) (λ (e : row_with t (previous_of s) ≡ 0). z (sym g ∙ e))),
  )

  -- What the rules 6 to 15 let through names its rows.
  pub through_named : (row : Row) → rules_of t s f ≡ Fits row → NamedRows t s f row.prev (dep_rows t s f)
  through_named row e =
      let c = rules_follow t s f row e in
      let p = prev_named row.prev (subst (Follows t s f) (sym (ap (λ (r : Row). r.prev) c.0.is)) c.0.follows) in
      record {
        on_none = p.0;
        on_named = p.1;
        number = named_length t.ids t.counts.rows s f f.count;
        named = λ k h.
            subst (Has t (dependency_of f k s)) (sym (named_at t.ids t.counts.rows s f f.count k h))
            (has_found t w (dependency_of f k s) (each_found t.ids t.counts.rows s f f.count k c.1 h));
      }

module _ (t : Table) (s : List ℕ) (f : Fields) (may : MayProfile t s f) (row : Row) (e : rules_of t s f ≡ Fits row)
    (r : Result (List ℕ) (List ℕ)) (h : Names t.ids t.counts.rows s f r) where
  -- The message names no row that is missing.
  pub none_missing : (ds : List ℕ) → r ≡ Err ds → ⊥
  none_missing ds q = not_both_ways _ (h.missing ds q) (rules_follow t s f row e).1

  -- The message names its rows.
  its_rows : NamedRows t s f row.prev (dep_rows t s f)
  its_rows = through_named t may.store s f row e

  -- Its M7 may be asked for,
  pub may_ask : (ds : List ℕ) → r ≡ Ok ds → MayAsk t.rows t.deps t.counts.rows row.prev (take f.count ds)
  may_ask ds q =
      subst (MayAsk t.rows t.deps t.counts.rows row.prev) (sym (names_rows t.ids t.counts.rows s f r h ds q))
      (record {
        search = may_search t may.store;
        low = prev_within t may.store s f row.prev (dep_rows t s f) its_rows;
        named = deps_within t may.store s f row.prev (dep_rows t s f) its_rows;
        keep = may.keeps;
      })

  -- and the answer decides it.
  pub asked : (ds : List ℕ) → r ≡ Ok ds → (b : Bool) → Decides (KeepsFrom t.rows t.deps row.prev (take f.count ds)) b → Decides (M7 t s f) b
  asked ds q b d =
      let k : Decides (KeepsFrom t.rows t.deps row.prev (dep_rows t s f)) b =
      subst (λ (l : List ℕ). Decides (KeepsFrom t.rows t.deps row.prev l) b) (names_rows t.ids t.counts.rows s f r h ds q) d in
      decides_same (m7_of t may.store s f row.prev (dep_rows t s f) its_rows) (m7_from t may.store s f row.prev (dep_rows t s f) its_rows) k

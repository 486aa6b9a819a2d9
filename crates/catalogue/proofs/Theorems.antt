-- What holds of every admission under the catalogue's profile.
-- Assumes nothing.
use Rattle.std.specs.Prelude.{Ok}
use Prim.Native.Nat.{ℕ, ◌<◌}
use mathlib.Core.Path.{◌≡◌, refl, sym, ap, subst, ◌∙◌}
use mathlib.Core.List.{List}
use mathlib.Core.Logic.{◌≢◌, ◌↔◌}
use native.Mathlib.Omega.{arith}
use lib.ListN.{length}
use Rattle.answers.specs.declared.Refusal.TheVariants.{Backstep}
use Rattle.item.specs.Layout.{layout_of}
use Rattle.item.specs.declared.Fields.{Fields}
use Rattle.item.proofs.Places.{item_sound}
use Rattle.store.specs.Table.{Table, WellFormed}
use Rattle.store.specs.declared.Row.{Row}
use Rattle.judging.specs.Message.{dep_rows}
use Rattle.judging.specs.Verdict.{row_for, rules_of}
use Rattle.judging.specs.declared.Verdict.TheVariants.{Fits}
use Rattle.judging.proofs.Passing.{past_room, fits}
use Rattle.admission.specs.Paper.{Accepted}
use Rattle.admission.specs.declared.Admitted.{Admitted}
use Rattle.admission.specs.declared.Admitted.TheVariants.{Done, Held, Refused}
use Rattle.admission.proofs.Accepting.{passing}
use Rattle.admission.proofs.Theorems.{done_grows}
use Rattle.origins.specs.Origins.{WellKept, AdmitsFrom}
use Rattle.origins.specs.Origins as origins
use Rattle.origins.proofs.Theorems.{only_origins_differ, one_admission, done_admits, undone_keeps, from_done_exactly_when, from_keeps}
use Rattle.catalogue.specs.Steady.{KeepsM7}
use Rattle.catalogue.specs.Profile.{M7, StepsBack, StepsOn, stepped_back, judged, AdmitsUnder, damaged, unsteady, steady}
use Rattle.catalogue.proofs.Messages.{NamedRows, prev_within, deps_within, m7_from}
use Rattle.catalogue.proofs.Growing.{grown_keeps}

-- Done is no refusal.
done_unrefused : (n : ℕ) {A : Type 0} → Done n ≡ Refused Backstep → A
done_unrefused n e = let z : ◌≡◌ {A = ℕ} 0 1 = cc in absurd (omega arith)

-- Where the answer is not 23, it is the answer of an admission with origins, and so are the store and the origins that it leaves: where it
-- is done, the same row is written, with the same origin.
pub otherwise_admits : (t : Table) (o : List ℕ) (g : ℕ) (s : List ℕ) (u : Table) (o' : List ℕ) (a : Admitted) → AdmitsUnder t o g s u o' a
    → a ≢ Refused Backstep → AdmitsFrom t o g s u o' a
otherwise_admits t o g s u o' a (damaged n e f i) h = origins.damaged n e f i
otherwise_admits t o g s u o' a (unsteady k n e f i) h = absurd (h e)
otherwise_admits t o g s u o' a (steady k m (stepped_back c l b e f i)) h = absurd (h e)
otherwise_admits t o g s u o' a (steady k m (judged c j)) h = origins.sound k j

-- What is done is what an admission with origins does.
pub done_admits_from : (t : Table) (o : List ℕ) (g : ℕ) (s : List ℕ) (u : Table) (o' : List ℕ) (n : ℕ) → AdmitsUnder t o g s u o' (Done n)
    → AdmitsFrom t o g s u o' (Done n)
done_admits_from t o g s u o' n h = otherwise_admits t o g s u o' (Done n) h (λ e. done_unrefused n e)

-- HELD and every refusal leave the store and the origins.
pub undone_changes_nothing : (t : Table) (o : List ℕ) (g : ℕ) (s : List ℕ) (u : Table) (o' : List ℕ) (a : Admitted) → AdmitsUnder t o g s u o' a
    → ((n : ℕ) → a ≡ Done n → ⊥) → (u ≡ t) × (o' ≡ o)
undone_changes_nothing t o g s u o' a (damaged n e f i) h = (f, i)
undone_changes_nothing t o g s u o' a (unsteady k n e f i) h = (f, i)
undone_changes_nothing t o g s u o' a (steady k m (stepped_back c l b e f i)) h = (f, i)
undone_changes_nothing t o g s u o' a (steady k m (judged c j)) h = undone_keeps t o g s u o' a (origins.sound k j) h

-- The promise on a store that keeps M7, and its two cases exclude each other.
on_or_back : (t : Table) (s : List ℕ) (f : Fields) → layout_of s ≡ Ok f → StepsBack t s f → ((c : Fields) → layout_of s ≡ Ok c → StepsOn t s c) → ⊥
on_or_back t s f l b k = b.breaks (k f l b.row b.through)

-- "Origins are never read": two runs that differ only in origins have the same answers and leave the same store.
pub only_origins_differ_under : (t : Table) (o p : List ℕ) (g h : ℕ) (s : List ℕ) (u v : Table) (o' p' : List ℕ) (a b : Admitted) → length o ≡ length p
    → AdmitsUnder t o g s u o' a → AdmitsUnder t p h s v p' b → (a ≡ b) × (u ≡ v)
only_origins_differ_under t o p g h s u v o' p' a b l (damaged n e f i) (damaged m e' f' i') = (e ∙ sym e', f ∙ sym f')
only_origins_differ_under t o p g h s u v o' p' a b l (damaged n e f i) (unsteady k m e' f' i') =
    absurd (n (record { store = k.store; held = omega (arith, l, k.held) }))
only_origins_differ_under t o p g h s u v o' p' a b l (damaged n e f i) (steady k m j) = absurd
    (n (record { store = k.store; held = omega (arith, l, k.held) }))
only_origins_differ_under t o p g h s u v o' p' a b l (unsteady k n e f i) (damaged m e' f' i') =
    absurd (m (record { store = k.store; held = omega (arith, l, k.held) }))
only_origins_differ_under t o p g h s u v o' p' a b l (unsteady k n e f i) (unsteady k' n' e' f' i') = (e ∙ sym e', f ∙ sym f')
only_origins_differ_under t o p g h s u v o' p' a b l (unsteady k n e f i) (steady k' m j) = absurd (n m)
only_origins_differ_under t o p g h s u v o' p' a b l (steady k m j) (damaged n e f i) = absurd
    (n (record { store = k.store; held = omega (arith, l, k.held) }))
only_origins_differ_under t o p g h s u v o' p' a b l (steady k m j) (unsteady k' n e f i) = absurd (n m)
only_origins_differ_under t o p g h s u v o' p' a b l (steady k m (stepped_back c d x e f i)) (steady k' m' (stepped_back c' d' x' e' f' i')) =
    (e ∙ sym e', f ∙ sym f')
only_origins_differ_under t o p g h s u v o' p' a b l (steady k m (stepped_back c d x e f i)) (steady k' m' (judged n j)) = absurd (on_or_back t s c d x n)
only_origins_differ_under t o p g h s u v o' p' a b l (steady k m (judged n j)) (steady k' m' (stepped_back c d x e f i)) = absurd (on_or_back t s c d x n)
only_origins_differ_under t o p g h s u v o' p' a b l (steady k m (judged n j)) (steady k' m' (judged n' j')) =
    only_origins_differ t o p g h s u v o' p' a b l (origins.sound k j) (origins.sound k' j')

-- Two answers that keep the promise are one, and so are the stores and the origins that they leave.
pub one_admission_under : (t : Table) (o : List ℕ) (g : ℕ) (s : List ℕ) (u v : Table) (o' p' : List ℕ) (a b : Admitted) → AdmitsUnder t o g s u o' a
    → AdmitsUnder t o g s v p' b → (a ≡ b) × ((u ≡ v) × (o' ≡ p'))
one_admission_under t o g s u v o' p' a b h k =
    let e = only_origins_differ_under t o o g g s u v o' p' a b refl h k in
    (e.0, (e.1, left h k))
  where
    left : AdmitsUnder t o g s u o' a → AdmitsUnder t o g s v p' b → o' ≡ p'
    left (damaged n e f i) (damaged m e' f' i') = i ∙ sym i'
    left (damaged n e f i) (unsteady w m e' f' i') = i ∙ sym i'
    left (damaged n e f i) (steady w m j) = absurd (n w)
    left (unsteady w n e f i) (damaged m e' f' i') = i ∙ sym i'
    left (unsteady w n e f i) (unsteady w' n' e' f' i') = i ∙ sym i'
    left (unsteady w n e f i) (steady w' m j) = absurd (n m)
    left (steady w m j) (damaged n e f i) = absurd (n w)
    left (steady w m j) (unsteady w' n e f i) = absurd (n m)
    left (steady w m (stepped_back c d x e f i)) (steady w' m' (stepped_back c' d' x' e' f' i')) = i ∙ sym i'
    left (steady w m (stepped_back c d x e f i)) (steady w' m' (judged n j)) = absurd (on_or_back t s c d x n)
    left (steady w m (judged n j)) (steady w' m' (stepped_back c d x e f i)) = absurd (on_or_back t s c d x n)
    left (steady w m (judged n j)) (steady w' m' (judged n' j')) = (one_admission t o g s u v o' p' a b (origins.sound w j) (origins.sound w' j')).1.1

-- The rules 6 to 15 let an accepted message through.
accepted_through : (t : Table) (s : List ℕ) (f : Fields) → WellFormed t → Accepted t s f → (row : Row) × (rules_of t s f ≡ Fits row)
accepted_through t s f w a =
    let p = passing t w s f a in
    (row_for t s f p.0, (past_room t s f (rules_of t s f) (row_for t s f p.0) (fits t s f p.0 p.1)).0)

-- DONE EXACTLY WHEN: the store is well formed and keeps M7, the item is accepted by M1 to M6 and document 01, M7 holds of it, and there is a
-- place for the new row's origin.
pub under_done_exactly_when : (t : Table) (o : List ℕ) (g : ℕ) (s : List ℕ) (u : Table) (o' : List ℕ) (a : Admitted) → AdmitsUnder t o g s u o' a
    → ((n : ℕ) × (a ≡ Done n)) ↔ ((WellFormed t × KeepsM7 t) × (((f : Fields) × (Accepted t s f × M7 t s f)) × (t.counts.rows < length o)))
under_done_exactly_when t o g s u o' a h = (λ d. there d.0 (subst (AdmitsUnder t o g s u o') d.1 h), back h)
  where
    there : (n : ℕ) → AdmitsUnder t o g s u o' (Done n)
        → (WellFormed t × KeepsM7 t) × (((f : Fields) × (Accepted t s f × M7 t s f)) × (t.counts.rows < length o))
    there n (damaged d e f i) = let z : ◌≡◌ {A = ℕ} 0 1 = cc in absurd (omega arith)
    there n (unsteady k d e f i) = done_unrefused n e
    there n (steady k m (stepped_back c l b e f i)) = done_unrefused n e
    there n (steady k m (judged c j)) =
        let x = (from_done_exactly_when t o g s u o' (Done n) (origins.sound k j)).0 (n, refl) in
        let f = x.0.1.0 in
        let y : Accepted t s f = x.0.1.1 in
        let r = accepted_through t s f x.0.0 y in
        ((x.0.0, m), ((f, (y, c f (item_sound s f y.item) r.0 r.1)), x.1))

    back : AdmitsUnder t o g s u o' a → (WellFormed t × KeepsM7 t) × (((f : Fields) × (Accepted t s f × M7 t s f)) × (t.counts.rows < length o))
        → (n : ℕ) × (a ≡ Done n)
    back (damaged d e f i) x = absurd (d (record { store = x.0.0; held = omega (arith, x.1.1) }))
    back (unsteady k d e f i) x = absurd (d x.0.1)
    back (steady k m (stepped_back c l b e f i)) x =
        let y = x.1.0.1.0 in
        let q : Ok c ≡ Ok x.1.0.0 = sym l ∙ item_sound s x.1.0.0 y.item in
        let z : x.1.0.0 ≡ c = cc in
        absurd (b.breaks (subst (M7 t s) z x.1.0.1.1))
    back (steady k m (judged c j)) x =
        (from_done_exactly_when t o g s u o' a (origins.sound k j)).1 ((x.0.0, (x.1.0.0, x.1.0.1.0)), x.1.1)

-- "An admission under the profile starts from a store that keeps M7 and ends in one": a done one ends in one,
done_keeps_m7 : (t : Table) (o : List ℕ) (g : ℕ) (s : List ℕ) (u : Table) (o' : List ℕ) (n : ℕ) → AdmitsUnder t o g s u o' (Done n) → KeepsM7 u
done_keeps_m7 t o g s u o' n h =
    let c = (under_done_exactly_when t o g s u o' (Done n) h).0 (n, refl) in
    let w : WellFormed t = c.0.0 in
    let x = (done_grows t s u n (done_admits t o g s u o' n (done_admits_from t o g s u o' n h))).1 in
    let f = x.0 in
    let row = x.1.0 in
    let i = x.1.1.0 in
    let k = x.1.1.1 in
    let q : Ok c.1.0.0 ≡ Ok f = sym (item_sound s c.1.0.0 c.1.0.1.0.item) ∙ item_sound s f i.item in
    let z : c.1.0.0 ≡ f = cc in
    let m : M7 t s f = subst (M7 t s) z c.1.0.1.1 in
    let r : NamedRows t s f row.prev (dep_rows t s f) =
    record { on_none = i.prev_none; on_named = i.prev_named; number = i.deps_number; named = i.deps_named } in
    grown_keeps t u w k.kept row (dep_rows t s f) k.row_new k.deps_new (ap (λ y. y.rows) k.counts_new)
    (prev_within t w s f row.prev (dep_rows t s f) r) (deps_within t w s f row.prev (dep_rows t s f) r) c.0.1
    (m7_from t w s f row.prev (dep_rows t s f) r m)

-- and every other leaves the store.
pub under_keeps_m7 : (t : Table) (o : List ℕ) (g : ℕ) (s : List ℕ) (u : Table) (o' : List ℕ) (a : Admitted) → AdmitsUnder t o g s u o' a → KeepsM7 t
    → KeepsM7 u
under_keeps_m7 t o g s u o' (Done n) h m = done_keeps_m7 t o g s u o' n h
under_keeps_m7 t o g s u o' (Held r) h m =
    subst KeepsM7 (sym (undone_changes_nothing t o g s u o' (Held r) h (λ n e. let z : ◌≡◌ {A = ℕ} 0 1 = cc in omega arith)).0) m
under_keeps_m7 t o g s u o' (Refused r) h m =
    subst KeepsM7 (sym (undone_changes_nothing t o g s u o' (Refused r) h (λ n e. let z : ◌≡◌ {A = ℕ} 0 1 = cc in omega arith)).0) m

-- A store and origins that are well kept stay so.
pub under_keeps : (t : Table) (o : List ℕ) (g : ℕ) (s : List ℕ) (u : Table) (o' : List ℕ) (a : Admitted) → AdmitsUnder t o g s u o' a → WellKept t o
    → WellKept u o'
under_keeps t o g s u o' a (damaged n e f i) w = absurd (n w)
under_keeps t o g s u o' a (unsteady k n e f i) w = subst (λ (x : Table). WellKept x o') (sym f) (subst (WellKept t) (sym i) w)
under_keeps t o g s u o' a (steady k m (stepped_back c l b e f i)) w =
    subst (λ (x : Table). WellKept x o') (sym f) (subst (WellKept t) (sym i) w)
under_keeps t o g s u o' a (steady k m (judged c j)) w = from_keeps t o g s u o' a (origins.sound k j) w

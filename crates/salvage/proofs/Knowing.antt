-- The names of an item while the store grows: what was there stays, and only the id of the item that was kept is new.
-- Assumes nothing.
use Rattle.std.specs.Prelude.{Result, Ok, Err}
use Prim.Native.Nat.{ℕ, suc, ◌+◌, ◌-◌, ◌≤◌, ◌<◌}
use mathlib.Core.Path.{◌≡◌, refl, sym, ap, subst, ◌∙◌}
use mathlib.Core.Bool.{Bool, true, false, not}
use mathlib.Core.List.{List, [], ◌∷◌, ◌++◌}
use mathlib.Core.Logic.{◌⊎◌, inl, inr, ◌≢◌, ⊎_elim}
use native.Mathlib.Omega.{arith}
use native.Mathlib.Nat.{eq-or-lt_of_le}
use borrow.Author.Tests.{eq-eqb, ne_eqb, lt-ltb, le-ltb, lt-leb, eqb-true, ltb-true}
use lib.Dec.{eqb, ltb}
use lib.ListN.{length}
use Rattle.basics.specs.Pick.{pick, both, either}
use Rattle.basics.proofs.Tests.{by_eqb, by_leb, true_or_false, not_both_ways, both_left, both_right, both_of}
use Rattle.answers.specs.declared.Refusal.{Refusal}
use Rattle.chunks.specs.Lookup.{place_of}
use Rattle.chunks.specs.Bytes.{same_bytes}
use Rattle.chunks.proofs.Rest.{both_false}
use Rattle.chunks.proofs.Sameness.{same_equal, same_differs}
use Rattle.item.specs.Id.{id_of}
use Rattle.item.specs.Layout.{layout_of, previous_of, dependency_of}
use Rattle.item.specs.declared.Fields.{Fields}
use Rattle.item.proofs.Laid.{sound_item}
use Rattle.admission.specs.declared.Admitted.TheVariants.{Done}
use Rattle.morning.specs.Intake.{Kept, Sound, answer_to, kept_after}
use Rattle.rescue.specs.Greedy.{Salvage, item_of, among, is_done, free, keep, place_in}
use Rattle.rescue.specs.Growing.{Names, previous, dependency, Waits}
use Rattle.rescue.proofs.Growth.{sound_after, grown_after, done_count, found_later, found_new, lacks_still}
use Rattle.rescue.proofs.Lost.{waits_not_done, broken_not_done, lost_forever}
use Rattle.rescue.proofs.Sums.{among_other}
use Rattle.salvage.specs.Names.{name_of, asked, lacks_at, names_it, names_by}
use Rattle.salvage.specs.Working.{KnownIn, AllKnown, Marked, is_kept, is_waiting, is_free, is_refused}

module _ (ids : List ℕ) (n : ℕ) (s : List ℕ) (f : Fields) (p : ℕ) where
  -- A name that is not asked for is not missing, nor is one that the store has;
  unasked : asked f p ≡ false → lacks_at ids n s f p ≡ false
  unfolding lacks_at
  unasked e = rw e

  there : place_of ids n (name_of s f p) ≢ 0 → lacks_at ids n s f p ≡ false
  unfolding lacks_at
  there h = ap (both (asked f p)) (ne_eqb (place_of ids n (name_of s f p)) 0 h) ∙ both_false (asked f p)

  -- one that is asked for and that it has not is.
  gone : asked f p ≡ true → place_of ids n (name_of s f p) ≡ 0 → lacks_at ids n s f p ≡ true
  unfolding lacks_at
  gone e h = both_of (asked f p) (eqb (place_of ids n (name_of s f p)) 0) e (eq-eqb (place_of ids n (name_of s f p)) 0 h)

  -- And the other way round.
  lacked_asked : lacks_at ids n s f p ≡ true → asked f p ≡ true
  unfolding lacks_at
  lacked_asked e = both_left (asked f p) (eqb (place_of ids n (name_of s f p)) 0) e

  lacked_place : lacks_at ids n s f p ≡ true → place_of ids n (name_of s f p) ≡ 0
  unfolding lacks_at
  lacked_place e = eqb-true (place_of ids n (name_of s f p)) 0 (both_right (asked f p) (eqb (place_of ids n (name_of s f p)) 0) e)

  known_cases : lacks_at ids n s f p ≡ false → (asked f p ≡ false) ⊎ (place_of ids n (name_of s f p) ≢ 0)
  known_cases e =
      ⊎_elim (λ a. inr (λ z. not_both_ways (lacks_at ids n s f p) (gone a z) e)) (λ a. inl a) (true_or_false (asked f p))

-- The id at a place that is asked for is named.
named_at : (s : List ℕ) (f : Fields) (p : ℕ) → asked f p ≡ true → 1 ≤ p → p ≤ f.count + 1 → Names s f (name_of s f p)
named_at s f p a h k =
    by_leb (λ b. Names s f (pick b (previous_of s) (dependency_of f (p - 2) s))) p 1
    (λ l.
    let e : ltb 1 f.index ≡ true = ap (λ (b : Bool). either b (ltb 1 f.index)) (sym (le-ltb 1 p l)) ∙ a in
    previous (ltb-true 1 f.index e) refl)
    (λ l. dependency (p - 2) (omega arith) refl)

-- An item that lacks a name waits for it,
pub lacks_waits : (k : Kept) (s : List ℕ) (f : Fields) (p : ℕ) → 1 ≤ p → p ≤ f.count + 1 → lacks_at k.store.ids k.store.counts.rows s f p ≡ true
    → Waits k s f
lacks_waits k s f p h l e =
    record {
      id = name_of s f p;
      named = named_at s f p (lacked_asked k.store.ids k.store.counts.rows s f p e) h l;
      lacked = lacked_place k.store.ids k.store.counts.rows s f p e;
    }

-- and one that lacks none does not.
pub known_not_waits : (k : Kept) (s : List ℕ) (f : Fields) → KnownIn k s f (f.count + 1) → Waits k s f → ⊥
known_not_waits k s f known w = go w.named
  where
    go : Names s f w.id → ⊥
    go (previous h z) =
        let a : asked f 1 ≡ true = lt-ltb 1 f.index h in
        let y : place_of k.store.ids k.store.counts.rows (name_of s f 1) ≡ 0 =
        ap (place_of k.store.ids k.store.counts.rows) (sym z) ∙ w.lacked in
        not_both_ways (lacks_at k.store.ids k.store.counts.rows s f 1) (gone k.store.ids k.store.counts.rows s f 1 a y)
        (known 1 (omega arith) (omega arith))
    go (dependency j h z) =
        let a : asked f (j + 2) ≡ true = ap (λ (b : Bool). either b (ltb 1 f.index)) (lt-ltb 1 (j + 2) (omega arith)) in
        let m : j + 2 - 2 ≡ j = omega arith in
        let x : name_of s f (j + 2) ≡ dependency_of f j s =
        ap (λ (b : Bool). pick b (previous_of s) (dependency_of f (j + 2 - 2) s)) (lt-leb (j + 2) 1 (omega arith)) ∙ ap (λ (i : ℕ). dependency_of f i s) m in
        let y : place_of k.store.ids k.store.counts.rows (name_of s f (j + 2)) ≡ 0 =
        ap (place_of k.store.ids k.store.counts.rows) (x ∙ sym z) ∙ w.lacked in
        not_both_ways (lacks_at k.store.ids k.store.counts.rows s f (j + 2)) (gone k.store.ids k.store.counts.rows s f (j + 2) a y)
        (known (j + 2) (omega arith) (omega arith))

-- A layout is sound or refused, and the fields of a sound one are the same each time.
layout_cases : (l : Result Fields Refusal) → ((f : Fields) × (l ≡ Ok f)) ⊎ ((r : Refusal) × (l ≡ Err r))
layout_cases (Ok f) = inl (f, refl)
layout_cases (Err r) = inr (r, refl)

pub one_layout : (s : List ℕ) (f g : Fields) → layout_of s ≡ Ok f → layout_of s ≡ Ok g → f ≡ g
one_layout s f g e h = let z : Ok f ≡ Ok g = sym e ∙ h in cc

-- The place of a number in an order with another at its end, and of the last.
place_other : (p : ℕ) (qs : List ℕ) (q : ℕ) → among p qs ≡ true → place_in p (qs ++ (q ∷ [])) ≡ place_in p qs
unfolding among place_in
place_other p [] q e = absurd (not_both_ways false e refl)
place_other p (x ∷ qs) q e =
    by_eqb (λ b. either b (among p qs) ≡ true → pick b 1 (suc (place_in p (qs ++ (q ∷ [])))) ≡ pick b 1 (suc (place_in p qs))) p x (λ _ _. refl)
    (λ _ a. ap suc (place_other p qs q a)) e

pub place_last : (p : ℕ) (qs : List ℕ) → among p qs ≡ false → place_in p (qs ++ (p ∷ [])) ≡ length qs + 1
unfolding among place_in
place_last p [] e = ap (λ (b : Bool). pick {A = ℕ} b 1 1) (eq-eqb p p refl)
place_last p (x ∷ qs) e =
    by_eqb (λ b. either b (among p qs) ≡ false → pick b 1 (suc (place_in p (qs ++ (p ∷ [])))) ≡ suc (length qs) + 1) p x
    (λ _ a. absurd (not_both_ways true refl a)) (λ _ a. let h = place_last p qs a in omega arith) e

module _ (k : Kept) (w : Sound k) (i : List ℕ) (row : ℕ) (d : answer_to k i ≡ Done row) where
  -- A name that is there stays,
  known_later : (s : List ℕ) (f : Fields) (p : ℕ) → lacks_at k.store.ids k.store.counts.rows s f p ≡ false
      → lacks_at (kept_after k 0 i).store.ids (kept_after k 0 i).store.counts.rows s f p ≡ false
  known_later s f p e =
      ⊎_elim (λ a. unasked (kept_after k 0 i).store.ids (kept_after k 0 i).store.counts.rows s f p a)
      (λ h.
      let z = found_later k (kept_after k 0 i) w (grown_after k w 0 i) (sound_after k w 0 i) (name_of s f p) h in
      there (kept_after k 0 i).store.ids (kept_after k 0 i).store.counts.rows s f p (λ y. h (sym z ∙ y)))
      (known_cases k.store.ids k.store.counts.rows s f p e)

  -- the id of the item that was kept is there,
  known_new : (s : List ℕ) (f : Fields) (p : ℕ) → name_of s f p ≡ id_of i
      → lacks_at (kept_after k 0 i).store.ids (kept_after k 0 i).store.counts.rows s f p ≡ false
  known_new s f p e =
      let z = found_new k w 0 i row d in
      let c = (done_count k w 0 i row d).0 in
      there (kept_after k 0 i).store.ids (kept_after k 0 i).store.counts.rows s f p
      (λ y.
      let x : row ≡ 0 = sym z ∙ ap (place_of (kept_after k 0 i).store.ids (kept_after k 0 i).store.counts.rows) (sym e) ∙ y in
      omega arith)

  -- and any other that was missing still is.
  lacks_later : (s : List ℕ) (f : Fields) (p : ℕ) → lacks_at k.store.ids k.store.counts.rows s f p ≡ true → name_of s f p ≢ id_of i
      → lacks_at (kept_after k 0 i).store.ids (kept_after k 0 i).store.counts.rows s f p ≡ true
  lacks_later s f p e n =
      gone (kept_after k 0 i).store.ids (kept_after k 0 i).store.counts.rows s f p (lacked_asked k.store.ids k.store.counts.rows s f p e)
      (lacks_still k w 0 i row d (name_of s f p) (lacked_place k.store.ids k.store.counts.rows s f p e) n)

  -- An item that was refused although all of its names were there is still refused.
  refused_later : (s : List ℕ) → AllKnown k s → is_done (answer_to k s) ≡ false → is_done (answer_to (kept_after k 0 i) s) ≡ false
  refused_later s known e =
      ⊎_elim
      (λ l. lost_forever k (kept_after k 0 i) w (sound_after k w 0 i) (grown_after k w 0 i) s l.0 l.1 (known_not_waits k s l.0 (known l.0 l.1)) e)
      (λ l. broken_not_done (kept_after k 0 i) (sound_after k w 0 i) s l.0 l.1)
      (layout_cases (layout_of s))

module _ (is : List (List ℕ)) (g : Salvage) (p row : ℕ) (w : Sound g.kept) (d : answer_to g.kept (item_of is p) ≡ Done row)
    (id : List ℕ) (named : id ≡ id_of (item_of is p)) (q : ℕ) (other : q ≢ p) where
  -- One that waits is free where it waited for the id, and waits on where not.
  waited : (x : ℕ) (f : Fields) → layout_of (item_of is q) ≡ Ok f → among q g.order ≡ false → 1 ≤ x → x ≤ f.count + 1
      → KnownIn g.kept (item_of is q) f (x - 1) → lacks_at g.kept.store.ids g.kept.store.counts.rows (item_of is q) f x ≡ true
      → (b : Bool) → b ≡ same_bytes id (name_of (item_of is q) f x) → Marked is (keep is g p) q (pick b 2 1) x
  waited x f l a h m known lacks true e =
      let y : name_of (item_of is q) f x ≡ id_of (item_of is p) = sym (same_equal id (name_of (item_of is q) f x) (sym e)) ∙ named in
      is_free refl (among_other q g.order p other ∙ a) (omega (arith, (sound_item (item_of is q) f l).count_limit_lem))
      (λ f' l'.
      subst (λ u. KnownIn (kept_after g.kept 0 (item_of is p)) (item_of is q) u x) (one_layout (item_of is q) f f' l l')
      (λ r j o.
      ⊎_elim
      (λ (z : r ≡ x). known_new g.kept w (item_of is p) row d (item_of is q) f r (ap (name_of (item_of is q) f) z ∙ y))
      (λ (z : r < x). known_later g.kept w (item_of is p) row d (item_of is q) f r (known r (omega arith) o))
      (eq-or-lt_of_le j)))
  waited x f l a h m known lacks false e =
      is_waiting refl (among_other q g.order p other ∙ a) f l h m
      (λ r j o. known_later g.kept w (item_of is p) row d (item_of is q) f r (known r j o))
      (lacks_later g.kept w (item_of is p) row d (item_of is q) f x lacks (λ z. same_differs id (name_of (item_of is q) f x) (sym e) (named ∙ sym z)))

  -- What is known of an item when another was kept.
  pub marked_later : (m x : ℕ) → Marked is g q m x → Marked is (keep is g p) q (pick (both (eqb m 1) (names_it (item_of is q) x id)) 2 m) x
  unfolding names_by
  marked_later m x (is_kept e a b) =
      is_kept (ap (λ (n : ℕ). pick (both (eqb n 1) (names_it (item_of is q) x id)) 2 n) e) (among_other q g.order p other ∙ a)
      (b ∙ sym (place_other q g.order p a))
  marked_later m x (is_waiting e a f l h n known lacks) =
      let y : names_it (item_of is q) x id ≡ same_bytes id (name_of (item_of is q) f x) = ap (λ u. names_by u (item_of is q) x id) l in
      let z : pick (both (eqb m 1) (names_it (item_of is q) x id)) 2 m ≡ pick (same_bytes id (name_of (item_of is q) f x)) 2 1 =
      ap (λ (n : ℕ). pick (both (eqb n 1) (names_it (item_of is q) x id)) 2 n) e ∙ ap (λ (b : Bool). pick {A = ℕ} b 2 1) y in
      subst (λ (n : ℕ). Marked is (keep is g p) q n x) (sym z) (waited x f l a h n known lacks (same_bytes id (name_of (item_of is q) f x)) refl)
  marked_later m x (is_free e a h known) =
      is_free (ap (λ (n : ℕ). pick (both (eqb n 1) (names_it (item_of is q) x id)) 2 n) e) (among_other q g.order p other ∙ a) h
      (λ f l r j o. known_later g.kept w (item_of is p) row d (item_of is q) f r (known f l r j o))
  marked_later m x (is_refused e a known u) =
      is_refused (ap (λ (n : ℕ). pick (both (eqb n 1) (names_it (item_of is q) x id)) 2 n) e) (among_other q g.order p other ∙ a)
      (λ f l r j o. known_later g.kept w (item_of is p) row d (item_of is q) f r (known f l r j o))
      (refused_later g.kept w (item_of is p) row d (item_of is q) known u)

-- An item that is not marked as free is not free: it is kept, or the store does not admit it.
pub unmarked_unfree : (is : List (List ℕ)) (g : Salvage) (p m x : ℕ) → Sound g.kept → Marked is g p m x → m ≢ 2 → free is g p ≡ false
unmarked_unfree is g p m x w (is_kept e a b) n = ap (λ (t : Bool). both (not t) (is_done (answer_to g.kept (item_of is p)))) a
unmarked_unfree is g p m x w (is_waiting e a f l h j known lacks) n =
    ap (both (not (among p g.order))) (waits_not_done g.kept w (item_of is p) f l (lacks_waits g.kept (item_of is p) f x h j lacks))
    ∙ both_false (not (among p g.order))
unmarked_unfree is g p m x w (is_free e a h known) n = absurd (n e)
unmarked_unfree is g p m x w (is_refused e a known u) n = ap (both (not (among p g.order))) u ∙ both_false (not (among p g.order))

-- What a free mark says.
pub free_says : (is : List (List ℕ)) (g : Salvage) (p m x : ℕ) → Marked is g p m x → m ≡ 2
    → (among p g.order ≡ false) × ((x ≤ 64) × ((f : Fields) → layout_of (item_of is p) ≡ Ok f → KnownIn g.kept (item_of is p) f x))
free_says is g p m x (is_kept e a b) z = absurd (omega arith)
free_says is g p m x (is_waiting e a f l h j known lacks) z = absurd (omega arith)
free_says is g p m x (is_free e a h known) z = (a, (h, known))
free_says is g p m x (is_refused e a known u) z = absurd (omega arith)

-- Only the answers 10 and 14 can turn while the store grows: an item that names an id which the store lacks waits for it, and any other
-- item that is not admitted is never admitted later.
-- Assumes nothing.
use Rattle.std.specs.Prelude.{Ok, Err}
use Prim.Native.Nat.{ℕ, ◌+◌, ◌<◌}
use mathlib.Core.Path.{◌≡◌, refl, sym, ap, subst, ◌∙◌}
use mathlib.Core.Bool.{Bool, true, false}
use mathlib.Core.List.{List}
use mathlib.Core.Logic.{◌⊎◌, inl, inr, ⊎_elim, ◌≢◌}
use native.Mathlib.Omega.{arith}
use native.Mathlib.Nat.{eq-or-lt_of_le}
use borrow.Author.Tests.{lt-leb}
use lib.ListN.{length}
use Rattle.basics.specs.Pick.{pick}
use Rattle.basics.proofs.Tests.{not_both_ways}
use Rattle.answers.specs.declared.Refusal.{Refusal}
use Rattle.answers.specs.declared.Refusal.TheVariants.{Prev, Dep}
use Rattle.item.specs.Id.{id_of}
use Rattle.item.specs.Layout.{layout_of, key_of, previous_of, dependency_of}
use Rattle.item.specs.declared.Fields.{Fields}
use Rattle.item.proofs.Places.{item_sound}
use Rattle.store.proofs.Agreeing.{agree_keys}
use Rattle.judging.specs.Verdict.{row_room, author_room, dep_room, judged_of, then_judged, verdict_of}
use Rattle.judging.specs.declared.Verdict.{Verdict}
use Rattle.admission.specs.After.{answer_of}
use Rattle.admission.specs.Lines.{Rule, flag, sign, index_none, index_marked, prev, owner, step, dep, own, two, no_row, no_key, no_deps}
use Rattle.admission.specs.Paper.{Has, author_key, Accepted, Indexed, first, later}
use Rattle.admission.specs.declared.Admitted.{Admitted}
use Rattle.admission.specs.declared.Admitted.TheVariants.{Done, Held, Refused}
use Rattle.admission.proofs.Accepting.{found_has, not_found}
use Rattle.admission.proofs.Lining.{Says, says_fits, says_holds, says_breaks, verdict_says}
use Rattle.origins.specs.Origins.{without_place}
use Rattle.morning.specs.Intake.{Kept, Sound, answer_to}
use Rattle.rescue.specs.Greedy.{is_done}
use Rattle.rescue.specs.Growing.{Grown, Names, previous, dependency, Waits}
use Rattle.rescue.proofs.Growth.{found_not, done_accepted, has_later, key_later, index_later}

-- A done answer, and one that is not.
pub is_done_lem : (a : Admitted) → is_done a ≡ true → (n : ℕ) × (a ≡ Done n)
is_done_lem (Done n) e = (n, refl)
is_done_lem (Held r) e = absurd (not_both_ways false e refl)
is_done_lem (Refused why) e = absurd (not_both_ways false e refl)

pub not_done : (a : Admitted) → ((n : ℕ) → a ≡ Done n → ⊥) → is_done a ≡ false
not_done (Done n) h = absurd (h n refl)
not_done (Held r) h = refl
not_done (Refused why) h = refl

-- Two layouts of one item have the same fields.
pub one_layout : (s : List ℕ) (f g : Fields) → layout_of s ≡ Ok f → layout_of s ≡ Ok g → f ≡ g
one_layout s f g e h = let z : Ok f ≡ Ok g = sym e ∙ h in cc

-- AN ITEM THAT NAMES AN ID WHICH THE STORE LACKS IS NOT ADMITTED.
pub waits_not_done : (k : Kept) → Sound k → (i : List ℕ) (f : Fields) → layout_of i ≡ Ok f → Waits k i f → is_done (answer_to k i) ≡ false
waits_not_done k w i f e q = not_done (answer_to k i) (λ n d. lacks (done_accepted k w 0 i n d).0)
  where
    named_there : Accepted k.store i f → {x : List ℕ} → Names i f x → (r : ℕ) × Has k.store x r
    named_there c (previous h z) =
        ⊎_elim (λ (y : f.index ≡ 1). absurd (omega arith)) (λ y. (y.0, subst (λ x. Has k.store x y.0) (sym z) y.1)) c.m1
    named_there c (dependency j h z) = let y = c.m3 j h in (y.0, subst (λ x. Has k.store x y.0) (sym z) y.1.0)

    lacks : ((g : Fields) × Accepted k.store i g) → ⊥
    lacks c =
        let z : c.0 ≡ f = one_layout i c.0 f (item_sound i c.0 c.1.item) e in
        let y = named_there (subst (Accepted k.store i) z c.1) q.named in
        not_found k.store w.store q.id q.lacked y.0 y.1

-- An item whose layout is refused is never admitted.
pub broken_not_done : (k : Kept) → Sound k → (i : List ℕ) (r : Refusal) → layout_of i ≡ Err r → is_done (answer_to k i) ≡ false
broken_not_done k w i r e =
    not_done (answer_to k i)
    (λ n d.
    let c = (done_accepted k w 0 i n d).0 in
    let z : Ok c.0 ≡ Err r = sym (item_sound i c.0 c.1.item) ∙ e in
    let y : ◌≡◌ {A = ℕ} 0 1 = cc in
    omega arith)

-- What a refusal waits for, with its number.
pub record Turns (k : Kept) (i : List ℕ) (f : Fields) (r : Refusal) : Type 0 where
  pub refusal : (r ≡ Prev) ⊎ (r ≡ Dep)
  pub waits : Waits k i f

module _ (k l : Kept) (w : Sound k) (v : Sound l) (g : Grown k l) (i : List ℕ) (f : Fields) (c : Accepted l.store i f) where
  -- A dependency that the earlier store has is of another author.
  other_author : (j : ℕ) → j < f.count → (r : ℕ) → Has k.store (dependency_of f j i) r → author_key k.store r ≢ key_of i
  other_author j h r has e =
      let y = c.m3 j h in
      let z : y.0 ≡ r =
      sym (found_has l.store v.store (dependency_of f j i) y.0 y.1.0)
      ∙ found_has l.store v.store (dependency_of f j i) r (has_later k l w g (dependency_of f j i) r has) in
      y.1.1 (ap (author_key l.store) z ∙ key_later k l w g r has.message ∙ e)

  -- The limits for FULL are what they were.
  same_rows : row_room k.store ≡ row_room l.store
  same_rows = rw (g.lengths.branches, g.lengths.ids, g.lengths.rows)

  same_authors : author_room k.store ≡ author_room l.store
  same_authors = rw (g.lengths.branches, g.lengths.keys)

  same_deps : dep_room k.store ≡ dep_room l.store
  same_deps = rw g.lengths.deps

  -- A line that refuses an item which is accepted later is that of PREV or DEP, and the item waits.
  rule_turns : {r : Refusal} → Rule k.store i f r → Turns k i f r
  rule_turns (flag a b) = absurd (b c.m5)
  rule_turns (sign a) = absurd (omega (arith, c.m5))
  rule_turns (index_none e) = absurd (some_index c.indexed)
    where
      some_index : Indexed l.store i f → ⊥
      some_index (first h z) = omega arith
      some_index (later h z) = omega arith
  rule_turns (index_marked e n) = absurd (unmarked c.indexed)
    where
      unmarked : Indexed l.store i f → ⊥
      unmarked (first h z) = n z
      unmarked (later h z) = omega arith
  rule_turns (prev h n) =
      record { refusal = inl refl; waits = record { id = previous_of i; named = previous h refl; lacked = found_not k.store (previous_of i) n } }
  rule_turns (owner h r has n) =
      absurd (n (sym (key_later k l w g r has.message) ∙ c.m2 (λ e. omega arith) r (has_later k l w g (previous_of i) r has)))
  rule_turns (step h r has n) = absurd (stepped c.indexed)
    where
      stepped : Indexed l.store i f → ⊥
      stepped (first e z) = omega arith
      stepped (later e z) = n (z r (has_later k l w g (previous_of i) r has) ∙ ap (λ (x : ℕ). x + 1) (index_later k l w g r has.message))
  rule_turns (dep j h n) =
      record {
        refusal = inr refl;
        waits = record { id = dependency_of f j i; named = dependency j h refl; lacked = found_not k.store (dependency_of f j i) n };
      }
  rule_turns (own j h r has e) = absurd (other_author j h r has e)
  rule_turns (two a b h m q r p s e) =
      let same : a ≡ b =
      c.m4 (author_key k.store q) (other_author a (omega arith) q p) a b (omega arith) m q r
      (has_later k l w g (dependency_of f a i) q p) (has_later k l w g (dependency_of f b i) r s)
      (key_later k l w g q p.message) (key_later k l w g r s.message ∙ sym e) in
      absurd (omega arith)
  rule_turns (no_row h) = absurd (omega (arith, same_rows, c.room.row, g.rows))
  rule_turns (no_key n h) =
      ⊎_elim
      (λ (e : k.store.counts.authors ≡ l.store.counts.authors).
      let same = agree_keys k.store l.store w.store g.within in
      absurd (omega (arith, same_authors, c.room.key (λ a m o z. n a (omega arith) o (same a (omega arith) ∙ z)))))
      (λ (e : k.store.counts.authors < l.store.counts.authors).
      absurd (omega (arith, same_authors, v.store.authors_limit, v.store.keys_held, v.store.firsts_held)))
      (eq-or-lt_of_le g.authors)
  rule_turns (no_deps h) = absurd (omega (arith, same_deps, c.room.deps, g.deps))

  module _ (p : l.store.counts.rows < length l.origins) where
    -- There is a place for the row's origin, so the verdict alone decides.
    answer_is : answer_to k i ≡ answer_of k.store (judged_of k.store i f)
    unfolding then_judged
    answer_is =
        ap (λ (b : Bool). answer_of k.store (pick b (without_place (verdict_of k.store i)) (verdict_of k.store i)))
        (lt-leb (length k.origins) k.store.counts.rows (omega (arith, g.places, g.rows)))
        ∙ ap (λ x. answer_of k.store (then_judged k.store i x)) (item_sound i f c.item)

    -- What is admitted later is admitted now, or waits.
    by_verdict : {x : Verdict} → Says k.store i f x → answer_to k i ≡ answer_of k.store x
        → ((n : ℕ) × (answer_to k i ≡ Done n)) ⊎ ((r : Refusal) × ((answer_to k i ≡ Refused r) × Turns k i f r))
    by_verdict (says_fits row a b) e = inl (_, e)
    by_verdict (says_holds r h) e = absurd (c.fresh r (has_later k l w g (id_of i) r h))
    by_verdict (says_breaks {r = r} h) e = inr (r, (e, rule_turns h))

-- ONLY THE ANSWERS 10 AND 14 CAN TURN WHILE THE STORE GROWS: an item that is admitted later is admitted now, or is refused with PREV or DEP, and
-- names an id that the store lacks.
pub only_these_turn : (k l : Kept) → Sound k → Sound l → Grown k l → (i : List ℕ) (n : ℕ) → answer_to l i ≡ Done n
    → ((m : ℕ) × (answer_to k i ≡ Done m)) ⊎ ((f : Fields) × ((layout_of i ≡ Ok f) × ((r : Refusal) × ((answer_to k i ≡ Refused r) × Turns k i f r))))
only_these_turn k l w v g i n d =
    let c = done_accepted l v 0 i n d in
    let f = c.0.0 in
    let e = item_sound i f c.0.1.item in
    ⊎_elim (λ x. inl x) (λ x. inr (f, (e, x)))
    (by_verdict k l w v g i f c.0.1 c.1 (verdict_says k.store w.store i f e) (answer_is k l w v g i f c.0.1 c.1))

-- LOST FOREVER: an item that is not admitted and does not wait is not admitted by any store that came of this one.
pub lost_forever : (k l : Kept) → Sound k → Sound l → Grown k l → (i : List ℕ) (f : Fields) → layout_of i ≡ Ok f → (Waits k i f → ⊥)
    → is_done (answer_to k i) ≡ false → is_done (answer_to l i) ≡ false
lost_forever k l w v g i f e h u =
    not_done (answer_to l i)
    (λ n d.
    ⊎_elim
    (λ x. not_both_ways (is_done (answer_to k i)) (ap is_done x.1) u)
    (λ x. h (subst (Waits k i) (one_layout i x.0 f x.1.0 e) x.1.1.1.1.waits))
    (only_these_turn k l w v g i n d))

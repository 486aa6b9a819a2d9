-- Document 02, §9, of a whole intake: "Two stores that differ only in origins give the same answer to every call".
-- Assumes nothing.
use Rattle.std.specs.Prelude.{Result}
use Rattle.answers.specs.declared.Refusal.{Refusal}
use Prim.Native.Nat.{ℕ, ◌≤◌, ◌-◌}
use mathlib.Core.Path.{◌≡◌, refl, sym, ap, subst, ◌∙◌}
use mathlib.Core.List.{List, [], ◌∷◌, ◌++◌}
use native.Mathlib.Omega.{arith}
use lib.ListN.{length, length-set, drop}
use Rattle.answers.specs.Answers.{written_number, written_count}
use Rattle.admission.specs.declared.Admitted.{Admitted}
use Rattle.admission.specs.declared.Admitted.TheVariants.{Done, Held, Refused}
use Rattle.cutting.specs.Cutting.{items_of}
use Rattle.store.specs.Table.{WellFormed}
use Rattle.origins.specs.Origins.{origins_after}
use Rattle.morning.specs.Intake.{Kept, kept_after, kept_after_all, answer_to, answers_to, answer_width, Sound, TakesIn}
use Rattle.morning.specs.Intake as intake
use Rattle.plain.specs.declared.taking.IntakeAnswer.{IntakeAnswer}
use Rattle.host.specs.Taking.{TakesInPlainly, OnlyOriginsDiffer}

-- An answer leaves as many origins as there were.
as_many : (o : List ℕ) (g : ℕ) (a : Admitted) → length (origins_after o g a) ≡ length o
as_many o g (Done n) = length-set o (n - 1) g
as_many o g (Held r) = refl
as_many o g (Refused why) = refl

-- Where only origins differ an item has one answer,
alike_answer : (k m : Kept) (i : List ℕ) → OnlyOriginsDiffer k m → answer_to k i ≡ answer_to m i
alike_answer k m i e = rw (e.store, e.many)

-- and only origins differ after it, whichever are given;
alike_after : (k m : Kept) (g h : ℕ) (i : List ℕ) → OnlyOriginsDiffer k m → OnlyOriginsDiffer (kept_after k g i) (kept_after m h i)
alike_after k m g h i e =
    record {
      store = rw (e.store, e.many);
      many = as_many k.origins g (answer_to k i) ∙ e.many ∙ sym (as_many m.origins h (answer_to m i));
    }

-- so after all items, with one list of answers.
alike_all : (k m : Kept) (g h : ℕ) (is : List (List ℕ)) → OnlyOriginsDiffer k m
    → OnlyOriginsDiffer (kept_after_all k g is) (kept_after_all m h is) × (answers_to k g is ≡ answers_to m h is)
unfolding kept_after_all answers_to
alike_all k m g h [] e = (e, refl)
alike_all k m g h (i ∷ is) e =
    let r = alike_all (kept_after k g i) (kept_after m h i) g h is (alike_after k m g h i e) in
    (r.0, rw (r.1, alike_answer k m i e))

-- One of two that are alike is sound where the other is.
alike_sound : (k m : Kept) → OnlyOriginsDiffer k m → Sound k → Sound m
alike_sound k m e w =
    record {
      store = subst WellFormed e.store w.store;
      held = subst (λ n. m.store.counts.rows ≤ n) e.many (subst (λ t. t.counts.rows ≤ length k.origins) e.store w.held);
    }

alike_back : (k m : Kept) → OnlyOriginsDiffer k m → OnlyOriginsDiffer m k
alike_back k m e = record { store = sym e.store; many = sym e.many }

-- What equals two that have one store has one.
stores : {k m k' m' : Kept} → k' ≡ k → m' ≡ m → k.store ≡ m.store → k'.store ≡ m'.store
stores f f' e = ap (λ z. z.store) f ∙ e ∙ sym (ap (λ z. z.store) f')

-- Two intakes of one stretch into stores that differ only in origins, whatever origins are given: one answer, one store, one list.
module _ (k m : Kept) (g h : ℕ) (s l : List ℕ) (e : OnlyOriginsDiffer k m) where
  apart : (k' m' : Kept) (l' l'' : List ℕ) (a b : Result ℕ Refusal) → TakesIn k g s l k' l' a → TakesIn m h s l m' l'' b
      → (a ≡ b) × ((k'.store ≡ m'.store) × (l' ≡ l''))
  apart k' m' l' l'' a b (intake.damaged n x f y) (intake.damaged n' x' f' y') = (x ∙ sym x', (stores f f' e.store, y ∙ sym y'))
  apart k' m' l' l'' a b (intake.damaged n x f y) (intake.no_room w c x' f' y') = absurd (n (alike_sound m k (alike_back k m e) w))
  apart k' m' l' l'' a b (intake.damaged n x f y) (intake.taken_in w c x' f') = absurd (n (alike_sound m k (alike_back k m e) w))
  apart k' m' l' l'' a b (intake.no_room w c x f y) (intake.damaged n' x' f' y') = absurd (n' (alike_sound k m e w))
  apart k' m' l' l'' a b (intake.no_room w c x f y) (intake.no_room w' c' x' f' y') = (x ∙ sym x', (stores f f' e.store, y ∙ sym y'))
  apart k' m' l' l'' a b (intake.no_room w c x f y) (intake.taken_in w' c' x' f') = absurd (omega arith)
  apart k' m' l' l'' a b (intake.taken_in w c x f) (intake.damaged n' x' f' y') = absurd (n' (alike_sound k m e w))
  apart k' m' l' l'' a b (intake.taken_in w c x f) (intake.no_room w' c' x' f' y') = absurd (omega arith)
  apart k' m' l' l'' a b (intake.taken_in w c x f) (intake.taken_in w' c' x' f') =
      let r = alike_all k m g h (items_of s) e in
      (x ∙ sym x', (stores f.kept f'.kept r.0.store, f.list ∙ rw r.1 (sym f'.list)))

  pub plain_intakes_differ : (k' m' : Kept) (l' l'' : List ℕ) (r q : IntakeAnswer) → TakesInPlainly k g s l k' l' r → TakesInPlainly m h s l m' l'' q
      → ((r.number ≡ q.number) × (r.items ≡ q.items)) × ((k'.store ≡ m'.store) × (l' ≡ l''))
  plain_intakes_differ k' m' l' l'' r q p o =
      let x = apart k' m' l' l'' p.answer o.answer p.takes o.takes in
      ((p.number ∙ ap written_number x.0 ∙ sym o.number, p.items ∙ ap written_count x.0 ∙ sym o.items), x.1)

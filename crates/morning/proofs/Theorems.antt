-- One call for all equals a call for each.
-- Assumes nothing.
use Rattle.std.specs.Prelude.{Result, Err}
use mathlib.Core.Path.{◌≡◌, refl, sym, ap, ◌∙◌}
use mathlib.Core.List.{List, [], ◌∷◌}
use Prim.Native.Nat.{ℕ}
use native.Mathlib.Omega.{arith}
use Rattle.answers.specs.declared.Refusal.{Refusal}
use Rattle.item.specs.Layout.{layout_of}
use Rattle.judging.specs.Verdict.{then_judged}
use Rattle.admission.specs.After.{store_by}
use Rattle.admission.specs.declared.Admitted.{Admitted}
use Rattle.origins.specs.Origins.{AdmitsFrom, damaged, sound}
use Rattle.origins.proofs.Theorems.{from_keeps}
use Rattle.morning.specs.Intake.{Kept, kept_after, kept_after_all, answer_to, answers_to, OneByOne, listed, Sound, TakesIn}
use Rattle.morning.specs.Intake as intake
use Rattle.morning.proofs.Going.{kept_after_lem}

-- What an admission of a sound store leaves.
kept_by : (g : ℕ) (k : Kept) (i : List ℕ) (l : Kept) (a : Admitted) → Sound k → AdmitsFrom k.store k.origins g i l.store l.origins a
    → (l ≡ kept_after k g i) × (a ≡ answer_to k i)
kept_by g k i l a f (damaged d e x y) = absurd (d f)
kept_by g k i l a f (sound w j) = (kept_after_lem k g i l a j, j.answer)

-- However the items are admitted one by one to a sound store, what is kept and every number and row are those of the one call.
pub one_call_is_many : (g : ℕ) {k : Kept} {is : List (List ℕ)} {m : Kept} {given : List Admitted} → Sound k → OneByOne g k is m given
    → (m ≡ kept_after_all k g is) × (listed given ≡ answers_to k g is)
unfolding kept_after_all answers_to listed
one_call_is_many g f (OneByOne.none_left k) = (refl, refl)
one_call_is_many g f (OneByOne.one_more k i l a is m given h rest) =
    let b = kept_by g k i l a f h in
    let r = one_call_is_many g (from_keeps k.store k.origins g i l.store l.origins a h f) rest in
    (r.0 ∙ ap (λ x. kept_after_all x g is) b.0, rw (r.1, b.1, b.0))

-- The same stretch, origin, store and list have one answer.
pub one_intake : (k : Kept) (g : ℕ) (s l : List ℕ) (k' k'' : Kept) (l' l'' : List ℕ) (a b : Result ℕ Refusal) → TakesIn k g s l k' l' a → TakesIn k g s l k'' l'' b
    → (a ≡ b) × ((k' ≡ k'') × (l' ≡ l''))
one_intake k g s l k' k'' l' l'' a b (intake.damaged n e f h) (intake.damaged n' e' f' h') = (e ∙ sym e', (f ∙ sym f', h ∙ sym h'))
one_intake k g s l k' k'' l' l'' a b (intake.damaged n e f h) (intake.no_room w c e' f' h') = absurd (n w)
one_intake k g s l k' k'' l' l'' a b (intake.damaged n e f h) (intake.taken_in w c e' f') = absurd (n w)
one_intake k g s l k' k'' l' l'' a b (intake.no_room w c e f h) (intake.damaged n e' f' h') = absurd (n w)
one_intake k g s l k' k'' l' l'' a b (intake.no_room w c e f h) (intake.no_room w' c' e' f' h') = (e ∙ sym e', (f ∙ sym f', h ∙ sym h'))
one_intake k g s l k' k'' l' l'' a b (intake.no_room w c e f h) (intake.taken_in w' c' e' f') = absurd (omega arith)
one_intake k g s l k' k'' l' l'' a b (intake.taken_in w c e f) (intake.damaged n e' f' h') = absurd (n w)
one_intake k g s l k' k'' l' l'' a b (intake.taken_in w c e f) (intake.no_room w' c' e' f' h') = absurd (omega arith)
one_intake k g s l k' k'' l' l'' a b (intake.taken_in w c e f) (intake.taken_in w' c' e' f') =
    (e ∙ sym e', (f.kept ∙ sym f'.kept, f.list ∙ sym f'.list))

-- The answers to the items, each from what is kept then.
abbrev pub given_to : ℕ → Kept → List (List ℕ) → List Admitted
given_to g k [] = []
given_to g k (i ∷ is) = answer_to k i ∷ given_to g (kept_after k g i) is

-- Such admissions there are: each answer is the one that its item has.
pub one_by_one : (g : ℕ) (k : Kept) (is : List (List ℕ)) → Sound k → OneByOne g k is (kept_after_all k g is) (given_to g k is)
unfolding kept_after_all
one_by_one g k [] f = OneByOne.none_left k
one_by_one g k (i ∷ is) f =
    let h : AdmitsFrom k.store k.origins g i (kept_after k g i).store (kept_after k g i).origins (answer_to k i) =
    sound f (record { answer = refl; after = refl; origins = refl }) in
    OneByOne.one_more k i (kept_after k g i) (answer_to k i) is (kept_after_all (kept_after k g i) g is) (given_to g (kept_after k g i) is) h
    (one_by_one g (kept_after k g i) is (from_keeps k.store k.origins g i (kept_after k g i).store (kept_after k g i).origins (answer_to k i) h f))

-- Items whose layouts have one refusal have one answer, and the same is kept after them.
pub refused_alike : (k : Kept) (g : ℕ) (x y : List ℕ) (why : Refusal) → layout_of x ≡ Err why → layout_of y ≡ Err why
    → (answer_to k x ≡ answer_to k y) × (kept_after k g x ≡ kept_after k g y)
unfolding then_judged store_by
refused_alike k g x y why e f = (rw (e, f), rw (e, f))

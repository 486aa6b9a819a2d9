-- What is certain of the plain answer to a whole intake: there is one, and what is kept and listed is what `snowknoll_admit` gives item by
-- item.
-- Assumes nothing.
use Prim.Native.Nat.{ℕ, ◌*◌}
use mathlib.Core.Path.{◌≡◌, refl, sym, ap, subst, ◌∙◌}
use mathlib.Core.List.{List, [], ◌∷◌, ◌++◌}
use native.Mathlib.Omega.{arith}
use lib.ListN.{drop}
use Rattle.answers.specs.Answers.{written_number, written_count}
use Rattle.admission.specs.Answer.{answer_number, answer_row}
use Rattle.admission.specs.declared.Admitted.{Admitted}
use Rattle.cutting.specs.Cutting.{items_of}
use Rattle.morning.specs.Intake.{Kept, answer_width, TakesIn, OneByOne, listed, Sound}
use Rattle.morning.proofs.Theorems.{one_call_is_many, one_by_one, one_intake, given_to}
use Rattle.morning.specs.Intake as intake
use Rattle.plain.specs.declared.taking.IntakeAnswer.{IntakeAnswer}
use Rattle.host.specs.Calls.{AdmitsPlainly}
use Rattle.host.specs.Taking.{TakesInPlainly, AdmittedPlainly}

-- An intake has one number and one count of items, and leaves one store, counts included, one list of origins and one list of answers.
pub one_plain_intake : (k : Kept) (g : ℕ) (s l : List ℕ) (k' k'' : Kept) (l' l'' : List ℕ) (r q : IntakeAnswer)
    → TakesInPlainly k g s l k' l' r → TakesInPlainly k g s l k'' l'' q → ((r.number ≡ q.number) × (r.items ≡ q.items)) × ((k' ≡ k'') × (l' ≡ l''))
one_plain_intake k g s l k' k'' l' l'' r q p o =
    let e = one_intake k g s l k' k'' l' l'' p.answer o.answer p.takes o.takes in
    ((p.number ∙ ap written_number e.0 ∙ sym o.number, p.items ∙ ap written_count e.0 ∙ sym o.items), e.1)

-- The admissions behind calls of `snowknoll_admit` one by one.
record Behind (g : ℕ) (k : Kept) (is : List (List ℕ)) (m : Kept) (given : List ℕ) : Type 0 where
  answers : List Admitted
  admitted : OneByOne g k is m answers
  same : listed answers ≡ given

-- Each run of such calls has them.
behind : (g : ℕ) {k : Kept} {is : List (List ℕ)} {m : Kept} {given : List ℕ} → AdmittedPlainly g k is m given → Behind g k is m given
unfolding listed
behind g (AdmittedPlainly.none_left k) = record { answers = []; admitted = OneByOne.none_left k; same = refl }
behind g (AdmittedPlainly.one_more k i l r is m given p rest) =
    let b = behind g rest in
    record {
      answers = p.answer ∷ b.answers;
      admitted = OneByOne.one_more k i l p.answer is m b.answers p.admits b.admitted;
      same = rw (p.number, p.row, b.same);
    }

-- Document 02, §4: "The store and every answer equal those of admitting the items one by one in order, refusals between admissions included",
-- where the call is not refused: whatever calls of `snowknoll_admit` on the items in turn leave and answer, it leaves and lists.
pub plain_call_is_many : (k : Kept) (g : ℕ) (s l : List ℕ) (k' : Kept) (l' : List ℕ) (r : IntakeAnswer) (m : Kept) (given : List ℕ)
    → TakesInPlainly k g s l k' l' r → r.number ≡ 0 → AdmittedPlainly g k (items_of s) m given
    → (k' ≡ m) × (l' ≡ given ++ drop (answer_width * r.items) l)
plain_call_is_many k g s l k' l' r m given p z calls = by p.takes
  where
    by : TakesIn k g s l k' l' p.answer → (k' ≡ m) × (l' ≡ given ++ drop (answer_width * r.items) l)
    by (intake.damaged n e f h) = let x : ◌≡◌ {A = ℕ} 1 0 = sym (p.number ∙ ap written_number e) ∙ z in absurd (omega arith)
    by (intake.no_room w c e f h) = let x : ◌≡◌ {A = ℕ} 21 0 = sym (p.number ∙ ap written_number e) ∙ z in absurd (omega arith)
    by (intake.taken_in w c e f) =
        let b = behind g calls in
        let o = one_call_is_many g w b.admitted in
        let n = p.items ∙ ap written_count e in
        (f.kept ∙ sym o.0, f.list ∙ rw (n, sym b.same, o.1))

-- Such calls there are, of a store that is well formed and has an origin for each row.
pub plain_one_by_one : (g : ℕ) (k : Kept) (is : List (List ℕ)) → Sound k → (m : Kept) × (AdmittedPlainly g k is m (listed (given_to g k is)))
unfolding listed
plain_one_by_one g k is w = (_, plainly (one_by_one g k is w))
  where
    plainly : {h : Kept} {js : List (List ℕ)} {m : Kept} {given : List Admitted} → OneByOne g h js m given → AdmittedPlainly g h js m (listed given)
    plainly (OneByOne.none_left h) = AdmittedPlainly.none_left h
    plainly (OneByOne.one_more h i l a js m given p rest) =
        AdmittedPlainly.one_more h i l (record { number = answer_number a; row = answer_row a; counts = l.store.counts }) js m (listed given)
        (record { answer = a; admits = p; number = refl; row = refl })
        (plainly rest)

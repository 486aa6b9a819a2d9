-- What holds of the numbers that the desk's C functions answer. The ids are bytes, as a lent part's are.
-- Assumes nothing.
use Rattle.std.specs.Prelude.{Option, Some, None, Result, Ok, Err}
use Rattle.answers.specs.declared.Refusal.{Refusal}
use Prim.Native.Nat.{ℕ, ◌≤◌}
use mathlib.Core.Path.{◌≡◌, refl, sym, ap, ◌∙◌}
use mathlib.Core.Bool.{Bool, true, false}
use mathlib.Core.List.{List}
use native.Mathlib.Omega.{arith}
use Rattle.basics.specs.Bytes.{Bytes}
use Rattle.answers.specs.Answers.{yes_number}
use Rattle.answers.proofs.Distinct.{refusal_never_13, not_done}
use Rattle.store.specs.Table.{Table}
use Rattle.admission.specs.Answer.{answer_number, answer_row}
use Rattle.admission.proofs.Unused.{admitted_never_13}
use Rattle.plain.specs.declared.AdmitAnswer.{AdmitAnswer}
use Rattle.desk.specs.Desk.{Desk}
use Rattle.desk.proofs.Theorems.{one_admission}
use Rattle.releases.specs.declared.Shown.{Shown}
use Rattle.releases.specs.Current.{expanded_at, HasRelease, NoRelease}
use Rattle.releases.specs.Calls.{Answers, current_number}
use Rattle.releases.proofs.Theorems.{one_answer, yes_is_one}
use Rattle.desk_host.specs.declared.ReleaseAnswer.{ReleaseAnswer}
use Rattle.desk_host.specs.Calls.{release_answer, DeskPlainly, ShowsPlainly, DeskAnswered}

-- The desk's admission has one number and one row, and leaves one store, counts included, and one desk.
pub one_plain_desk : (t : Table) (d : Desk) (g : ℕ) (s : List ℕ) (u v : Table) (d' e' : Desk) (r q : AdmitAnswer) → DeskPlainly t d g s u d' r
    → DeskPlainly t d g s v e' q → ((r.number ≡ q.number) × (r.row ≡ q.row)) × ((u ≡ v) × (d' ≡ e'))
one_plain_desk t d g s u v d' e' r q a b =
    let e = one_admission t d g s u v d' e' a.answer b.answer a.admits b.admits in
    ((a.number ∙ ap answer_number e.0 ∙ sym b.number, a.row ∙ ap answer_row e.0 ∙ sym b.row), e.1)

-- A current release has one answer.
pub one_plain_release : (t : Table) (f cs es owners : List ℕ) (c : ℕ) (r q : ReleaseAnswer) → Bytes t.ids → ShowsPlainly t f cs es owners c r
    → ShowsPlainly t f cs es owners c q → r ≡ q
one_plain_release t f cs es owners c r q b x y =
    x.plainly ∙ ap release_answer (one_answer t b f cs es owners c x.answer y.answer x.promised y.promised) ∙ sym y.plainly

-- 0 AND ROW 0 SAY THAT THERE IS NONE, 0 and any other row that there is a release there: what an answer with the number 0 tells.
pub data Told (t : Table) (f cs es owners : List ℕ) (c : ℕ) (r : ReleaseAnswer) : Type 0 where
  none : r.row ≡ 0 → NoRelease t f cs owners c → Told t f cs es owners c r
  shown : 1 ≤ r.row → (x : Shown) → HasRelease t f cs es owners c x → r ≡ release_answer (Ok (Some x)) → Told t f cs es owners c r

pub release_on_zero : (t : Table) (f cs es owners : List ℕ) (c : ℕ) (r : ReleaseAnswer) → ShowsPlainly t f cs es owners c r → r.number ≡ 0
    → Told t f cs es owners c r
release_on_zero t f cs es owners c r p e = given p.answer p.promised p.plainly
  where
    given : (a : Result (Option Shown) Refusal) → Answers t f cs es owners c a → r ≡ release_answer a → Told t f cs es owners c r
    given (Ok (Some x)) (k, h) g =
        let z : r.row ≡ x.row = ap (λ (y : ReleaseAnswer). y.row) g in
        let l = h.shows.current.one.message.some in
        shown (omega arith) x h g
    given (Ok None) (k, h) g = none (ap (λ (y : ReleaseAnswer). y.row) g) h
    given (Err why) h g = absurd (not_done why (sym (ap (λ (y : ReleaseAnswer). y.number) g) ∙ e))

-- Yes is 1, and no is 0.
yes_of : (b : Bool) → yes_number b ≡ 1 → b ≡ true
yes_of true e = refl
yes_of false e = absurd (omega arith)

-- NOTHING BUT 1 IS YES: where the answer says 1, the byte in the row's place is 1.
pub plain_yes_is_one : (t : Table) (f cs es owners : List ℕ) (c : ℕ) (r : ReleaseAnswer) → ShowsPlainly t f cs es owners c r → r.expanded ≡ 1
    → expanded_at es r.row ≡ 1
plain_yes_is_one t f cs es owners c r p e = given p.answer p.promised p.plainly
  where
    given : (a : Result (Option Shown) Refusal) → Answers t f cs es owners c a → r ≡ release_answer a → expanded_at es r.row ≡ 1
    given (Ok (Some x)) h g =
        let y : x.expanded ≡ true = yes_of x.expanded (sym (ap (λ (z : ReleaseAnswer). z.expanded) g) ∙ e) in
        ap (λ (z : ReleaseAnswer). expanded_at es z.row) g ∙ (yes_is_one t f cs es owners c x h).0 y
    given (Ok None) h g = let z : r.expanded ≡ 0 = ap (λ (y : ReleaseAnswer). y.expanded) g in absurd (omega arith)
    given (Err why) h g = let z : r.expanded ≡ 0 = ap (λ (y : ReleaseAnswer). y.expanded) g in absurd (omega arith)

-- No current release is answered 13.
current_never_13 : (a : Result (Option Shown) Refusal) → current_number a ≡ 13 → ⊥
current_never_13 (Ok (Some x)) e = omega arith
current_never_13 (Ok None) e = omega arith
current_never_13 (Err why) e = refusal_never_13 why e

-- NO CALL OF THE DESK ANSWERS 13.
pub desk_never_13 : (n : ℕ) → DeskAnswered n → n ≡ 13 → ⊥
desk_never_13 n (DeskAnswered.desk_admit t d g s u d' r p e) h = admitted_never_13 p.answer (sym p.number ∙ e ∙ h)
desk_never_13 n (DeskAnswered.current_release t f cs es owners c r p e) h =
    current_never_13 p.answer (sym (ap (λ (x : ReleaseAnswer). x.number) p.plainly) ∙ e ∙ h)

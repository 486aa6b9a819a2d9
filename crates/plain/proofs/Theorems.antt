-- What is certain of the plain forms: a merge with numbers that are no state is answered 17, and the stretch is the payload.
-- Assumes nothing.
use Rattle.std.specs.Prelude.{Result, Ok, Err}
use Rattle.answers.specs.declared.Refusal.{Refusal}
use Rattle.item.specs.declared.Fields.{Fields}
use Prim.Native.Nat.{ℕ}
use mathlib.Core.Path.{◌≡◌, refl}
use mathlib.Core.Logic.{◌⊎◌, inl, inr}
use mathlib.Core.List.{List}
use lib.ListN.{take, drop}
use Rattle.item.specs.Layout.{layout_of, payload_in, payload_of}
use Rattle.store.specs.Table.{Table, WellFormed}
use Rattle.logs.specs.Calls.{Merges}
use Rattle.logs.specs.Refusals.{ValidIn, PairRefused}
use Rattle.logs.specs.declared.LogState.{LogState}
use Rattle.plain.specs.declared.states.State.{State}
use Rattle.plain.specs.Plain.{log_of, state_answer, stretch_answer, IsState}
use Rattle.plain.proofs.Reading.{valid_is_state}

-- NUMBERS THAT ARE NO STATE

-- A call on two states, one of them not valid, over a well_formed store, is refused with 17.
pair_17 : (t : Table) (k l : LogState) (n : ℕ) → WellFormed t → (ValidIn t k → ⊥) ⊎ (ValidIn t l → ⊥) → PairRefused t k l n → n ≡ 17
pair_17 t k l n w h (PairRefused.not_well_formed e f) = absurd (f w)
pair_17 t k l n w h (PairRefused.first_not_valid e x f) = e
pair_17 t k l n w h (PairRefused.second_not_valid e x v f) = e
pair_17 t k l n w (inl h) (PairRefused.two_authors e x v u f) = absurd (h v)
pair_17 t k l n w (inr h) (PairRefused.two_authors e x v u f) = absurd (h u)

-- A merge with five numbers that are no state is answered 17.
pub no_state_17 : (t : Table) (a b : State) (m : Result LogState Refusal) → WellFormed t → (IsState a → ⊥) ⊎ (IsState b → ⊥) → Merges t (log_of a) (log_of b) m
    → (state_answer m).number ≡ 17
unfolding state_answer
no_state_17 t a b m w h p = refused m p
  where
    bad : (IsState a → ⊥) ⊎ (IsState b → ⊥) → (ValidIn t (log_of a) → ⊥) ⊎ (ValidIn t (log_of b) → ⊥)
    bad (inl f) = inl (λ v. f (valid_is_state t a v))
    bad (inr f) = inr (λ v. f (valid_is_state t b v))

    clash : (ValidIn t (log_of a) → ⊥) ⊎ (ValidIn t (log_of b) → ⊥) → ValidIn t (log_of a) → ValidIn t (log_of b) → ⊥
    clash (inl f) v u = f v
    clash (inr f) v u = f u

    refused : (m : Result LogState Refusal) → Merges t (log_of a) (log_of b) m → (state_answer m).number ≡ 17
    refused (Ok k) d = absurd (clash (bad h) d.accepted.first d.accepted.second)
    refused (Err why) d = pair_17 t (log_of a) (log_of b) _ w (bad h) d

-- ITEMS

-- The stretch is the payload.
pub stretch_is_payload : (s : List ℕ) → take (stretch_answer (layout_of s)).length (drop (stretch_answer (layout_of s)).start s) ≡ payload_of s
unfolding payload_in
stretch_is_payload s = of (layout_of s)
  where
    of : (l : Result Fields Refusal) → take (stretch_answer l).length (drop (stretch_answer l).start s) ≡ payload_in l s
    of (Ok f) = refl
    of (Err r) = refl

-- Document 02, request 10: "13 is never given", of every C function.
-- Assumes nothing.
use Rattle.std.specs.Prelude.{Result, Ok, Err}
use Rattle.rescue.specs.declared.Clean.{Clean}
use Rattle.answers.specs.declared.Refusal.{Refusal}
use Rattle.item.specs.declared.Fields.{Fields}
use Prim.Native.Nat.{ℕ}
use mathlib.Core.List.{[]}
use mathlib.Core.Path.{◌≡◌, refl, sym, ap, ◌∙◌}
use native.Mathlib.Omega.{arith}
use Rattle.answers.proofs.Distinct.{refusal_never_13}
use Rattle.answers.proofs.Unused.{written_never_13}
use Rattle.item.specs.Layout.{layout_of}
use Rattle.item.specs.Answers.{layout_number}
use Rattle.store.specs.Clauses.{table_of}
use Rattle.store.proofs.Validity.{empty_well_formed}
use Rattle.admission.proofs.Unused.{admitted_never_13}
use Rattle.plain.specs.declared.PrefixAnswer.{PrefixAnswer}
use Rattle.plain.specs.declared.StateAnswer.{StateAnswer}
use Rattle.plain.specs.declared.YesAnswer.{YesAnswer}
use Rattle.plain.specs.declared.CountAnswer.{CountAnswer}
use Rattle.plain.specs.declared.OriginAnswer.{OriginAnswer}
use Rattle.plain.specs.declared.backsteps.BackstepAnswer.{BackstepAnswer}
use Rattle.plain.specs.declared.ItemAnswer.{ItemAnswer}
use Rattle.plain.specs.declared.StretchAnswer.{StretchAnswer}
use Rattle.plain.proofs.Unused.{row_never_13, state_never_13, yes_never_13, count_never_13, origin_never_13, item_never_13, stretch_never_13}
use Rattle.plain.proofs.Backstepped.{backstep_never_13}
use Rattle.host.specs.declared.rescuing.SalvageAnswer.{SalvageAnswer}
use Rattle.host.specs.Rescuing.{salvage_answer}
use Rattle.host.specs.Answered.{Answered}
use Rattle.host.specs.Calls.{Plainly, Inspects}

-- The number of a plain form is not 13, where no answer's is.
plain_never_13 : {A B : Type 0} {P : A → Type 0} {plain : A → B} (number : B → ℕ) → ((x : A) → number (plain x) ≡ 13 → ⊥) → (r : B)
    → Plainly B A P plain r → number r ≡ 13 → ⊥
plain_never_13 number h r p e = h p.answer (sym (ap number p.plainly) ∙ e)

-- No reading of an item is answered 13.
layout_never_13 : (l : Result Fields Refusal) → layout_number l ≡ 13 → ⊥
layout_never_13 (Ok f) e = omega arith
layout_never_13 (Err r) e = refusal_never_13 r e

-- No salvage is answered 13.
salvaged_never_13 : (a : Result Clean Refusal) → (salvage_answer a).number ≡ 13 → ⊥
salvaged_never_13 (Ok c) e = omega arith
salvaged_never_13 (Err why) e = refusal_never_13 why e

-- NO CALL ANSWERS 13.
pub call_never_13 : (n : ℕ) → Answered n → n ≡ 13 → ⊥
call_never_13 n (Answered.layout s r p e) g = item_never_13 (layout_of s) (sym (ap (λ (x : ItemAnswer). x.number) p) ∙ e ∙ g)
call_never_13 n (Answered.payload s r p e) g = stretch_never_13 (layout_of s) (sym (ap (λ (x : StretchAnswer). x.number) p) ∙ e ∙ g)
call_never_13 n (Answered.id s id id' p) g = layout_never_13 (layout_of s) (sym p.number ∙ g)
call_never_13 n (Answered.well_formed t (Inspects.sound e w)) g = omega arith
call_never_13 n (Answered.well_formed t (Inspects.damaged e w)) g = omega arith
call_never_13 n (Answered.admit t o h s u o' r p e) g = admitted_never_13 p.answer (sym p.number ∙ e ∙ g)
call_never_13 n (Answered.origin t o x r p e) g = plain_never_13 (λ (x : OriginAnswer). x.number) origin_never_13 r p (e ∙ g)
call_never_13 n (Answered.prefix t a b r p e) g = plain_never_13 (λ (x : PrefixAnswer). x.number) row_never_13 r p (e ∙ g)
call_never_13 n (Answered.append t s x r p e) g = plain_never_13 (λ (x : StateAnswer). x.number) state_never_13 r p (e ∙ g)
call_never_13 n (Answered.merge t a b r p e) g = plain_never_13 (λ (x : StateAnswer). x.number) state_never_13 r p (e ∙ g)
call_never_13 n (Answered.at_or_below t a b r p e) g = plain_never_13 (λ (x : YesAnswer). x.number) yes_never_13 r p (e ∙ g)
call_never_13 n (Answered.valid_frontier t f r p e) g = plain_never_13 (λ (x : YesAnswer). x.number) yes_never_13 r p (e ∙ g)
call_never_13 n (Answered.frontier_at_or_below t f h r p e) g = plain_never_13 (λ (x : YesAnswer). x.number) yes_never_13 r p (e ∙ g)
call_never_13 n (Answered.merge_frontiers t f h out out' r p e) g = plain_never_13 (λ (x : CountAnswer). x.number) count_never_13 r p (e ∙ g)
call_never_13 n (Answered.append_entry t f used x f' r p e) g = plain_never_13 (λ (x : CountAnswer). x.number) count_never_13 r p (e ∙ g)
call_never_13 n (Answered.packing_list t f out out' r p e) g = plain_never_13 (λ (x : CountAnswer). x.number) count_never_13 r p (e ∙ g)
call_never_13 n (Answered.write_standing t f out out' r p e) g = plain_never_13 (λ (x : CountAnswer). x.number) count_never_13 r p (e ∙ g)
call_never_13 n (Answered.read_standing u s out out' r p e) g = plain_never_13 (λ (x : CountAnswer). x.number) count_never_13 r p (e ∙ g)
call_never_13 n (Answered.write_item m out out' r p e) g = plain_never_13 (λ (x : CountAnswer). x.number) count_never_13 r p (e ∙ g)
call_never_13 n (Answered.branches t s out out' r p e) g = plain_never_13 (λ (x : CountAnswer). x.number) count_never_13 r p (e ∙ g)
call_never_13 n (Answered.take_in k h s l k' l' r p e) g = written_never_13 p.answer (sym p.number ∙ e ∙ g)
call_never_13 n (Answered.steady t r p e) g = plain_never_13 (λ (x : YesAnswer). x.number) yes_never_13 r p (e ∙ g)
call_never_13 n (Answered.backstep t r p e) g = plain_never_13 (λ (x : BackstepAnswer). x.number) backstep_never_13 r p (e ∙ g)
call_never_13 n (Answered.admit_catalogue t o h s u o' r p e) g = admitted_never_13 p.answer (sym p.number ∙ e ∙ g)
call_never_13 n (Answered.salvage stick l l' r p e) g = plain_never_13 (λ (x : SalvageAnswer). x.number) salvaged_never_13 r p (e ∙ g)

-- Some number is answered: 0, of an empty store.
pub zero_answered : Answered 0
zero_answered =
    Answered.well_formed (table_of [] [] [] [] [] (record { rows = 0; authors = 0; deps = 0 })) (Inspects.sound refl (empty_well_formed [] [] [] [] []))

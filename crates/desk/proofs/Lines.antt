-- Each refusal of the desk only where its line holds.
-- Assumes nothing.
use Rattle.std.specs.Prelude.{Result, Ok, Err}
use Prim.Native.Nat.{ℕ}
use mathlib.Core.Path.{◌≡◌, refl, sym, ap, subst, ◌∙◌}
use mathlib.Core.Bool.{Bool, true, false}
use mathlib.Core.List.{List}
use native.Mathlib.Omega.{arith}
use borrow.Author.Tests.{leb-true}
use lib.Dec.{leb}
use lib.ListN.{length}
use Rattle.basics.specs.Pick.{pick, either}
use Rattle.basics.proofs.Tests.{by_ltb}
use Rattle.answers.specs.declared.Refusal.{Refusal}
use Rattle.answers.specs.declared.Refusal.TheVariants.{Store, Full, Payload}
use Rattle.item.specs.Layout.{layout_of, payload_of}
use Rattle.item.specs.declared.Fields.{Fields}
use Rattle.store.specs.Table.{Table, WellFormed}
use Rattle.store.specs.declared.Row.{Row}
use Rattle.judging.specs.Verdict.{full, then_room, rules_of, judged_of, then_judged, verdict_of}
use Rattle.judging.specs.declared.Verdict.{Verdict}
use Rattle.judging.specs.declared.Verdict.TheVariants.{Fits, Holds, Breaks}
use Rattle.judging.proofs.Passing.{no_row}
use Rattle.admission.specs.After.{answer_of, store_after}
use Rattle.admission.specs.After as base
use Rattle.admission.specs.Lines.{store}
use Rattle.admission.specs.declared.Admitted.TheVariants.{Refused}
use Rattle.admission.proofs.Lining.{refused_only}
use Rattle.desk.specs.Payload.{is_release}
use Rattle.desk.specs.Desk.{Desk, places_in, then_payload, then_places, then_release, release_verdict, DeskAdmits, damaged, sound}
use Rattle.desk.specs.Desk.{DeskLine, admission, few_origins, payload, no_place}

-- A verdict that refuses, refuses for one reason.
broken_one : (x r : Refusal) → Breaks x ≡ Breaks r → x ≡ r
broken_one x r e = cc

-- No verdict that names a holder refuses.
held_not_broken : (q : ℕ) (r : Refusal) → Holds q ≡ Breaks r → ⊥
held_not_broken q r e = let z : ◌≡◌ {A = ℕ} 0 1 = cc in omega arith

module _ (t : Table) (w : WellFormed t) (d : Desk) (s : List ℕ) where
  -- What admission refuses, it refuses by its line.
  by_admission : (r : Refusal) → verdict_of t s ≡ Breaks r → DeskLine t d s r
  by_admission r e = admission (refused_only t s (store_after t s) r (base.sound w (record { answer = sym (ap (answer_of t) e); after = refl })))

  module _ (f : Fields) (laid : layout_of s ≡ Ok f) where
    -- The verdict of an item with these fields.
    by_fields : (r : Refusal) → judged_of t s f ≡ Breaks r → DeskLine t d s r
    unfolding then_judged
    by_fields r e = by_admission r (ap (then_judged t s) laid ∙ e)

    -- The tests after 15, on a row that the rules give: the payload,
    on_payload : (row : Row) → rules_of t s f ≡ Fits row → (b : Bool) → is_release (payload_of s) ≡ b → (r : Refusal)
        → then_places t (places_in d) (pick b (Fits row) (Breaks Payload)) ≡ Breaks r → DeskLine t d s r
    unfolding then_places then_room
    on_payload row g false i r e = subst (DeskLine t d s) (broken_one Payload r e) (payload f row laid g i)
    on_payload row g true i r e = on_places (leb (places_in d) t.counts.rows) refl (full t row) refl e
      where
        on_places : (b : Bool) → leb (places_in d) t.counts.rows ≡ b → (c : Bool) → full t row ≡ c
            → pick (either b c) (Breaks Full) (Fits row) ≡ Breaks r → DeskLine t d s r
        on_places true j c k h = subst (DeskLine t d s) (broken_one Full r h) (no_place (leb-true (places_in d) t.counts.rows j))
        on_places false j true k h = by_fields r (ap (then_room t) g ∙ ap (λ (x : Bool). pick x (Breaks Full) (Fits row)) k ∙ h)
        on_places false j false k h = absurd (no_row r row (sym h))

    by_rules : (v : Verdict) → rules_of t s f ≡ v → (r : Refusal) → then_places t (places_in d) (then_payload s v) ≡ Breaks r → DeskLine t d s r
    unfolding then_payload then_places then_room
    by_rules (Fits row) g r e = on_payload row g (is_release (payload_of s)) refl r e
    by_rules (Holds q) g r e = absurd (held_not_broken q r e)
    by_rules (Breaks x) g r e = by_fields r (ap (then_room t) g ∙ e)

  -- Any item, by its layout.
  by_layout : (l : Result Fields Refusal) → layout_of s ≡ l → (r : Refusal) → then_release t (places_in d) s l ≡ Breaks r → DeskLine t d s r
  unfolding then_release then_judged
  by_layout (Ok f) g r e = by_rules f g (rules_of t s f) refl r e
  by_layout (Err x) g r e = by_admission r (ap (then_judged t s) g ∙ e)

-- The verdict behind a refusal.
refused_verdict : (t : Table) (v : Verdict) (r : Refusal) → Refused r ≡ answer_of t v → v ≡ Breaks r
refused_verdict t (Fits row) r e = let z : ◌≡◌ {A = ℕ} 0 1 = cc in absurd (omega arith)
refused_verdict t (Holds q) r e = let z : ◌≡◌ {A = ℕ} 0 1 = cc in absurd (omega arith)
refused_verdict t (Breaks x) r e = cc

-- EACH REFUSAL ONLY WHERE ITS LINE HOLDS.
pub desk_refused_only : (t : Table) (d : Desk) (g : ℕ) (s : List ℕ) (u : Table) (d' : Desk) (r : Refusal) → DeskAdmits t d g s u d' (Refused r)
    → DeskLine t d s r
desk_refused_only t d g s u d' r (damaged n e f i) =
    let z : r ≡ Store = cc in
    subst (DeskLine t d s) (sym z)
    (by_ltb (λ (b : Bool). DeskLine t d s Store) (length d.origins) t.counts.rows few_origins
    (λ h. admission (store (λ w. n (record { store = w; held = h })))))
desk_refused_only t d g s u d' r (sound w j) =
    by_layout t w.store d s (layout_of s) refl r (refused_verdict t (release_verdict t (places_in d) s) r j.answer)

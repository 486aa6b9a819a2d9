-- The ends of an admission under the profile, one law an end, over plain values.
-- Assumes nothing.
use Rattle.std.specs.Prelude.{Result, Ok, Err}
use Prim.Native.Nat.{ℕ, ◌-◌, ◌≤◌, ◌<◌}
use mathlib.Core.Path.{◌≡◌, refl, sym, ap, subst, ◌∙◌}
use mathlib.Core.Bool.{Bool}
use mathlib.Core.List.{List}
use native.Mathlib.Omega.{arith}
use lib.ListN.{length, set}
use Rattle.basics.proofs.Tests.{by_leb}
use Rattle.answers.specs.declared.Refusal.{Refusal}
use Rattle.answers.specs.declared.Refusal.TheVariants.{Full, Backstep}
use Rattle.item.specs.Layout.{layout_of}
use Rattle.item.specs.declared.Fields.{Fields}
use Rattle.store.specs.Table.{Table}
use Rattle.store.specs.declared.Row.{Row}
use Rattle.judging.specs.Message.{next_row}
use Rattle.judging.specs.Verdict.{rules_of, judged_of, verdict_of}
use Rattle.judging.specs.declared.Verdict.{Verdict}
use Rattle.judging.specs.declared.Verdict.TheVariants.{Fits, Holds, Breaks}
use Rattle.judging.proofs.Passing.{no_row, holds_no_row}
use Rattle.admission.specs.After.{Judged, answer_of, admitted}
use Rattle.admission.specs.declared.Admitted.{Admitted}
use Rattle.admission.specs.declared.Admitted.TheVariants.{Done, Held, Refused}
use Rattle.admission.proofs.Writing.{item_done, item_held, item_refused, layout_sound, layout_refused}
use Rattle.origins.specs.Origins.{without_place, origins_after, JudgedFrom}
use Rattle.origins.proofs.Placing.{unplaced_fits, unplaced_held, unplaced_broken, unplaced_sound, unplaced_unsound, judged_unplaced, judged_placed}
use Rattle.catalogue.specs.Profile.{StepsOn, ProfileVerdict, steps_back, steps_on, JudgedUnder, stepped_back, judged}

-- A row is given: the message keeps M7, and 6 to 16 give the row.
pub under_fits : (t : Table) (s : List ℕ) (f : Fields) (v : Verdict) (row : Row) → ProfileVerdict t s f v → v ≡ Fits row
    → StepsOn t s f × (judged_of t s f ≡ Fits row)
under_fits t s f v row (steps_back b e) g = absurd (no_row Backstep row (sym e ∙ g))
under_fits t s f v row (steps_on k e) g = (k, sym e ∙ g)

-- A holding row is named: 6 to 16 name it.
pub under_holds : (t : Table) (s : List ℕ) (f : Fields) (v : Verdict) (r : ℕ) → ProfileVerdict t s f v → v ≡ Holds r
    → StepsOn t s f × (judged_of t s f ≡ Holds r)
under_holds t s f v r (steps_back b e) g =
    let q : Holds r ≡ Breaks Backstep = sym g ∙ e in
    let z : ◌≡◌ {A = ℕ} 0 1 = cc in
    absurd (omega arith)
under_holds t s f v r (steps_on k e) g = (k, sym e ∙ g)

-- What the rules do not let through steps on.
pub on_held : (t : Table) (s : List ℕ) (f : Fields) (r : ℕ) → rules_of t s f ≡ Holds r → StepsOn t s f
on_held t s f r e row g = absurd (holds_no_row r row (sym e ∙ g))

pub on_broken : (t : Table) (s : List ℕ) (f : Fields) (r : Refusal) → rules_of t s f ≡ Breaks r → StepsOn t s f
on_broken t s f r e row g = absurd (no_row r row (sym e ∙ g))

-- An item has one list of fields.
pub on_all : (t : Table) (s : List ℕ) (f : Fields) → layout_of s ≡ Ok f → StepsOn t s f → (g : Fields) → layout_of s ≡ Ok g → StepsOn t s g
on_all t s f e k g h = let q : Ok f ≡ Ok g = sym e ∙ h in let z : f ≡ g = cc in subst (StepsOn t s) z k

-- An item whose layout is refused has none.
pub on_none : (t : Table) (s : List ℕ) (l : Result Fields Refusal) (r : Refusal) → l ≡ layout_of s → l ≡ Err r → (g : Fields) → layout_of s ≡ Ok g → StepsOn t s g
on_none t s l r e f g h =
    let q : Err r ≡ Ok g = sym f ∙ e ∙ h in
    let z : ◌≡◌ {A = ℕ} 0 1 = cc in
    absurd (omega arith)

-- An answer that is given with or without a place for a row, and changes nothing.
still_judged : (t : Table) (o : List ℕ) (g : ℕ) (s : List ℕ) (a : Admitted) → ((w : Table) → a ≡ answer_of w (without_place (verdict_of t s)))
    → Judged t s t a → o ≡ origins_after o g a → JudgedFrom t o g s t o a
still_judged t o g s a e j k =
    by_leb (λ (b : Bool). JudgedFrom t o g s t o a) (length o) t.counts.rows (λ h. judged_unplaced t o g s a h e)
    (λ h. judged_placed t o g s t o a h j k)

module _ (t : Table) (o : List ℕ) (g : ℕ) (s : List ℕ) (f : Fields) (laid : layout_of s ≡ Ok f) where
  -- There is no place for the row's origin.
  pub placeless : (row : Row) → judged_of t s f ≡ Fits row → length o ≤ t.counts.rows → JudgedFrom t o g s t o (Refused Full)
  placeless row e h =
      judged_unplaced t o g s (Refused Full) h
      (unplaced_sound t s (layout_of s) f (Refused Full) refl laid (unplaced_fits (judged_of t s f) (judged_of t s f) row refl e))

  -- The row was written, and its origin.
  pub placed : (row : Row) (u : Table) (o' : List ℕ) (n : ℕ) → judged_of t s f ≡ Fits row → t.counts.rows < length o → u ≡ admitted t s f row
      → n ≡ next_row t → o' ≡ set o t.counts.rows g → JudgedFrom t o g s u o' (Done n)
  placed row u o' n e h k i j =
      let z : t.counts.rows ≡ n - 1 = omega arith in
      judged_placed t o g s u o' (Done n) h
      (layout_sound t s (layout_of s) refl f u (Done n) laid (item_done t s f (judged_of t s f) refl row u n e k i))
      (j ∙ ap (λ (x : ℕ). set o x g) z)

  -- The item is held.
  pub held : (r n : ℕ) → judged_of t s f ≡ Holds r → n ≡ r → JudgedFrom t o g s t o (Held n)
  held r n e h =
      still_judged t o g s (Held n)
      (unplaced_sound t s (layout_of s) f (Held n) refl laid (unplaced_held (judged_of t s f) (judged_of t s f) r n refl e h))
      (layout_sound t s (layout_of s) refl f t (Held n) laid (item_held t s f (judged_of t s f) refl r n e h)) refl

  -- A rule is broken.
  broken : (r : Refusal) → judged_of t s f ≡ Breaks r → JudgedFrom t o g s t o (Refused r)
  broken r e =
      still_judged t o g s (Refused r)
      (unplaced_sound t s (layout_of s) f (Refused r) refl laid (unplaced_broken (judged_of t s f) (judged_of t s f) r refl e))
      (layout_sound t s (layout_of s) refl f t (Refused r) laid (item_refused t s f (judged_of t s f) refl r e)) refl

  -- A rule is broken, M7 among them.
  pub under_breaks : (v : Verdict) (r : Refusal) → ProfileVerdict t s f v → v ≡ Breaks r → JudgedUnder t o g s t o (Refused r)
  under_breaks v r (steps_back b e) h =
      let q : Breaks r ≡ Breaks Backstep = sym h ∙ e in
      let z : r ≡ Backstep = cc in
      stepped_back f laid b (ap Refused z) refl refl
  under_breaks v r (steps_on k e) h = judged (on_all t s f laid k) (broken r (sym e ∙ h))

-- The layout is refused.
pub unlaid : (t : Table) (o : List ℕ) (g : ℕ) (s : List ℕ) (l : Result Fields Refusal) (r : Refusal) → l ≡ layout_of s → l ≡ Err r
    → JudgedUnder t o g s t o (Refused r)
unlaid t o g s l r e f =
    judged (on_none t s l r e f)
    (still_judged t o g s (Refused r) (unplaced_unsound t s l r e f) (layout_refused t s l e r f) refl)

-- An admission with origins, by whether there is a place for a row.
-- Assumes nothing.
use Rattle.std.specs.Prelude.{Result, Ok, Err}
use Prim.Native.Nat.{ℕ, ◌-◌, ◌≤◌, ◌<◌, min}
use mathlib.Core.Path.{◌≡◌, refl, sym, ap, subst, ◌∙◌}
use mathlib.Core.Bool.{Bool, true, false}
use mathlib.Core.List.{List, []}
use native.Mathlib.Omega.{arith}
use borrow.Author.Tests.{le-leb, lt-leb}
use lib.ListN.{length, take, drop, length-drop, drop_of_length-le}
use lib.Dec.{leb}
use lib.Seq.{take_all, take-nil}
use Rattle.basics.specs.Pick.{pick}
use Rattle.basics.proofs.Tests.{by_leb}
use Rattle.answers.specs.declared.Refusal.{Refusal}
use Rattle.answers.specs.declared.Refusal.TheVariants.{Full}
use Rattle.item.specs.Layout.{layout_of}
use Rattle.item.specs.declared.Fields.{Fields}
use Rattle.store.specs.Table.{Table}
use Rattle.store.specs.declared.Row.{Row}
use Rattle.judging.specs.Verdict.{judged_of, verdict_of, then_judged}
use Rattle.judging.specs.declared.Verdict.{Verdict}
use Rattle.judging.specs.declared.Verdict.TheVariants.{Fits, Holds, Breaks}
use Rattle.admission.specs.After.{Judged, answer_of, store_after}
use Rattle.admission.specs.declared.Admitted.{Admitted}
use Rattle.admission.specs.declared.Admitted.TheVariants.{Done, Held, Refused}
use Rattle.origins.specs.Origins.{without_place, origins_after, PlacedWithin, JudgedFrom, AdmitsFrom}

-- A new row's place.
pub placed_row : (n : ℕ) (a : Admitted) (row : ℕ) → a ≡ Done row → PlacedWithin n a → (1 ≤ row) × (row ≤ n)
placed_row n a row e p = subst (PlacedWithin n) e p

-- What the verdict without a place answers: FULL for a row that fits,
pub unplaced_fits : (v j : Verdict) (row : Row) → v ≡ j → v ≡ Fits row → (t : Table) → Refused Full ≡ answer_of t (without_place j)
unfolding without_place
unplaced_fits v j row e f t = rw (← e, f)

-- the row of a held item,
pub unplaced_held : (v j : Verdict) (r n : ℕ) → v ≡ j → v ≡ Holds r → n ≡ r → (t : Table) → Held n ≡ answer_of t (without_place j)
unfolding without_place
unplaced_held v j r n e f g t = rw (← e, f, g)

-- and any refusal.
pub unplaced_broken : (v j : Verdict) (r : Refusal) → v ≡ j → v ≡ Breaks r → (t : Table) → Refused r ≡ answer_of t (without_place j)
unfolding without_place
unplaced_broken v j r e f t = rw (← e, f)

-- The same of an item whose layout is sound,
pub unplaced_sound : (t : Table) (s : List ℕ) (l : Result Fields Refusal) (f : Fields) (a : Admitted) → l ≡ layout_of s → l ≡ Ok f
    → ((w : Table) → a ≡ answer_of w (without_place (judged_of t s f))) → (w : Table) → a ≡ answer_of w (without_place (verdict_of t s))
unfolding then_judged
unplaced_sound t s l f a e g h w = let z : layout_of s ≡ Ok f = sym e ∙ g in rw z (h w)

-- and of one whose layout is not.
pub unplaced_unsound : (t : Table) (s : List ℕ) (l : Result Fields Refusal) (r : Refusal) → l ≡ layout_of s → l ≡ Err r
    → (w : Table) → Refused r ≡ answer_of w (without_place (verdict_of t s))
unfolding then_judged without_place
unplaced_unsound t s l r e g w = let z : layout_of s ≡ Err r = sym e ∙ g in rw z

-- An answer without a place has no new row.
unplaced_stays : (t : Table) (o : List ℕ) (g : ℕ) (v : Verdict) → o ≡ origins_after o g (answer_of t (without_place v))
unfolding without_place
unplaced_stays t o g (Fits row) = refl
unplaced_stays t o g (Holds r) = refl
unplaced_stays t o g (Breaks r) = refl

-- There is no place for a row.
pub judged_unplaced : (t : Table) (o : List ℕ) (g : ℕ) (s : List ℕ) (a : Admitted) → length o ≤ t.counts.rows
    → ((w : Table) → a ≡ answer_of w (without_place (verdict_of t s))) → JudgedFrom t o g s t o a
judged_unplaced t o g s a h e =
    let b : leb (length o) t.counts.rows ≡ true = le-leb (length o) t.counts.rows h in
    record {
      answer = e t ∙ ap (λ (x : Bool). answer_of t (pick x (without_place (verdict_of t s)) (verdict_of t s))) (sym b);
      after = ap (λ (x : Bool). pick x t (store_after t s)) (sym b);
      origins = unplaced_stays t o g (verdict_of t s) ∙ ap (origins_after o g) (sym (e t));
    }

-- There is one: a new row has it,
pub placed_of : (t : Table) (o : List ℕ) (v : Verdict) (a : Admitted) → t.counts.rows < length o → a ≡ answer_of t v → PlacedWithin (length o) a
placed_of t o (Fits row) a h e = subst (PlacedWithin (length o)) (sym e) (omega arith, omega arith)
placed_of t o (Holds r) a h e = subst (PlacedWithin (length o)) (sym e) tt
placed_of t o (Breaks r) a h e = subst (PlacedWithin (length o)) (sym e) tt

-- and the item is judged as without origins.
pub judged_placed : (t : Table) (o : List ℕ) (g : ℕ) (s : List ℕ) (u : Table) (o' : List ℕ) (a : Admitted) → t.counts.rows < length o → Judged t s u a
    → o' ≡ origins_after o g a → JudgedFrom t o g s u o' a
judged_placed t o g s u o' a h j e =
    let b : leb (length o) t.counts.rows ≡ false = lt-leb (length o) t.counts.rows h in
    record {
      answer = j.answer ∙ ap (λ (x : Bool). answer_of t (pick x (without_place (verdict_of t s)) (verdict_of t s))) (sym b);
      after = j.after ∙ ap (λ (x : Bool). pick x t (store_after t s)) (sym b);
      origins = e;
    }

-- The part of a list from one place to another, cut to the list, is the part.
pub part_cut : (s : List ℕ) (start end : ℕ)
    → take (min end (length s) - min start (min end (length s))) (drop (min start (min end (length s))) s) ≡ take (end - start) (drop start s)
part_cut s start end =
    by_leb (λ _. cut ≡ part) (length s) start
    (λ h.
    let e : min end (length s) - min start (min end (length s)) ≡ 0 = omega arith in
    none (drop (min start (min end (length s))) s) e ∙ sym (ap (take (end - start)) (drop_of_length-le s h) ∙ take-nil (end - start)))
    (λ h. by_leb (λ _. cut ≡ part) end start
    (λ k.
    let e : min end (length s) - min start (min end (length s)) ≡ 0 = omega arith in
    let g : end - start ≡ 0 = omega arith in
    none (drop (min start (min end (length s))) s) e ∙ sym (none (drop start s) g))
    (λ k.
    let e : min start (min end (length s)) ≡ start = omega arith in
    ap (λ (i : ℕ). take (min end (length s) - i) (drop i s)) e
    ∙ by_leb (λ _. take (min end (length s) - start) (drop start s) ≡ part) end (length s)
    (λ l. let g : min end (length s) ≡ end = omega arith in rw g)
    (λ l.
    let n : length (drop start s) ≡ length s - start = length-drop start s in
    take_all (min end (length s) - start) (drop start s) (omega arith) ∙ sym (take_all (end - start) (drop start s) (omega arith)))))
  where
    cut : List ℕ
    cut = take (min end (length s) - min start (min end (length s))) (drop (min start (min end (length s))) s)

    part : List ℕ
    part = take (end - start) (drop start s)

    none : (l : List ℕ) {k : ℕ} → k ≡ 0 → take k l ≡ []
    none l e = rw e

-- An item where it lies in an intake.
pub from_part : (t : Table) (o : List ℕ) (g : ℕ) (u : Table) (o' : List ℕ) (a : Admitted) (s : List ℕ) (start end from to : ℕ) → to ≡ min end (length s)
    → from ≡ min start to → AdmitsFrom t o g (take (to - from) (drop from s)) u o' a → AdmitsFrom t o g (take (end - start) (drop start s)) u o' a
from_part t o g u o' a s start end from to e f h =
    let z : from ≡ min start (min end (length s)) = f ∙ ap (min start) e in
    let c : take (to - from) (drop from s) ≡ take (end - start) (drop start s) = rw (e, z) (part_cut s start end) in
    subst (λ (x : List ℕ). AdmitsFrom t o g x u o' a) c h

-- What the program keeps is what one call keeps of the same items, and the items that it cuts in its window are those of the whole input.
-- Assumes nothing.
use Rattle.std.specs.Prelude.{Ok, Err}
use Prim.Native.Nat.{ℕ, ◌+◌, ◌≤◌, ◌<◌}
use mathlib.Core.Path.{◌≡◌, refl, sym, ap, ◌∙◌}
use mathlib.Core.Bool.{Bool, true, false}
use mathlib.Core.List.{List, [], ◌∷◌, ◌++◌}
use mathlib.Core.Logic.{⊎_elim}
use native.Mathlib.Omega.{arith}
use borrow.Author.Tests.{le-leb, lt-ltb, le-ltb}
use lib.ListN.{length, take, drop, get_or, length-append}
use lib.Seq.{take_all, take-append_seam, drop-append_seam}
use lib.Dec.{leb}
use Rattle.basics.specs.Pick.{pick, both}
use Rattle.basics.proofs.Tests.{true_or_false, not_both_ways, by_leb}
use Rattle.item.specs.Offsets.{length_limit, largest_item}
use Rattle.item.specs.Layout.{length_of, layout_of}
use Rattle.answers.specs.declared.Refusal.TheVariants.{Size}
use Rattle.basics.specs.Bytes.{Bytes}
use Rattle.store.specs.Table.{Table}
use Rattle.admission.specs.declared.Admitted.{Admitted}
use Rattle.admission.specs.declared.Admitted.TheVariants.{Done, Held, Refused}
use Rattle.cutting.specs.Cutting.{starts_whole, size_of, items_of}
use Rattle.cutting.proofs.Items.{same_length}
use Rattle.cutting.proofs.Wholes.{front_starts, front_item}
use Rattle.morning.specs.Intake.{Kept, answer_to, kept_after, kept_after_all}
use Rattle.morning.proofs.Theorems.{refused_alike}
use Rattle.frontiers.proofs.Once.{append_answers_once}
use Rattle.intake.specs.Judging.{origin, Entered, JudgedAndEntered}
use Rattle.intake.specs.Taking.{TakesEach, CutSoFar, TakenIn}

-- What is kept after one item more.
kept_snoc : (k : Kept) (g : ℕ) (is : List (List ℕ)) (i : List ℕ) → kept_after (kept_after_all k g is) g i ≡ kept_after_all k g (is ++ (i ∷ []))
unfolding kept_after_all
kept_snoc k g [] i = refl
kept_snoc k g (j ∷ is) i = kept_snoc (kept_after k g j) g is i

-- Whatever items the program took, it keeps what a morning's intake of them keeps, with origin 0.
pub keeps_as_one_call : {k₀ : Kept} {f₀ : List ℕ} {is : List (List ℕ)} {k : Kept} {f : List ℕ} {used : ℕ} → TakesEach k₀ f₀ is k f used
    → k ≡ kept_after_all k₀ origin is
unfolding kept_after_all
keeps_as_one_call TakesEach.none_yet = refl
keeps_as_one_call {k₀} (TakesEach.one_more is k f used i l f' used' t j) =
    j.kept ∙ ap (λ (x : Kept). kept_after x origin i) (keeps_as_one_call t) ∙ kept_snoc k₀ origin is i

-- One answer leaves one frontier.
entered_once : (u : Table) → Bytes u.ids → (f : List ℕ) (used : ℕ) (x : Admitted) (g : List ℕ) (n : ℕ) (h : List ℕ) (m : ℕ) → Entered u f used x g n
    → Entered u f used x h m → (g ≡ h) × (n ≡ m)
entered_once u b f used (Done x) g n h m p q =
    let e = append_answers_once u b f used x g h (Ok n) (Ok m) p q in
    let d : Ok n ≡ Ok m = e.0 in
    (e.1, cc)
entered_once u b f used (Held r) g n h m p q = (p.0 ∙ sym q.0, p.1 ∙ sym q.1)
entered_once u b f used (Refused why) g n h m p q = (p.0 ∙ sym q.0, p.1 ∙ sym q.1)

-- Two lists that are one have one last item, and the same before it.
same_last : (is js : List (List ℕ)) (i j : List ℕ) → is ++ (i ∷ []) ≡ js ++ (j ∷ []) → (is ≡ js) × (i ≡ j)
same_last is js i j e =
    let a : length (is ++ (i ∷ [])) ≡ length is + 1 = length-append is (i ∷ []) in
    let b : length (js ++ (j ∷ [])) ≡ length js + 1 = length-append js (j ∷ []) in
    let c : length (is ++ (i ∷ [])) ≡ length (js ++ (j ∷ [])) = ap length e in
    let n : length is ≡ length js = omega arith in (
      sym (take-append_seam is (i ∷ [])) ∙ ap (take (length is)) e ∙ ap (λ (m : ℕ). take m (js ++ (j ∷ []))) n ∙ take-append_seam js (j ∷ []),
      ap (λ (l : List (List ℕ)). get_or l 0 [])
          (sym (drop-append_seam is (i ∷ [])) ∙ ap (drop (length is)) e ∙ ap (λ (m : ℕ). drop m (js ++ (j ∷ []))) n ∙ drop-append_seam js (j ∷ [])),
    )

-- No list ends with nothing.
some_last : (is : List (List ℕ)) (i : List ℕ) → is ++ (i ∷ []) ≡ [] → ⊥
some_last is i e =
    let a : length (is ++ (i ∷ [])) ≡ length is + 1 = length-append is (i ∷ []) in
    let b : length (is ++ (i ∷ [])) ≡ 0 = ap length e in
    omega arith

-- The items decide: however they were taken one by one, the same is kept, and the frontier is the same.
pub one_taking : {k₀ : Kept} {f₀ : List ℕ} {is : List (List ℕ)} {k : Kept} {f : List ℕ} {used : ℕ} {js : List (List ℕ)} {l : Kept} {g : List ℕ} {n : ℕ}
    → TakesEach k₀ f₀ is k f used → TakesEach k₀ f₀ js l g n → is ≡ js → (k ≡ l) × ((f ≡ g) × (used ≡ n))
one_taking TakesEach.none_yet TakesEach.none_yet e = (refl, (refl, refl))
one_taking TakesEach.none_yet (TakesEach.one_more js k f used j l g n u b) e = absurd (some_last js j (sym e))
one_taking (TakesEach.one_more is k f used i l f' used' t a) TakesEach.none_yet e = absurd (some_last is i e)
one_taking (TakesEach.one_more is k f used i l f' used' t a) (TakesEach.one_more js k' g n j l' g' n' u b) e =
    let s = same_last is js i j e in
    let r = one_taking t u s.0 in
    let z : JudgedAndEntered k i f used l' g' n' = rw (r.0, s.1, r.1.0, r.1.1) b in
    let m : l ≡ l' = a.kept ∙ sym z.kept in
    let y : Entered l.store f used (answer_to k i) g' n' = rw m z.entered in
    (m, entered_once l.store a.in_order.bytes f used (answer_to k i) f' used' g' n' a.entered y)

-- Where the intake ended, it keeps what one call keeps of all that was read.
pub ended_as_one_call : {k₀ : Kept} {f₀ left : List ℕ} {k : Kept} {f : List ℕ} {used : ℕ} {going : Bool} {n : ℕ}
    → (t : TakenIn k₀ f₀ left k f used going n) → going ≡ false → k ≡ kept_after_all k₀ origin (items_of t.input)
ended_as_one_call {k₀} {f₀} {left} {k} {f} {used} {going} t e = by_cut t.cut
  where
    by_cut : CutSoFar t.input t.items left going → k ≡ kept_after_all k₀ origin (items_of t.input)
    by_cut (CutSoFar.goes_on o ws a) = absurd (not_both_ways going o e)
    by_cut (CutSoFar.ended o a) = keeps_as_one_call t.taken ∙ ap (kept_after_all k₀ origin) a

-- A length above the limit refuses the item with 3, whatever stands behind it.
too_long : (s : List ℕ) → 4 ≤ length s → length_limit < length_of s → layout_of s ≡ Err Size
unfolding layout_of
too_long s h k = rw (le-ltb (length s) 4 h, lt-ltb length_limit (length_of s) k)

-- Bytes as long as the largest item that do not begin with a whole one have a length above the limit.
length_above : (s : List ℕ) → largest_item ≤ length s → starts_whole s ≡ false → length_limit < length_of s
length_above s h =
    let four : leb 4 (length s) ≡ true = le-leb 4 (length s) (omega arith) in
    rw four
    (by_leb (λ (t : Bool). both t (leb (4 + length_of s) (length s)) ≡ false → length_limit < length_of s) (length_of s) length_limit
    (λ k e. absurd (not_both_ways (leb (4 + length_of s) (length s)) (le-leb (4 + length_of s) (length s) (omega arith)) e)) (λ k e. k))

-- THE WINDOW DECIDES: where the bytes that are left in the window are as many as the largest item has, then, whatever of the input is not
-- read yet, the first item of all of it goes on as the window's does, has the same answer, and the same is kept after it.
pub window_decides : (k : Kept) (s r : List ℕ) → largest_item ≤ length s
    → (starts_whole (s ++ r) ≡ starts_whole s) ×
    ((answer_to k (take (size_of (s ++ r)) (s ++ r)) ≡ answer_to k (take (size_of s) s)) ×
    (kept_after k origin (take (size_of (s ++ r)) (s ++ r)) ≡ kept_after k origin (take (size_of s) s)))
window_decides k s r h = ⊎_elim whole broken (true_or_false (starts_whole s))
  where
    Same : Type 0
    Same =
        (starts_whole (s ++ r) ≡ starts_whole s) ×
        ((answer_to k (take (size_of (s ++ r)) (s ++ r)) ≡ answer_to k (take (size_of s) s)) ×
        (kept_after k origin (take (size_of (s ++ r)) (s ++ r)) ≡ kept_after k origin (take (size_of s) s)))

    all : (x : List ℕ) → starts_whole x ≡ false → take (size_of x) x ≡ x
    all x e = ap (λ (t : Bool). take (pick t (4 + length_of x) (length x)) x) e ∙ take_all (length x) x (omega arith)

    refused : starts_whole s ≡ false → (layout_of (s ++ r) ≡ Err Size) × (layout_of s ≡ Err Size)
    refused e =
        let a = length_above s h e in
        let l : length (s ++ r) ≡ length s + length r = length-append s r in
        let z : length_of (s ++ r) ≡ length_of s = same_length s r (omega arith) in
        (too_long (s ++ r) (omega arith) (omega arith), too_long s (omega arith) a)

    whole : starts_whole s ≡ true → Same
    whole e = let i = front_item s r h e in (front_starts s r h, (ap (answer_to k) i, ap (kept_after k origin) i))

    broken : starts_whole s ≡ false → Same
    broken e =
        let b = front_starts s r h in
        let y = all s e in
        let z = all (s ++ r) (b ∙ e) in
        let p = refused e in
        let q = refused_alike k origin (s ++ r) s Size p.0 p.1 in
        (b, (ap (answer_to k) z ∙ q.0 ∙ ap (answer_to k) (sym y), ap (kept_after k origin) z ∙ q.1 ∙ ap (kept_after k origin) (sym y)))

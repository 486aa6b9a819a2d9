-- One item taken, one turn of the intake, and all turns.
-- Assumes nothing.
use Prim.Native.Nat.{ℕ, zero, suc, ◌+◌, ◌-◌, ◌≤◌, ◌<◌}
use mathlib.Core.Path.{◌≡◌, refl, sym, ap, ◌∙◌, subst}
use mathlib.Core.Bool.{Bool, true, false}
use mathlib.Core.List.{List, [], ◌∷◌, ◌++◌, append_assoc, append-nil}
use mathlib.Core.Logic.{⊎_elim}
use native.Mathlib.Omega.{arith}
use lib.ListN.{length, take, drop, length-drop, length-append, take-append-drop}
use lib.Seq.{take-nil, take-take, drop-drop, length-take-le}
use Rattle.basics.proofs.Tests.{true_or_false, not_both_ways}
use Rattle.cutting.specs.Cutting.{starts_whole, size_of, CutOff, items_of, joined, AllWhole}
use Rattle.cutting.proofs.Wholes.{whole_first, whole_apart, all_whole_more, joined_more, cut_is_whole, broken_last}
use Rattle.morning.specs.Intake.{Kept}
use Rattle.intake.specs.Window.{Within, Refilled, stretch}
use Rattle.intake.specs.Judging.{InOrder, JudgedAndEntered}
use Rattle.intake.specs.Taking.{TakesFirst, Turned, TurnedIn, TakesEach, CutSoFar, TakenIn}
use Rattle.intake.proofs.Laws.{more_held, read_behind}

-- How many bytes a stretch has.
stretch_length : (w : List ℕ) (at held : ℕ) → Within w at held → length (stretch w at held) ≡ held - at
stretch_length w at held k =
    let d : length (drop at w) ≡ length w - at = length-drop at w in
    let i : held ≤ length w = k.inside in
    length-take-le (held - at) (drop at w) (omega arith)

-- What is behind the first bytes of the first bytes.
drop_take : (m n : ℕ) (l : List ℕ) → drop m (take n l) ≡ take (n - m) (drop m l)
drop_take zero n l = let e : n ≡ n - 0 = omega arith in ap (λ (m : ℕ). take m l) e
drop_take (suc m) zero l = let e : 0 ≡ 0 - suc m = omega arith in ap (λ (i : ℕ). take i (drop (suc m) l)) e
drop_take (suc m) (suc n) [] = sym (take-nil (suc n - suc m))
drop_take (suc m) (suc n) (x ∷ l) = let e : n - m ≡ suc n - suc m = omega arith in drop_take m n l ∙ ap (λ (i : ℕ). take i (drop m l)) e

module _ (k : Kept) (f : List ℕ) (used : ℕ) (l : Kept) (f' : List ℕ) (used' : ℕ) where
  -- The item at a place of the window, cut and judged where it lies.
  pub taken_first : (w : List ℕ) (at held size : ℕ) (whole : Bool) → Within w at held → at < held → CutOff (stretch w at held) size whole
      → JudgedAndEntered k (take (at + size - at) (drop at w)) f used l f' used'
      → Within w (at + size) held × TakesFirst (stretch w at held) k f used (stretch w (at + size) held) l f' used' whole
  taken_first w at held size whole v h c j =
      let s = stretch w at held in
      let n : length s ≡ held - at = stretch_length w at held v in
      let e : size ≡ size_of s = c.size in
      let i : size ≤ length s = c.inside in
      let a : at + size - at ≡ size = omega arith in
      let b : held - (at + size) ≡ held - at - size = omega arith in
      let item : take (at + size - at) (drop at w) ≡ take (size_of s) s =
      ap (λ (m : ℕ). take m (drop at w)) a ∙ sym (take-take size (held - at) (drop at w) (omega arith)) ∙ ap (λ (m : ℕ). take m s) e in
      let rest : stretch w (at + size) held ≡ drop (size_of s) s =
      ap (λ (m : ℕ). take m (drop (at + size) w)) b
      ∙ ap (take (held - at - size)) (sym (drop-drop size at w))
      ∙ sym (drop_take size (held - at) (drop at w))
      ∙ ap (λ (m : ℕ). drop m s) e in (
        record { ordered = omega arith; inside = v.inside },
        record {
          some = omega arith;
          judged = subst (λ (x : List ℕ). JudgedAndEntered k x f used l f' used') item j;
          behind = rest;
          goes = c.judged;
        },
      )

  -- A turn that takes an item.
  pub turned_took : (w : List ℕ) (at held : ℕ) (w' : List ℕ) (at' held' at'' held'' : ℕ) (going : Bool) → Within w at held → Refilled w at held w' at' held'
      → Within w' at'' held'' × TakesFirst (stretch w' at' held') k f used (stretch w' at'' held'') l f' used' going
      → TurnedIn w at held k f used w' at'' held'' l f' used' going
  turned_took w at held w' at' held' at'' held'' going v r (u, t) =
      record {
        within = u;
        turned =
            Turned.took (drop (held - at) (stretch w' at' held'))
            (subst (λ (s : List ℕ). TakesFirst s k f used (stretch w' at'' held'') l f' used' going) (read_behind w at held w' at' held' v r.stands) t);
      }

-- The turn at which nothing is left.
pub turned_done : (k : Kept) (f : List ℕ) (used : ℕ) (w : List ℕ) (at held : ℕ) (w' : List ℕ) (at' held' : ℕ) → Within w at held
    → Refilled w at held w' at' held' → at' ≡ held' → TurnedIn w at held k f used w' at' held' k f used false
turned_done k f used w at held w' at' held' v r e =
    let m : held - at ≤ held' - at' = more_held w at held w' at' held' v r.stands in
    let z : held - at ≡ 0 = omega arith in
    record {
      within = r.within;
      turned = Turned.done (record { none = ap (λ (n : ℕ). take n (drop at w)) z; kept = refl; frontier = refl; numbers = refl; ends = refl });
    }

-- Before the first turn.
pub taken_none : (k : Kept) (f w : List ℕ) → InOrder k f 0 → TakenIn k f (stretch w 0 0) k f 0 true 0
unfolding joined
taken_none k f w o =
    record { input = []; items = []; cut = CutSoFar.goes_on refl AllWhole.none refl; taken = TakesEach.none_yet; counted = λ e. refl; in_order = o }

-- One item more is cut off what was read so far.
cut_more : (input : List ℕ) (is : List (List ℕ)) (left more left' : List ℕ) (going : Bool) → AllWhole is → input ≡ joined is ++ left
    → 1 ≤ length (left ++ more) → left' ≡ drop (size_of (left ++ more)) (left ++ more) → going ≡ starts_whole (left ++ more)
    → CutSoFar (input ++ more) (is ++ (take (size_of (left ++ more)) (left ++ more) ∷ [])) left' going
cut_more input is left more left' going ws e h b g =
    let s = left ++ more in
    let i = take (size_of s) s in
    let all : input ++ more ≡ joined is ++ s = ap (λ (x : List ℕ). x ++ more) e ∙ append_assoc (joined is) left more in
    ⊎_elim
    (λ (t : starts_whole s ≡ true).
    CutSoFar.goes_on (g ∙ t) (all_whole_more ws i (cut_is_whole s t))
    (all
    ∙ ap (λ (x : List ℕ). joined is ++ x) (sym (take-append-drop (size_of s) s))
    ∙ sym (append_assoc (joined is) i (drop (size_of s) s))
    ∙ ap (λ (x : List ℕ). x ++ drop (size_of s) s) (sym (joined_more is i))
    ∙ ap (λ (x : List ℕ). joined (is ++ (i ∷ [])) ++ x) (sym b)))
    (λ (t : starts_whole s ≡ false).
    CutSoFar.ended (g ∙ t) (sym (ap items_of all ∙ whole_first ws s ∙ ap (λ (x : List (List ℕ)). is ++ x) (broken_last s h t)))) (true_or_false (starts_whole s))

-- Where nothing is left, what was cut off are all items.
cut_all : (input : List ℕ) (is : List (List ℕ)) (left left' : List ℕ) (going : Bool) → AllWhole is → input ≡ joined is ++ left → left ≡ [] → going ≡ false
    → CutSoFar input is left' going
cut_all input is left left' going ws e n g =
    CutSoFar.ended g (sym (ap items_of (e ∙ ap (λ (x : List ℕ). joined is ++ x) n ∙ append-nil (joined is)) ∙ whole_apart ws))

-- One turn more.
pub taken_more : (k₀ : Kept) (f₀ left : List ℕ) (k : Kept) (f : List ℕ) (used : ℕ) (before : Bool) (n : ℕ) (left' : List ℕ) (l : Kept) (f' : List ℕ) (used' : ℕ)
    (going : Bool) → before ≡ true → TakenIn k₀ f₀ left k f used before n → Turned left k f used left' l f' used' going
    → TakenIn k₀ f₀ left' l f' used' going (n + 1)
taken_more k₀ f₀ left k f used before n left' l f' used' going o t u = by_cut t.cut u
  where
    by_cut : CutSoFar t.input t.items left before → Turned left k f used left' l f' used' going → TakenIn k₀ f₀ left' l f' used' going (n + 1)
    by_cut (CutSoFar.ended e a) r = absurd (not_both_ways before o e)
    by_cut (CutSoFar.goes_on e ws a) (Turned.took more first) =
        let s = left ++ more in
        let i = take (size_of s) s in
        let m : length t.items ≡ n = t.counted o in
        let d : length (t.items ++ (i ∷ [])) ≡ length t.items + 1 = length-append t.items (i ∷ []) in
        record {
          input = t.input ++ more;
          items = t.items ++ (i ∷ []);
          cut = cut_more t.input t.items left more left' going ws a first.some first.behind first.goes;
          taken = TakesEach.one_more t.items k f used i l f' used' t.taken first.judged;
          counted = λ z. omega arith;
          in_order = first.judged.in_order;
        }
    by_cut (CutSoFar.goes_on e ws a) (Turned.done rest) =
        record {
          input = t.input;
          items = t.items;
          cut = cut_all t.input t.items left left' going ws a rest.none rest.ends;
          taken = rw (rest.kept, rest.frontier, rest.numbers) t.taken;
          counted = λ z. absurd (not_both_ways going z rest.ends);
          in_order = rw (rest.kept, rest.frontier, rest.numbers) t.in_order;
        }

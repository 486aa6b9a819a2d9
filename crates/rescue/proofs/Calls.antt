-- The call's promise: one answer, always an answer, and what a done one wrote.
-- Assumes nothing.
use Rattle.std.specs.Prelude.{Result, Ok, Err}
use Rattle.answers.specs.declared.Refusal.{Refusal}
use Prim.Native.Nat.{ℕ, zero, suc, ◌+◌, ◌*◌, ◌≤◌, ◌<◌}
use mathlib.Core.Path.{◌≡◌, refl, sym, ap, subst, ◌∙◌}
use mathlib.Core.List.{List, [], ◌∷◌, ◌++◌}
use mathlib.Core.Logic.{inl, inr, ⊎_elim}
use native.Mathlib.Omega.{arith}
use native.Mathlib.Nat.{eq-or-lt_of_le}
use lib.ListN.{length, take, drop, get_or, length-append, length-drop, get_or-append}
use lib.Seq.{take_at, drop_at, get_or-append-add}
use Rattle.basics.proofs.Tests.{by_ltb}
use Rattle.answers.specs.declared.Refusal.TheVariants.{Size, Room}
use Rattle.cutting.specs.Cutting.{items_of}
use Rattle.store.specs.declared.lent.Counts.{Counts}
use Rattle.morning.specs.Intake.{Kept}
use Rattle.rescue.specs.Greedy.{Salvage}
use Rattle.rescue.specs.Salvaging.{Lent, store_in, salvage_of, clean_of, number_for, place_for, list_for, item_limit}
use Rattle.rescue.specs.Salvaging.{Rescues, TooShort, Salvages, too_many, no_room, salvaged}
use Rattle.rescue.specs.Wrote.{Wrote}
use Rattle.rescue.specs.declared.Clean.{Clean}
use Rattle.rescue.proofs.Theorems.{clean_fits}

-- What is lent, with the parts of this store.
abbrev lent_with : Kept → List ℕ → List ℕ → Lent
lent_with k clean list =
    record {
      keys = k.store.keys;
      ids = k.store.ids;
      rows = k.store.rows;
      deps = k.store.deps;
      branches = k.store.branches;
      origins = k.origins;
      clean = clean;
      list = list;
    }

-- What is lent is the same where all its parts are.
same_lent : (l m : Lent) (c d : Counts) → store_in l c ≡ store_in m d → l.clean ≡ m.clean → l.list ≡ m.list → l ≡ m
same_lent l m c d e f g =
    ap (λ (k : Kept). lent_with k l.clean l.list) e
    ∙ ap (λ (x : List ℕ). lent_with (store_in m d) x l.list) f
    ∙ ap (lent_with (store_in m d) m.clean) g

-- Two written results of one stick are one.
same_rescue : (stick : List ℕ) (l a b : Lent) (i j x y : ℕ) (c d : Counts) → Rescues stick l a i x c → Rescues stick l b j y d
    → (i ≡ j) × ((x ≡ y) × ((c ≡ d) × (a ≡ b)))
same_rescue stick l a b i j x y c d r s =
    let e : i ≡ j = r.counted ∙ sym s.counted in
    let f : x ≡ y = r.sized ∙ sym s.sized in
    let g = salvage_of stick l in
    let k = clean_of (items_of stick) g in
    let m : a.clean ≡ b.clean = r.clean ∙ ap (λ (n : ℕ). k ++ drop n l.clean) f ∙ sym s.clean in
    let n : a.list ≡ b.list = r.list ∙ ap (λ (n : ℕ). list_for (items_of stick) g n ++ drop (2 * n) l.list) e ∙ sym s.list in
    let h : store_in a c ≡ store_in b d = r.store ∙ sym s.store in
    (e, (f, (ap (λ (k : Kept). k.store.counts) h, same_lent a b c d h m n)))

-- The same stick and lent memory have one answer, and one result.
pub one_salvage : (stick : List ℕ) (l a b : Lent) (x y : Result Clean Refusal) → Salvages stick l a x → Salvages stick l b y → (x ≡ y) × (a ≡ b)
one_salvage stick l a b x y (too_many h e f) (too_many k g i) = (e ∙ sym g, f ∙ sym i)
one_salvage stick l a b x y (too_many h e f) (no_room k s g i) = absurd (omega arith)
one_salvage stick l a b x y (too_many h e f) (salvaged k n i w c g r) = absurd (omega arith)
one_salvage stick l a b x y (no_room h s e f) (too_many k g i) = absurd (omega arith)
one_salvage stick l a b x y (no_room h s e f) (no_room k t g i) = (e ∙ sym g, f ∙ sym i)
one_salvage stick l a b x y (no_room h s e f) (salvaged k n i w c g r) = absurd (n s)
one_salvage stick l a b x y (salvaged h n i w c e r) (too_many k g j) = absurd (omega arith)
one_salvage stick l a b x y (salvaged h n i w c e r) (no_room k s g j) = absurd (n s)
one_salvage stick l a b x y (salvaged h n i w c e r) (salvaged k m j v d f s) =
    let q = same_rescue stick l a b i j w v c d r s in
    let same : Ok (record { items = i; bytes = w; counts = c }) ≡ Ok (record { items = j; bytes = v; counts = d }) = rw (q.0, q.1.0, q.1.1.0) in
    (e ∙ same ∙ sym f, q.1.1.1)

-- What a done salvage leaves.
abbrev leaves : List ℕ → Lent → Lent
leaves stick l =
    lent_with (salvage_of stick l).kept
    (clean_of (items_of stick) (salvage_of stick l) ++ drop (length (clean_of (items_of stick) (salvage_of stick l))) l.clean)
    (list_for (items_of stick) (salvage_of stick l) (length (items_of stick)) ++ drop (2 * length (items_of stick)) l.list)

-- A promise that can be kept.
pub record Answers (stick : List ℕ) (l : Lent) : Type 0 where
  pub after : Lent
  pub answer : Result Clean Refusal
  pub promised : Salvages stick l after answer

-- There is always an answer.
pub salvage_answers : (stick : List ℕ) (l : Lent) → Answers stick l
salvage_answers stick l =
    by_ltb (λ _. Answers stick l) item_limit (length (items_of stick))
    (λ h. record { after = l; answer = Err Size; promised = too_many h refl refl })
    (λ h. by_ltb (λ _. Answers stick l) (length l.clean) (length stick)
    (λ c. record { after = l; answer = Err Room; promised = no_room h (inl c) refl refl })
    (λ c. by_ltb (λ _. Answers stick l) (length l.list) (2 * length (items_of stick))
    (λ d. record { after = l; answer = Err Room; promised = no_room h (inr d) refl refl })
    (λ d. done h (λ s. ⊎_elim (λ (x : length l.clean < length stick). omega arith) (λ (x : length l.list < 2 * length (items_of stick)). omega arith) s))))
  where
    done : length (items_of stick) ≤ item_limit → (TooShort stick l → ⊥) → Answers stick l
    done h n =
        let g = salvage_of stick l in
        let items = length (items_of stick) in
        let bytes = length (clean_of (items_of stick) g) in
        record {
          after = leaves stick l;
          answer = Ok (record { items = items; bytes = bytes; counts = g.kept.store.counts });
          promised =
              salvaged h n items bytes g.kept.store.counts refl
              (record { store = refl; clean = refl; list = refl; counted = refl; sized = refl });
        }

-- The list has two numbers an item,
length_list : (is : List (List ℕ)) (g : Salvage) (n : ℕ) → length (list_for is g n) ≡ 2 * n
unfolding list_for
length_list is g zero = refl
length_list is g (suc n) =
    let h = length_list is g n in
    length-append (list_for is g n) (number_for is g n ∷ place_for is g n ∷ []) ∙ omega arith

-- and at an item's places its own.
list_at : (is : List (List ℕ)) (g : Salvage) (n p : ℕ) → p < n
    → (get_or (list_for is g n) (2 * p) 0 ≡ number_for is g p) × (get_or (list_for is g n) (2 * p + 1) 0 ≡ place_for is g p)
unfolding list_for
list_at is g zero p h = absurd (omega arith)
list_at is g (suc n) p h =
    let m = length_list is g n in
    let new = number_for is g n ∷ place_for is g n ∷ [] in
    ⊎_elim
    (λ (e : p ≡ n).
    let a : 2 * p ≡ length (list_for is g n) + 0 = omega arith in
    let b : 2 * p + 1 ≡ length (list_for is g n) + 1 = omega arith in (
      ap (λ (x : ℕ). get_or (list_for is g n ++ new) x 0) a ∙ get_or-append-add (list_for is g n) new 0 0 ∙ ap (number_for is g) (sym e),
      ap (λ (x : ℕ). get_or (list_for is g n ++ new) x 0) b ∙ get_or-append-add (list_for is g n) new 1 0 ∙ ap (place_for is g) (sym e),
    ))
    (λ (l : p < n).
    let q = list_at is g n p l in (
      get_or-append (list_for is g n) new 0 (2 * p) (omega arith) ∙ q.0,
      get_or-append (list_for is g n) new 0 (2 * p + 1) (omega arith) ∙ q.1,
    ))
    (eq-or-lt_of_le (omega arith))

-- WHAT A DONE CALL WROTE.
pub done_wrote : (stick : List ℕ) (l l' : Lent) (c : Clean) → Salvages stick l l' (Ok c) → Wrote stick l l' c
done_wrote stick l l' c (too_many h e f) = let z : ◌≡◌ {A = ℕ} 0 1 = cc in absurd (omega arith)
done_wrote stick l l' c (no_room h s e f) = let z : ◌≡◌ {A = ℕ} 0 1 = cc in absurd (omega arith)
done_wrote stick l l' c (salvaged h n items bytes counts e r) = subst (Wrote stick l l') (sym same) wrote
  where
    same : c ≡ record { items = items; bytes = bytes; counts = counts }
    same = cc

    g : Salvage
    g = salvage_of stick l

    clean : List ℕ
    clean = clean_of (items_of stick) g

    list : List ℕ
    list = list_for (items_of stick) g items

    long : length list ≡ 2 * items
    long = length_list (items_of stick) g items

    wide : 2 * items ≤ length l.list
    wide = by_ltb (λ _. 2 * items ≤ length l.list) (length l.list) (2 * items) (λ d. absurd (n (inr (omega (arith, r.counted))))) (λ d. d)

    roomy : bytes ≤ length l.clean
    roomy =
        by_ltb (λ _. bytes ≤ length l.clean) (length l.clean) (length stick) (λ d. absurd (n (inl d))) (λ d. omega (arith, r.sized, clean_fits stick l))

    wrote : Wrote stick l l' (record { items = items; bytes = bytes; counts = counts })
    wrote =
        record {
          items = r.counted;
          store = r.store;
          clean = ap (take bytes) r.clean ∙ take_at clean (drop bytes l.clean) bytes (sym r.sized);
          clean_beyond = ap (drop bytes) r.clean ∙ drop_at clean (drop bytes l.clean) bytes (sym r.sized);
          clean_length = ap length r.clean ∙ length-append clean (drop bytes l.clean) ∙ omega (arith, r.sized, length-drop bytes l.clean, roomy);
          number =
              λ p q.
              ap (λ (x : List ℕ). get_or x (2 * p) 0) r.list
              ∙ get_or-append list (drop (2 * items) l.list) 0 (2 * p) (omega (arith, long))
              ∙ (list_at (items_of stick) g items p q).0;
          place =
              λ p q.
              ap (λ (x : List ℕ). get_or x (2 * p + 1) 0) r.list
              ∙ get_or-append list (drop (2 * items) l.list) 0 (2 * p + 1) (omega (arith, long))
              ∙ (list_at (items_of stick) g items p q).1;
          list_beyond = ap (drop (2 * items)) r.list ∙ drop_at list (drop (2 * items) l.list) (2 * items) long;
          list_length = ap length r.list ∙ length-append list (drop (2 * items) l.list) ∙ omega (arith, long, length-drop (2 * items) l.list, wide);
        }

-- The branches written so far, and one more.
-- Assumes nothing.
use Prim.Native.Nat.{ℕ, zero, suc, ◌+◌, ◌*◌, ◌≤◌, ◌<◌}
use mathlib.Core.Path.{◌≡◌, refl, sym, ap, subst, ◌∙◌}
use mathlib.Core.Bool.{Bool, true, false}
use mathlib.Core.List.{List}
use mathlib.Core.Logic.{◌⊎◌, inl, inr, ⊎_elim, ◌≢◌}
use native.Mathlib.Omega.{arith}
use native.Mathlib.Nat.{eq-or-lt_of_le}
use borrow.Author.Tests.{eq-eqb, ne_eqb}
use lib.Dec.{eqb}
use lib.ListN.{length, drop, get_or, set, length-set}
use lib.Seq.{get_or-set_same, get_or-set_other, drop-set-lt}
use Rattle.basics.proofs.Tests.{by_eqb}
use Rattle.basics.proofs.Prefixes.{drop_rest}
use Rattle.chunks.specs.Bytes.{comes_before}
use Rattle.chunks.specs.Piece.{piece_at}
use Rattle.review.specs.Review.{tip_at, child_at, Tipped}
use Rattle.review.specs.Children.{kids_in, LowestTip, BestSoFar, MayList, Listed}

-- The first `k` of `m` branches are written, and taken out of the table `kids`, which was `kids₀`.
pub record Sofar (ids : List ℕ) (n m : ℕ) (kids₀ out₀ : List ℕ) (k : ℕ) (kids out : List ℕ) : Type 0 where
  pub left : k + kids_in kids n ≡ m
  pub same_table : length kids ≡ length kids₀
  pub same_room : length out ≡ length out₀
  pub beyond : drop (2 * k) out ≡ drop (2 * k) out₀
  pub each : (i : ℕ) → i < k → ((1 ≤ tip_at out i) × (tip_at out i ≤ n)) × ((child_at out i ≢ 0) × (child_at out i ≡ get_or kids₀ (tip_at out i) 0))
  pub rising : (j : ℕ) → j < k → (i : ℕ) → i < j → comes_before (piece_at ids (tip_at out i)) (piece_at ids (tip_at out j)) ≡ true
  pub above : (r : ℕ) → r ≤ n → 1 ≤ r → get_or kids r 0 ≢ 0 → (i : ℕ) → i < k → comes_before (piece_at ids (tip_at out i)) (piece_at ids r) ≡ true
  pub kept : (r : ℕ) → get_or kids r 0 ≢ 0 → get_or kids r 0 ≡ get_or kids₀ r 0
  pub covered : (r : ℕ) → r ≤ n → 1 ≤ r → get_or kids₀ r 0 ≢ 0 → (get_or kids r 0 ≢ 0) ⊎ Tipped out k r

-- Nothing is written yet.
pub sofar_none : (ids : List ℕ) (n m : ℕ) (kids out : List ℕ) → m ≡ kids_in kids n → Sofar ids n m kids out 0 kids out
sofar_none ids n m kids out e =
    record {
      left = omega (arith, e);
      same_table = refl;
      same_room = refl;
      beyond = refl;
      each = λ i h. absurd (omega arith);
      rising = λ j h. absurd (omega arith);
      above = λ r h k d i l. absurd (omega arith);
      kept = λ r d. refl;
      covered = λ r h k d. inl d;
    }

-- Where a row has a child some are counted,
some_kid : (kids : List ℕ) (n r : ℕ) → 1 ≤ r → r ≤ n → get_or kids r 0 ≢ 0 → 1 ≤ kids_in kids n
unfolding kids_in
some_kid kids zero r h k d = absurd (omega arith)
some_kid kids (suc n) r h k d =
    ⊎_elim
    (λ (e : r ≡ suc n). let f : eqb (get_or kids (suc n) 0) 0 ≡ false = ne_eqb _ _ (λ z. d (ap (λ (x : ℕ). get_or kids x 0) e ∙ z)) in rw f (omega arith))
    (λ (e : r < suc n). let i = some_kid kids n r h (omega arith) d in omega arith) (eq-or-lt_of_le k)

-- and where some are counted a row has one.
no_kid : (kids : List ℕ) (n : ℕ) → ((q : ℕ) → q ≤ n → 1 ≤ q → get_or kids q 0 ≡ 0) → kids_in kids n ≡ 0
unfolding kids_in
no_kid kids zero h = refl
no_kid kids (suc n) h =
    let e : eqb (get_or kids (suc n) 0) 0 ≡ true = eq-eqb _ _ (h (suc n) (omega arith) (omega arith)) in
    rw (no_kid kids n (λ q i. h q (omega arith)), e)

-- Above the rows that are counted the table plays no part.
kids_above : (kids : List ℕ) (n r v : ℕ) → n < r → kids_in (set kids r v) n ≡ kids_in kids n
unfolding kids_in
kids_above kids zero r v h = refl
kids_above kids (suc n) r v h =
    let d : suc n ≢ r = λ z. omega arith in
    rw (kids_above kids n r v (omega arith), get_or-set_other kids r (suc n) v 0 d)

-- One row taken out is one less.
kids_less : (kids : List ℕ) (n r : ℕ) → 1 ≤ r → r ≤ n → n < length kids → get_or kids r 0 ≢ 0 → kids_in (set kids r 0) n + 1 ≡ kids_in kids n
unfolding kids_in
kids_less kids zero r h k l d = absurd (omega arith)
kids_less kids (suc n) r h k l d =
    ⊎_elim
    (λ (e : r ≡ suc n).
    let f : eqb (get_or kids (suc n) 0) 0 ≡ false = ne_eqb _ _ (λ z. d (ap (λ (x : ℕ). get_or kids x 0) e ∙ z)) in
    let g : get_or (set kids (suc n) 0) (suc n) 0 ≡ 0 = get_or-set_same kids (suc n) 0 0 l in
    let i : eqb (get_or (set kids (suc n) 0) (suc n) 0) 0 ≡ true = eq-eqb _ _ g in
    let j : kids_in (set kids r 0) n ≡ kids_in kids n = kids_above kids n r 0 (omega arith) in
    rw (e, f, i, j) (omega arith))
    (λ (e : r < suc n).
    let q : suc n ≢ r = λ z. omega arith in
    let f : get_or (set kids r 0) (suc n) 0 ≡ get_or kids (suc n) 0 = get_or-set_other kids r (suc n) 0 0 q in
    let i : kids_in (set kids r 0) n + 1 ≡ kids_in kids n = kids_less kids n r h (omega arith) (omega arith) d in
    rw f (omega arith)) (eq-or-lt_of_le k)

module _ (out : List ℕ) (k x y : ℕ) (room : 2 * k + 1 < length out) where
  -- The list with one branch more.
  abbrev with_one : List ℕ
  with_one = set (set out (2 * k) x) (2 * k + 1) y

  -- The earlier branches stay,
  tip_old : (i : ℕ) → i < k → tip_at with_one i ≡ tip_at out i
  tip_old i h =
      let a : 2 * i ≢ 2 * k + 1 = λ z. omega arith in
      let b : 2 * i ≢ 2 * k = λ z. omega arith in
      get_or-set_other (set out (2 * k) x) (2 * k + 1) (2 * i) y 0 a ∙ get_or-set_other out (2 * k) (2 * i) x 0 b

  child_old : (i : ℕ) → i < k → child_at with_one i ≡ child_at out i
  child_old i h =
      let a : 2 * i + 1 ≢ 2 * k + 1 = λ z. omega arith in
      let b : 2 * i + 1 ≢ 2 * k = λ z. omega arith in
      get_or-set_other (set out (2 * k) x) (2 * k + 1) (2 * i + 1) y 0 a ∙ get_or-set_other out (2 * k) (2 * i + 1) x 0 b

  -- the new one is there,
  tip_new : tip_at with_one k ≡ x
  tip_new =
      let a : 2 * k ≢ 2 * k + 1 = λ z. omega arith in
      get_or-set_other (set out (2 * k) x) (2 * k + 1) (2 * k) y 0 a ∙ get_or-set_same out (2 * k) x 0 (omega arith)

  child_new : child_at with_one k ≡ y
  child_new = get_or-set_same (set out (2 * k) x) (2 * k + 1) y 0 (omega (arith, length-set out (2 * k) x))

  -- and what is behind it stays.
  behind : (out₀ : List ℕ) → drop (2 * k) out ≡ drop (2 * k) out₀ → drop (2 * (k + 1)) with_one ≡ drop (2 * (k + 1)) out₀
  behind out₀ e =
      drop-set-lt (2 * (k + 1)) (set out (2 * k) x) (2 * k + 1) y (omega arith)
      ∙ drop-set-lt (2 * (k + 1)) out (2 * k) x (omega arith)
      ∙ drop_rest (2 * (k + 1)) (2 * k) out out₀ (omega arith) e

-- The last of some numbers or an earlier one.
last_or : (i k : ℕ) → i < k + 1 → (i ≡ k) ⊎ (i < k)
last_or i k h = let g : i ≤ k = omega arith in eq-or-lt_of_le g

module _ (ids : List ℕ) (n m : ℕ) (kids₀ out₀ : List ℕ) (k : ℕ) (kids out : List ℕ) (s : Sofar ids n m kids₀ out₀ k kids out) (more : k < m)
    (may : MayList ids kids₀ n m out₀) (tip : ℕ) (b : BestSoFar ids kids n tip × (tip ≤ n)) where
  -- A branch is left, so a lowest tip is found.
  pub tip_found : LowestTip ids kids n tip
  tip_found = b.0.found (λ z. let e = no_kid kids n (b.0.none z) in omega (arith, s.left, e))

  -- There is room for it.
  pub room_left : 2 * k + 1 < length out
  room_left = omega (arith, s.same_room, may.room)

  -- One branch more is written, and taken out of the table.
  pub sofar_more : Sofar ids n m kids₀ out₀ (k + 1) (set kids tip 0) (set (set out (2 * k) tip) (2 * k + 1) (get_or kids tip 0))
  sofar_more =
      let t = tip_found in
      let r = room_left in
      let y = get_or kids tip 0 in
      record {
        left = omega (arith, s.left, kids_less kids n tip t.some t.held (omega (arith, s.same_table, may.compare.table)) t.kid);
        same_table = length-set kids tip 0 ∙ s.same_table;
        same_room = length-set (set out (2 * k) tip) (2 * k + 1) y ∙ length-set out (2 * k) tip ∙ s.same_room;
        beyond = behind out k tip y r out₀ s.beyond;
        each = λ i h. ⊎_elim (each_new i) (each_old i) (last_or i k h);
        rising = λ j h i l. ⊎_elim (λ (e : j ≡ k). rising_new j i e l) (λ (e : j < k). rising_old j i e l) (last_or j k h);
        above = λ q h l d i o. above_all q h l d i o;
        kept = λ q d. kept_all q d;
        covered = λ q h l d. covered_all q h l d;
      }
    where
      new : List ℕ
      new = set (set out (2 * k) tip) (2 * k + 1) (get_or kids tip 0)

      Entry : ℕ → ℕ → Type 0
      Entry x y = ((1 ≤ x) × (x ≤ n)) × ((y ≢ 0) × (y ≡ get_or kids₀ x 0))

      each_new : (i : ℕ) → i ≡ k → Entry (tip_at new i) (child_at new i)
      each_new i e =
          subst (λ (x : ℕ). Entry (tip_at new x) (child_at new x)) (sym e)
          (subst (λ (x : ℕ). Entry x (child_at new k)) (sym (tip_new out k tip (get_or kids tip 0) room_left))
          (subst (Entry tip) (sym (child_new out k tip (get_or kids tip 0) room_left))
          ((tip_found.some, tip_found.held), (tip_found.kid, s.kept tip tip_found.kid))))

      each_old : (i : ℕ) → i < k → Entry (tip_at new i) (child_at new i)
      each_old i h =
          subst (λ (x : ℕ). Entry x (child_at new i)) (sym (tip_old out k tip (get_or kids tip 0) room_left i h))
          (subst (Entry (tip_at out i)) (sym (child_old out k tip (get_or kids tip 0) room_left i h)) (s.each i h))

      rising_old : (j i : ℕ) → j < k → i < j → comes_before (piece_at ids (tip_at new i)) (piece_at ids (tip_at new j)) ≡ true
      rising_old j i h l =
          rw (tip_old out k tip (get_or kids tip 0) room_left i (omega arith), tip_old out k tip (get_or kids tip 0) room_left j h) (s.rising j h i l)

      rising_new : (j i : ℕ) → j ≡ k → i < j → comes_before (piece_at ids (tip_at new i)) (piece_at ids (tip_at new j)) ≡ true
      rising_new j i e l =
          rw (e, tip_new out k tip (get_or kids tip 0) room_left, tip_old out k tip (get_or kids tip 0) room_left i (omega arith))
          (s.above tip tip_found.held tip_found.some tip_found.kid i (omega arith))

      -- A row that is still in the table is not the one taken out, and was there before.
      still : (q : ℕ) → get_or (set kids tip 0) q 0 ≢ 0 → (q ≢ tip) × (get_or kids q 0 ≢ 0)
      still q d =
          let l : tip < length kids = omega (arith, tip_found.held, s.same_table, may.compare.table) in
          let a : q ≢ tip = λ e. d (ap (λ (x : ℕ). get_or (set kids tip 0) x 0) e ∙ get_or-set_same kids tip 0 0 l) in
          (a, λ z. d (get_or-set_other kids tip q 0 0 a ∙ z))

      above_all : (q : ℕ) → q ≤ n → 1 ≤ q → get_or (set kids tip 0) q 0 ≢ 0 → (i : ℕ) → i < k + 1 → comes_before (piece_at ids (tip_at new i)) (piece_at ids q) ≡ true
      above_all q h l d i o =
          ⊎_elim
          (λ (e : i ≡ k). rw (e, tip_new out k tip (get_or kids tip 0) room_left) (tip_found.lowest q h l (still q d).1 (still q d).0))
          (λ (e : i < k). rw (tip_old out k tip (get_or kids tip 0) room_left i e) (s.above q h l (still q d).1 i e)) (last_or i k o)

      kept_all : (q : ℕ) → get_or (set kids tip 0) q 0 ≢ 0 → get_or (set kids tip 0) q 0 ≡ get_or kids₀ q 0
      kept_all q d = get_or-set_other kids tip q 0 0 (still q d).0 ∙ s.kept q (still q d).1

      covered_all : (q : ℕ) → q ≤ n → 1 ≤ q → get_or kids₀ q 0 ≢ 0 → (get_or (set kids tip 0) q 0 ≢ 0) ⊎ Tipped new (k + 1) q
      covered_all q h l d =
          by_eqb (λ (x : Bool). (get_or (set kids tip 0) q 0 ≢ 0) ⊎ Tipped new (k + 1) q) q tip
          (λ e. inr (record { place = k; inside = omega arith; here = e ∙ sym (tip_new out k tip (get_or kids tip 0) room_left) }))
          (λ e. ⊎_elim (λ z. inl (λ w. z (sym (get_or-set_other kids tip q 0 0 e) ∙ w)))
          (λ z. inr (record {
            place = z.place;
            inside = omega (arith, z.inside);
            here = z.here ∙ sym (tip_old out k tip (get_or kids tip 0) room_left z.place z.inside);
          })) (s.covered q h l d))

  -- The same, the tip's number being as it was written.
  pub sofar_put : (v : ℕ) → v ≡ tip → Sofar ids n m kids₀ out₀ (k + 1) (set kids tip 0) (set (set out (2 * k) v) (2 * k + 1) (get_or kids tip 0))
  sofar_put v e =
      subst (λ (x : ℕ). Sofar ids n m kids₀ out₀ (k + 1) (set kids tip 0) (set (set out (2 * k) x) (2 * k + 1) (get_or kids tip 0))) (sym e) sofar_more

-- All are written.
pub sofar_all : (ids : List ℕ) (n m : ℕ) (kids₀ out₀ : List ℕ) (k : ℕ) (kids out : List ℕ) → Sofar ids n m kids₀ out₀ k kids out → m ≤ k
    → Listed ids kids₀ n m out₀ out
sofar_all ids n m kids₀ out₀ k kids out s h =
    let l = s.left in
    let e : k ≡ m = omega arith in
    let z : kids_in kids n ≡ 0 = omega arith in
    record {
      same_room = s.same_room;
      beyond = subst (λ (x : ℕ). drop (2 * x) out ≡ drop (2 * x) out₀) e s.beyond;
      each = λ i o. s.each i (omega arith);
      rising = λ j o. s.rising j (omega arith);
      every = λ r o p d.
          ⊎_elim (λ w. let i = some_kid kids n r p o w in absurd (omega arith)) (λ w. subst (λ (x : ℕ). Tipped out x r) e w) (s.covered r o p d);
    }

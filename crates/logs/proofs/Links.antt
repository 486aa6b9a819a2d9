-- Climbing over the lent rows: what one step of a climb keeps.
-- Assumes nothing.
use Prim.Native.Nat.{ℕ, zero, suc, ◌+◌, ◌-◌, ◌≤◌, ◌<◌}
use mathlib.Core.Path.{◌≡◌, refl, sym, ap, ◌∙◌}
use mathlib.Core.Logic.{◌≢◌}
use mathlib.Core.List.{List}
use native.Mathlib.Omega.{arith}
use borrow.Author.Tests.{lt-ltb, le-ltb, eq-eqb, ne_eqb}
use lib.Dec.{eqb, ltb}
use Rattle.basics.specs.Pick.{pick}
use Rattle.store.specs.Table.{row_at}
use Rattle.chains.specs.Chain.{up, at, climb, prefix_of, child_toward}
use Rattle.logs.specs.Held.{chain, Linked, Climbed}

module _ (rows : List ℕ) where
  -- None has no previous row.
  pub none_prev : (row_at rows 0).prev ≡ 0
  unfolding row_at
  none_prev = refl

  -- And stands at depth 0.
  pub none_index : (row_at rows 0).index ≡ 0
  unfolding row_at
  none_index = refl

  -- Fewer rows are linked, too.
  pub linked_down : (n m : ℕ) → Linked rows n → m ≤ n → Linked rows m
  linked_down n m k h = record { older = λ x p q. k.older x (omega arith) q; counted = λ x p q. k.counted x (omega arith) q }

  -- The previous row is no later.
  pub prev_within : (x : ℕ) → Linked rows x → (row_at rows x).prev ≤ x
  prev_within zero k = omega (arith, none_prev)
  prev_within (suc x) k = omega (arith, k.older (suc x) (omega arith) (omega arith))

  -- Above depth 0 stands a row, one deeper than its previous row.
  pub deep : (x : ℕ) → Linked rows x → 1 ≤ (row_at rows x).index → (row_at rows x).index ≡ suc (row_at rows (row_at rows x).prev).index
  deep zero k h = absurd (omega (arith, none_index))
  deep (suc x) k h = k.counted (suc x) (omega arith) (omega arith)

  -- So its previous row is an earlier one.
  pub prev_less : (x : ℕ) → Linked rows x → 1 ≤ (row_at rows x).index → (row_at rows x).prev < x
  prev_less zero k h = absurd (omega (arith, none_index))
  prev_less (suc x) k h = k.older (suc x) (omega arith) (omega arith)

  -- Only none stands at depth 0.
  pub shallow : (x : ℕ) → Linked rows x → (row_at rows x).index ≡ 0 → x ≡ 0
  shallow zero k h = refl
  shallow (suc x) k h = absurd (omega (arith, k.counted (suc x) (omega arith) (omega arith)))

  -- Two places, the first at least as deep: the first stands deeper than none.
  pub deeper_first : (a b : ℕ) → Linked rows a → Linked rows b → a ≢ b → (row_at rows b).index ≤ (row_at rows a).index → 1 ≤ (row_at rows a).index
  deeper_first a b k j d h = go (row_at rows a).index refl
    where
      go : (i : ℕ) → (row_at rows a).index ≡ i → 1 ≤ (row_at rows a).index
      go zero e = absurd (d (shallow a k e ∙ sym (shallow b j (omega arith))))
      go (suc i) e = omega arith

  module _ (ids : List ℕ) (n : ℕ) where
    -- The prefix where both stand on one place.
    pub prefix_met : (a b : ℕ) → a ≡ b → prefix_of (chain ids rows n) a b ≡ a
    unfolding prefix_of climb
    prefix_met a b e = met ((row_at rows a).index + (row_at rows b).index)
      where
        met : (k : ℕ) → climb (chain ids rows n) k a b ≡ a
        met zero = refl
        met (suc k) = rw (eq-eqb a b e) refl

    -- The second is deeper and climbs.
    pub prefix_second : (a b : ℕ) → Linked rows b → a ≢ b → (row_at rows a).index < (row_at rows b).index
        → prefix_of (chain ids rows n) a b ≡ prefix_of (chain ids rows n) a (row_at rows b).prev
    unfolding prefix_of climb
    prefix_second a b k d h =
        let e = deep b k (omega arith) in
        let f : (row_at rows a).index + (row_at rows b).index ≡ suc ((row_at rows a).index + (row_at rows (row_at rows b).prev).index) = omega arith in
        rw (f, ne_eqb a b d, lt-ltb _ _ h) refl

    -- The first is at least as deep and climbs.
    pub prefix_first : (a b : ℕ) → Linked rows a → Linked rows b → a ≢ b → (row_at rows b).index ≤ (row_at rows a).index
        → prefix_of (chain ids rows n) a b ≡ prefix_of (chain ids rows n) (row_at rows a).prev b
    unfolding prefix_of climb
    prefix_first a b k j d h =
        let e = deep a k (deeper_first a b k j d h) in
        let f : (row_at rows a).index + (row_at rows b).index ≡ suc ((row_at rows (row_at rows a).prev).index + (row_at rows b).index) = omega arith in
        rw (f, ne_eqb a b d, le-ltb _ _ h) refl

    -- The ids and the count do not matter to a climb.
    climb_anywhere : (i : List ℕ) (m k a b : ℕ) → climb (chain ids rows n) k a b ≡ climb (chain i rows m) k a b
    unfolding climb
    climb_anywhere i m zero a b = refl
    climb_anywhere i m (suc k) a b =
        let t = ltb (row_at rows a).index (row_at rows b).index in
        ap (pick (eqb a b) a) (climb_anywhere i m k (pick t a (row_at rows a).prev) (pick t (row_at rows b).prev b))

    -- Nor to the prefix.
    pub prefix_anywhere : (i : List ℕ) (m a b : ℕ) → prefix_of (chain ids rows n) a b ≡ prefix_of (chain i rows m) a b
    unfolding prefix_of
    prefix_anywhere i m a b = climb_anywhere i m ((row_at rows a).index + (row_at rows b).index) a b

    -- A place is the one at its own index.
    pub at_start : (x : ℕ) → x ≡ at (chain ids rows n) x (row_at rows x).index
    unfolding at up
    at_start x = let z : (row_at rows x).index - (row_at rows x).index ≡ 0 = omega arith in rw z refl

    -- Before the one at an index stands the one at the index below.
    pub at_prev : (x k : ℕ) → suc k ≤ (row_at rows x).index → (row_at rows (at (chain ids rows n) x (suc k))).prev ≡ at (chain ids rows n) x k
    unfolding at up
    at_prev x k h =
        let e : suc ((row_at rows x).index - suc k) ≡ (row_at rows x).index - k = omega arith in
        ap (λ i. up (chain ids rows n) i x) e

-- Where one side of a climb stands that began at `x`: on the way back from there, with the last row that it left.
pub record Side (rows : List ℕ) (x place left : ℕ) : Type 0 where
  pub within : place ≤ x
  pub no_deeper : (row_at rows place).index ≤ (row_at rows x).index
  pub on_way : (ids : List ℕ) (n : ℕ) → place ≡ at (chain ids rows n) x (row_at rows place).index
  pub child : (ids : List ℕ) (n : ℕ) → left ≡ child_toward (chain ids rows n) place x

-- A side begins at its row, and has left none.
pub side_begins : (rows : List ℕ) (x : ℕ) → Side rows x x 0
side_begins rows x =
    record {
      within = omega arith;
      no_deeper = omega arith;
      on_way = λ ids n. at_start rows ids n x;
      child = λ ids n. rw (eq-eqb x x refl) refl;
    }

-- It climbs to `p`: it has left the place where it stood.
pub side_climbs : (rows : List ℕ) (x place left p : ℕ) → Linked rows x → Side rows x place left → 1 ≤ (row_at rows place).index
    → p ≡ (row_at rows place).prev → Side rows x p place
side_climbs rows x place left p k s h e =
    record {
      within = omega (arith, less, s.within);
      no_deeper = omega (arith, index, s.no_deeper);
      on_way = λ ids n. e ∙ ap (λ z. (row_at rows z).prev) (here ids n) ∙ at_prev rows ids n x (row_at rows p).index (omega (arith, index, s.no_deeper));
      child = λ ids n. rw (ne_eqb p x apart) (here ids n);
    }
  where
    j : Linked rows place
    j = linked_down rows x place k s.within

    less : p < place
    less = omega (arith, e, prev_less rows place j h)

    index : (row_at rows place).index ≡ suc (row_at rows p).index
    index = rw e (deep rows place j h)

    apart : p ≢ x
    apart f = omega (arith, f, less, s.within)

    here : (ids : List ℕ) (n : ℕ) → place ≡ at (chain ids rows n) x (suc (row_at rows p).index)
    here ids n = s.on_way ids n ∙ ap (at (chain ids rows n) x) index

-- Where a climb from `a` and `b` stands, and the last row that each side left.
pub record Standing (rows : List ℕ) (a b first second c d : ℕ) : Type 0 where
  pub first_side : Side rows a first c
  pub second_side : Side rows b second d
  pub same : (ids : List ℕ) (n : ℕ) → prefix_of (chain ids rows n) a b ≡ prefix_of (chain ids rows n) first second

-- The second climbs to `p`.
pub second_climbs : (rows : List ℕ) (a b first second c d p : ℕ) → Linked rows b → Standing rows a b first second c d → first ≢ second
    → (row_at rows first).index < (row_at rows second).index → p ≡ (row_at rows second).prev → Standing rows a b first p c second
second_climbs rows a b first second c d p k s u h e =
    let j = linked_down rows b second k s.second_side.within in
    record {
      first_side = s.first_side;
      second_side = side_climbs rows b second d p k s.second_side (omega arith) e;
      same = λ ids n. s.same ids n ∙ rw e (prefix_second rows ids n first second j u h);
    }

-- The first climbs to `p`.
pub first_climbs : (rows : List ℕ) (a b first second c d p : ℕ) → Linked rows a → Linked rows b → Standing rows a b first second c d
    → first ≢ second → (row_at rows second).index ≤ (row_at rows first).index → p ≡ (row_at rows first).prev → Standing rows a b p second first d
first_climbs rows a b first second c d p k j s u h e =
    let i = linked_down rows a first k s.first_side.within in
    let m = linked_down rows b second j s.second_side.within in
    record {
      first_side = side_climbs rows a first c p k s.first_side (deeper_first rows first second i m u h) e;
      second_side = s.second_side;
      same = λ ids n. s.same ids n ∙ rw e (prefix_first rows ids n first second i m u h);
    }

-- Both stand on one place.
pub climb_meets : (rows : List ℕ) (a b first second c d : ℕ) → Standing rows a b first second c d → first ≡ second
    → Climbed rows a b (record { row = first; first = c; second = d })
climb_meets rows a b first second c d s e =
    record {
      prefix = λ ids n. sym (s.same ids n ∙ prefix_met rows ids n first second e);
      first = s.first_side.child;
      second = λ ids n. rw e (s.second_side.child ids n);
    }

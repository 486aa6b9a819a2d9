-- The order of states: what the tests of the code ask and say.
-- Assumes nothing.
use Prim.Native.Nat.{ℕ, zero, suc, ◌≤◌}
use mathlib.Core.Path.{◌≡◌, refl, sym, ◌∙◌}
use mathlib.Core.Bool.{Bool, true, false, not}
use mathlib.Core.Logic.{◌≢◌, ⊎_elim}
use mathlib.Core.List.{List}
use native.Mathlib.Omega.{arith}
use borrow.Author.Tests.{eq-eqb, ne_eqb, lt-leb, le-leb}
use lib.Dec.{eqb, ltb, leb}
use Rattle.basics.specs.Decides.{Decides}
use Rattle.basics.proofs.Tests.{by_ltb}
use Rattle.chunks.proofs.Rest.{both_false}
use Rattle.chains.specs.Chain.{Node, toward, prefix_of, State, last_of, growing, forked, Evidence, ValidState, AtOrBelow}
use Rattle.chains.specs.Chain.{before?, admissible?, beyond?, at_or_below?}
use Rattle.chains.proofs.Laws.{eq?}
use Rattle.chains.proofs.Order.{last_node}
use Rattle.chains.proofs.Prefix.{prefix_swap}
use Rattle.chains.proofs.Ways.{child_away}
use Rattle.chains.proofs.Decide.{below_test}
use Rattle.logs.specs.declared.Phase.{Phase}
use Rattle.logs.specs.declared.Phase.TheVariants.{Growing, Forked}
use Rattle.logs.specs.declared.LogState.{LogState}
use Rattle.logs.specs.declared.Nearest.{Nearest}
use Rattle.logs.specs.Held.{key_of, chain, ids_alone, Linked, IdHeld, ChildHeld, Climbed, side_beyond?}
use Rattle.logs.specs.States.{standing, state_of, Pair, Comparable}
use Rattle.logs.proofs.Links.{prefix_anywhere}
use Rattle.logs.proofs.Additions.{last_standing, node_linked, row_named, evidence_held, first_held}

module _ (rows : List ℕ) (a b : ℕ) (w : Nearest) (c : Climbed rows a b w) (ids : List ℕ) (n : ℕ) where
  -- A climb that ends at the first place says that it is at or before the second,
  pub climbed_before : w.row ≡ a → true ≡ before? (chain ids rows n) a b
  climbed_before e = rw (← (c.prefix ids n), eq-eqb w.row a e) refl

  -- And one that ends elsewhere that it is not.
  pub climbed_apart : w.row ≢ a → false ≡ before? (chain ids rows n) a b
  climbed_apart d = rw (← (c.prefix ids n), ne_eqb w.row a d) refl

-- Not below is at least.
not_ltb : (a b : ℕ) → not (ltb a b) ≡ leb b a
not_ltb a b = by_ltb (λ t. not t ≡ leb b a) a b (λ h. sym (lt-leb b a h)) (λ h. sym (le-leb b a h))

-- The lower evidence row is admissible,
pub low_admissible : (ids : List ℕ) (low high c : ℕ) → c ≡ low → true ≡ admissible? (ids_alone ids) low high c
low_admissible ids low high c e = rw (eq-eqb c low e) refl

-- And any other by its id.
pub other_admissible : (ids : List ℕ) (low high c : ℕ) (r : Bool) → c ≢ low → r ≡ ltb (key_of ids c) (key_of ids high) → not r ≡ admissible?
    (ids_alone ids) low high c
other_admissible ids low high c r d e = rw (e, ne_eqb c low d) (not_ltb (key_of ids c) (key_of ids high))

-- A child that is not none is some row.
pub some_child : (c : ℕ) → c ≢ 0 → 1 ≤ c
some_child zero d = absurd (d refl)
some_child (suc c) d = omega arith

module _ (ids : List ℕ) (w : Nearest) (k low high : ℕ) where
  -- What the tests of beyond say: elsewhere the side is not beyond,
  pub side_elsewhere : w.row ≢ k → false ≡ side_beyond? ids w k low high
  side_elsewhere d = rw (ne_eqb w.row k d) refl

  -- Nor is it where no child leads to it.
  pub side_there : w.first ≡ 0 → false ≡ side_beyond? ids w k low high
  side_there e = rw (eq-eqb w.first 0 e) (sym (both_false (eqb w.row k)))

  -- Strictly after the prefix, the child decides.
  pub side_by_child : w.row ≡ k → w.first ≢ 0 → admissible? (ids_alone ids) low high w.first ≡ side_beyond? ids w k low high
  side_by_child e d = rw (eq-eqb w.row k e, ne_eqb w.first 0 d) refl

module _ (ids rows : List ℕ) (L : State) (k : LogState) (h : Comparable ids rows L (state_of k)) where
  -- The last row of the second state is none or the author's.
  bound : Node (chain ids rows h.count) h.author k.last
  bound = rw (last_standing k.last k.phase) at (last_node (chain ids rows h.count) h.sound.valid h.author h.second)

  -- So is that of the first.
  start : Node (chain ids rows h.count) h.author (last_of L)
  start = last_node (chain ids rows h.count) h.sound.valid h.author h.first

  -- What the climb of two comparable states asks.
  pub comparable_linked : Linked rows (last_of L) × Linked rows k.last
  comparable_linked = (
    node_linked ids rows h.count h.sound h.author (last_of L) start,
    node_linked ids rows h.count h.sound h.author k.last bound,
  )

  module _ (w : Nearest) (c : Climbed rows (last_of L) k.last w) where
    -- No child leads to a first side that stands at the prefix itself.
    no_child : w.row ≡ last_of L → w.first ≡ 0
    no_child e = c.first ids h.count ∙ rw (eq-eqb w.row (last_of L) e) refl

    -- Away from it the child has its id.
    away_named : w.row ≢ last_of L → IdHeld ids w.first
    away_named d =
        row_named ids rows h.count h.sound h.author w.first
        (first_held ids rows h.count h.sound h.author (last_of L) k.last start bound w c d)

    -- The climb the other way ends at the same row.
    prefix_turned : (n : ℕ) → prefix_of (chain ids rows n) k.last (last_of L) ≡ w.row
    prefix_turned n =
        prefix_anywhere rows ids n ids h.count k.last (last_of L)
        ∙ prefix_swap (chain ids rows h.count) h.sound.valid h.author k.last (last_of L) bound start
        ∙ sym (c.prefix ids h.count)

    -- The test of the first side is the definition's.
    pub side_is_beyond : (low high n : ℕ) → side_beyond? ids w k.last low high ≡ beyond? (chain ids rows n) k.last low high (last_of L)
    side_is_beyond low high n = ⊎_elim (λ e. ⊎_elim (at_it e) (after e) (eq? w.row (last_of L))) elsewhere (eq? w.row k.last)
      where
        elsewhere : w.row ≢ k.last → side_beyond? ids w k.last low high ≡ beyond? (chain ids rows n) k.last low high (last_of L)
        elsewhere d = rw (prefix_turned n, ne_eqb w.row k.last d) refl

        at_it : w.row ≡ k.last → w.row ≡ last_of L → side_beyond? ids w k.last low high ≡ beyond? (chain ids rows n) k.last low high (last_of L)
        at_it e f =
            rw (prefix_turned n, eq-eqb w.row k.last e, eq-eqb w.first 0 (no_child f), eq-eqb k.last (last_of L) (sym e ∙ f)) refl

        after : w.row ≡ k.last → w.row ≢ last_of L → side_beyond? ids w k.last low high ≡ beyond? (chain ids rows n) k.last low high (last_of L)
        after e d =
            let g : w.first ≡ toward (chain ids rows n) k.last (last_of L) =
            rw e at (child_away (chain ids rows n) w.row (last_of L) w.first (c.first ids n) d) in
            let there : w.first ≢ 0 = λ z. omega (arith, z, (away_named d).some) in
            rw (prefix_turned n, eq-eqb w.row k.last e, ne_eqb w.first 0 there, ne_eqb k.last (last_of L) (λ z. d (e ∙ z)), ← g) refl

  module _ (low high : ℕ) (e : k.phase ≡ Forked low high) where
    -- The evidence of a forked second state.
    second_evidence : Evidence (chain ids rows h.count) h.author k.last low high
    second_evidence =
        let v : ValidState (chain ids rows h.count) h.author (forked k.last low high) = rw e at h.second in
        evidence_held ids rows h.count h.sound h.author k.last low high v

    -- What beyond asks.
    pub side_named : (w : Nearest) → Climbed rows (last_of L) k.last w → IdHeld ids high × ChildHeld ids w.first
    side_named w c = (
      row_named ids rows h.count h.sound h.author high second_evidence.high,
      λ p. away_named w c (λ z. omega (arith, p, no_child w c z)),
    )

    -- What the comparison of evidence asks.
    pub evidence_named : (l a b : ℕ) → L ≡ forked l a b → (IdHeld ids high × IdHeld ids a) × (IdHeld ids high × IdHeld ids b)
    evidence_named l a b d =
        let v : ValidState (chain ids rows h.count) h.author (forked l a b) = rw d at h.first in
        let w = evidence_held ids rows h.count h.sound h.author l a b v in
        let q = row_named ids rows h.count h.sound h.author high second_evidence.high in (
          (q, row_named ids rows h.count h.sound h.author a w.low),
          (q, row_named ids rows h.count h.sound h.author b w.high),
        )

module _ (ids rows : List ℕ) (n l m : ℕ) where
  -- What growing at `l` is beside a state at `m`.
  pub covered_below : (p : Phase) → true ≡ before? (chain ids rows n) l m → true ≡ at_or_below? (chain ids rows n) (growing l) (standing m p)
  unfolding at_or_below?
  covered_below Growing e = e
  covered_below (Forked low high) e = rw (← e) refl

  -- Not at or before the last of a growing state: not below.
  pub apart_below : (p : Phase) → p ≡ Growing → false ≡ before? (chain ids rows n) l m → false ≡ at_or_below? (chain ids rows n) (growing l) (standing m p)
  unfolding at_or_below?
  apart_below p d e = rw d e

  -- Not at or before the last of a forked state: beyond decides.
  pub beyond_below : (p : Phase) (low high : ℕ) (r : Bool) → p ≡ Forked low high → false ≡ before? (chain ids rows n) l m
      → r ≡ beyond? (chain ids rows n) m low high l → r ≡ at_or_below? (chain ids rows n) (growing l) (standing m p)
  unfolding at_or_below?
  beyond_below p low high r d e f = rw (d, ← e) f

  -- What forked at `l` is beside a state at `m`.
  pub forked_above_growing : (p : Phase) (a b : ℕ) → p ≡ Growing → false ≡ at_or_below? (chain ids rows n) (forked l a b) (standing m p)
  unfolding at_or_below?
  forked_above_growing p a b d = rw d refl

  module _ (p : Phase) (a b low high : ℕ) (d : p ≡ Forked low high) where
    -- Beyond the second's last row: below.
    pub forked_beyond : (q : Bool) → q ≡ beyond? (chain ids rows n) m low high l → q ≡ true → true ≡ at_or_below? (chain ids rows n) (forked l a b) (standing m p)
    unfolding at_or_below?
    forked_beyond q g e = rw (d, ← g, e) refl

    -- At another last row: not below.
    pub forked_elsewhere : (q : Bool) → q ≡ beyond? (chain ids rows n) m low high l → q ≡ false → l ≢ m → false ≡ at_or_below? (chain ids rows n)
        (forked l a b) (standing m p)
    unfolding at_or_below?
    forked_elsewhere q g e f = rw (d, ← g, e, ne_eqb l m f) refl

    -- At one last row, with lower evidence that is not admissible: not below.
    pub low_refused : (q : Bool) → q ≡ beyond? (chain ids rows n) m low high l → q ≡ false → l ≡ m → (r : Bool) → r ≡ admissible? (ids_alone ids) low
        high a → r ≡ false → false ≡ at_or_below? (chain ids rows n) (forked l a b) (standing m p)
    unfolding at_or_below?
    low_refused q g e f r h z = rw (d, ← g, e, eq-eqb l m f, ← h, z) refl

    -- With admissible lower evidence, the higher decides.
    pub high_decides : (q : Bool) → q ≡ beyond? (chain ids rows n) m low high l → q ≡ false → l ≡ m → (r : Bool) → r ≡ admissible? (ids_alone ids) low
        high a → r ≡ true
        → (u : Bool) → u ≡ admissible? (ids_alone ids) low high b → u ≡ at_or_below? (chain ids rows n) (forked l a b) (standing m p)
    unfolding at_or_below?
    high_decides q g e f r h z u w = rw (d, ← g, e, eq-eqb l m f, ← h, z) w

module _ (ids rows : List ℕ) (n : ℕ) (first second : LogState) (h : Pair ids rows n first second) where
  -- Two valid states of one author are comparable.
  pub pair_comparable : Comparable ids rows (state_of first) (state_of second)
  pair_comparable = record { count = n; author = first.author; sound = h.sound; first = h.first; second = rw h.one h.second }

  -- The test decides the order.
  pub test_decides : (r : Bool) → r ≡ at_or_below? (chain ids rows n) (state_of first) (state_of second)
      → Decides (AtOrBelow (chain ids rows n) (state_of first) (state_of second)) r
  test_decides r e = rw e (below_test (chain ids rows n) h.sound.valid first.author h.first (rw h.one h.second))

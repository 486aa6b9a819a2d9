-- One row more: what a sound store gives to a climb and to a comparison of ids, and the cases of the code that adds a row.
-- Assumes nothing.
use Prim.Native.Nat.{ℕ, ◌≤◌}
use mathlib.Core.Path.{◌≡◌, refl, sym}
use mathlib.Core.Logic.{inl, inr, ◌≢◌}
use mathlib.Core.List.{List}
use native.Mathlib.Omega.{arith}
use borrow.Author.Tests.{eq-eqb, ne_eqb}
use Rattle.store.specs.Table.{row_at}
use Rattle.chains.specs.Chain.{RowOf, Node, Before, toward, prefix_of, child_toward, last_of, Evidence, ValidState, forked_valid, forked, sorted_at, with_child, add}
use Rattle.chains.proofs.Climb.{child_row}
use Rattle.chains.proofs.Order.{last_node}
use Rattle.chains.proofs.Prefix.{prefix_exists}
use Rattle.chains.proofs.Ways.{child_away}
use Rattle.logs.specs.declared.Phase.{Phase}
use Rattle.logs.specs.declared.Phase.TheVariants.{Growing, Forked}
use Rattle.logs.specs.declared.LogState.{LogState}
use Rattle.logs.specs.declared.Nearest.{Nearest}
use Rattle.logs.specs.Held.{chain, ids_alone, Sound, Linked, IdHeld, Climbed}
use Rattle.logs.specs.States.{standing, state_of, Addable, Added}

-- The last row of a state with any phase.
pub last_standing : (l : ℕ) (p : Phase) → last_of (standing l p) ≡ l
last_standing l Growing = refl
last_standing l (Forked low high) = refl

module _ (ids rows : List ℕ) (n : ℕ) (h : Sound ids rows n) where
  -- The rows of a sound store are linked, up to each of them.
  pub within_linked : (x : ℕ) → x ≤ n → Linked rows x
  within_linked x p =
      record {
        older = λ y q r. h.valid.older (row_at rows y).author y (record { some = r; held = omega arith; by = refl });
        counted = λ y q r. h.valid.counted (row_at rows y).author y (record { some = r; held = omega arith; by = refl });
      }

  -- So none and every row of an author are linked.
  pub node_linked : (A x : ℕ) → Node (chain ids rows n) A x → Linked rows x
  node_linked A x (inl e) = within_linked x (omega arith)
  node_linked A x (inr r) = within_linked x r.held

  -- And have their ids.
  pub row_named : (A x : ℕ) → RowOf (chain ids rows n) A x → IdHeld ids x
  row_named A x r = record { some = r.some; held = omega (arith, r.held, h.held) }

  -- The last row of a valid state is none or the author's.
  pub last_held : (k : LogState) → ValidState (chain ids rows n) k.author (state_of k) → Node (chain ids rows n) k.author k.last
  last_held k v = rw (last_standing k.last k.phase) at (last_node (chain ids rows n) h.valid k.author v)

  -- The evidence of a valid forked state.
  pub evidence_held : (A l low high : ℕ) → ValidState (chain ids rows n) A (forked l low high) → Evidence (chain ids rows n) A l low high
  evidence_held A l low high (forked_valid p e) = e

  -- The child toward a row that is not the prefix itself is a row of the author.
  child_held : (A p x c : ℕ) → Node (chain ids rows n) A x → Before (chain ids rows n) p x → c ≡ child_toward (chain ids rows n) p x
      → RowOf (chain ids rows n) A c
  child_held A p x c nx b e =
      rw (child_away (chain ids rows n) p x c e b.apart) (child_row (chain ids rows n) h.valid A p x nx b)

  module _ (A a b : ℕ) (na : Node (chain ids rows n) A a) (nb : Node (chain ids rows n) A b) (w : Nearest) (c : Climbed rows a b w) where
    -- So is the child toward the first,
    pub first_held : w.row ≢ a → RowOf (chain ids rows n) A w.first
    first_held d =
        let i = prefix_exists (chain ids rows n) h.valid A a b na nb in
        child_held A w.row a w.first na (record { back = rw (c.prefix ids n) i.left; apart = d }) (c.first ids n)

    -- And the child toward the second.
    pub second_held : w.row ≢ b → RowOf (chain ids rows n) A w.second
    second_held d =
        let i = prefix_exists (chain ids rows n) h.valid A a b na nb in
        child_held A w.row b w.second nb (record { back = rw (c.prefix ids n) i.right; apart = d }) (c.second ids n)

module _ (ids rows : List ℕ) (n : ℕ) (k : LogState) (x : ℕ) (w : Nearest) (c : Climbed rows k.last x w) where
  -- The prefix that the climb found, of the state as the definitions see it.
  prefix_is : prefix_of (chain ids rows n) (last_of (state_of k)) x ≡ w.row
  prefix_is = rw (last_standing k.last k.phase) (sym (c.prefix ids n))

  -- The row is at or before the last one: nothing new.
  pub add_covered : w.row ≡ x → Added ids rows n k x k
  unfolding add
  add_covered e = record { author = refl; state = rw (prefix_is, eq-eqb w.row x e) refl }

  -- The two part at the prefix: forked there.
  pub add_forks : w.row ≢ x → w.row ≢ k.last → (phase : Phase) → ((l : ℕ) → standing l phase ≡ sorted_at (ids_alone ids) l w.first w.second)
      → Added ids rows n k x (record { author = k.author; last = w.row; phase = phase })
  unfolding add
  add_forks d e phase f =
      let g = child_away (chain ids rows n) w.row k.last w.first (c.first ids n) e in
      let h = child_away (chain ids rows n) w.row x w.second (c.second ids n) d in
      record {
        author = refl;
        state = rw (prefix_is, last_standing k.last k.phase, ne_eqb w.row x d, ne_eqb w.row k.last e, ← g, ← h) (f w.row);
      }

  -- The row is after the last one of a growing state.
  pub add_grows : w.row ≢ x → w.row ≡ k.last → k.phase ≡ Growing → Added ids rows n k x (record { author = k.author; last = x; phase = k.phase })
  unfolding add
  add_grows d e f =
      record { author = refl; state = rw (prefix_is, ne_eqb w.row x d, last_standing k.last k.phase, eq-eqb w.row k.last e, f) refl }

  -- The row is after the last one of a forked state: one more child.
  pub add_child : w.row ≢ x → w.row ≡ k.last → (low high : ℕ) (phase : Phase) → k.phase ≡ Forked low high
      → ((l : ℕ) → standing l phase ≡ with_child (ids_alone ids) l low high w.second) → Added ids rows n k x
      (record { author = k.author; last = k.last; phase = phase })
  unfolding add
  add_child d e low high phase f g =
      let h : w.second ≡ toward (chain ids rows n) k.last x =
      rw e at (child_away (chain ids rows n) w.row x w.second (c.second ids n) d) in
      record {
        author = refl;
        state = rw (prefix_is, ne_eqb w.row x d, last_standing k.last k.phase, eq-eqb w.row k.last e, f, ← h) (g k.last);
      }

module _ (ids rows : List ℕ) (n : ℕ) (k : LogState) (x : ℕ) (h : Addable ids rows n k x) where
  -- What the climb asks.
  pub climb_ready : Linked rows k.last × Linked rows x
  climb_ready = (
    node_linked ids rows n h.sound k.author k.last (last_held ids rows n h.sound k h.state),
    node_linked ids rows n h.sound k.author x h.row,
  )

  module _ (w : Nearest) (c : Climbed rows k.last x w) (d : w.row ≢ x) where
    -- The last row is none or the author's.
    last_here : Node (chain ids rows n) k.author k.last
    last_here = last_held ids rows n h.sound k h.state

    -- The child toward the row has its id.
    row_child : IdHeld ids w.second
    row_child =
        row_named ids rows n h.sound k.author w.second
        (second_held ids rows n h.sound k.author k.last x last_here h.row w c d)

    -- What sorting the two children asks.
    pub fork_ready : w.row ≢ k.last → IdHeld ids w.first × IdHeld ids w.second
    fork_ready e = (
      row_named ids rows n h.sound k.author w.first
          (first_held ids rows n h.sound k.author k.last x last_here h.row w c e),
      row_child,
    )

    -- What one more child of a forked state asks.
    pub child_ready : (low high : ℕ) → k.phase ≡ Forked low high → IdHeld ids low × (IdHeld ids high × IdHeld ids w.second)
    child_ready low high f =
        let v : ValidState (chain ids rows n) k.author (standing k.last (Forked low high)) = rw f at h.state in
        let e = evidence_held ids rows n h.sound k.author k.last low high v in (
          row_named ids rows n h.sound k.author low e.low,
          (row_named ids rows n h.sound k.author high e.high, row_child),
        )

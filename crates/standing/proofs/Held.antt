-- What the store holds of an entry, and the state that it says.
-- Assumes nothing.
use Rattle.std.specs.Prelude.{Option, Some, None}
use Prim.Native.Nat.{ℕ, suc, ◌+◌, ◌-◌, ◌≤◌, ◌<◌}
use mathlib.Core.Path.{◌≡◌, sym, ap, ◌∙◌}
use mathlib.Core.Bool.{Bool, true, false, not}
use mathlib.Core.Logic.{◌≢◌}
use mathlib.Core.List.{List}
use mathlib.Core.Option.{none, some}
use native.Mathlib.Omega.{arith}
use lib.Dec.{eqb}
use borrow.Author.Tests.{eq-eqb, ne_eqb}
use Rattle.basics.specs.Decides.{Decides}
use Rattle.basics.proofs.Decisions.{decided_yes, decided_no}
use Rattle.basics.proofs.Tests.{by_eqb}
use Rattle.chunks.specs.Bytes.{same_bytes}
use Rattle.chunks.specs.Lookup.{place_of, found_of}
use Rattle.chunks.proofs.Finding.{at_first, first_place_lem, none_there, none_place}
use Rattle.chains.specs.Chain.{growing, forked}
use Rattle.kind3.specs.Entries.{key_in, phase_in, presence_in, last_id_in, low_id_in, high_id_in}
use Rattle.standing.specs.Finding.{LastHeld, EvidenceHeld, last_row_in, rows_in, rows_for}

module _ (s x y : List ℕ) (n : ℕ) (r : Option ℕ) (e : r ≡ found_of (place_of s n x)) (d : x ≡ y) where
  -- A piece that is not found has no place.
  pub place_missing : r ≡ None → 0 ≡ place_of s n y
  place_missing m = sym (ap (place_of s n) (sym d) ∙ none_place s x n (none_there s x n (sym e ∙ m)))

  module _ (k : ℕ) (a : r ≡ Some k) where
    -- One that is found has the place,
    pub place_found : k ≡ place_of s n y
    place_found = sym (first_place_lem s x n k (at_first s x n k (sym e ∙ a))) ∙ ap (place_of s n) d

    -- among the first,
    pub place_within : k ≤ n
    place_within = (at_first s x n k (sym e ∙ a)).within

    -- and it is some.
    pub place_there : 1 ≤ place_of s n y
    place_there = let q = (at_first s x n k (sym e ∙ a)).some in let p = place_found in omega arith

module _ (ids : List ℕ) (m : ℕ) (s : List ℕ) (i v : ℕ) where
  -- There is no last row.
  pub last_none : v ≡ presence_in s i → v ≡ 0 → Decides (LastHeld ids m s i) true
  last_none e z = decided_yes (λ n. absurd (n (sym e ∙ z)))

  -- There is one, and its place decides.
  pub last_some : (r : ℕ) → v ≡ presence_in s i → v ≢ 0 → r ≡ place_of ids m (last_id_in s i) → Decides (LastHeld ids m s i) (not (eqb r 0))
  last_some r e n p =
      by_eqb (λ t. Decides (LastHeld ids m s i) (not t)) r 0 (λ z. decided_no (λ h. let q = h (λ k. n (e ∙ k)) in omega arith))
      (λ z. decided_yes (λ k. omega arith))

  -- There is no evidence.
  pub evidence_none : v ≡ phase_in s i → v ≡ 0 → Decides (EvidenceHeld ids m s i) true
  evidence_none e z = decided_yes (λ n. absurd (n (sym e ∙ z)))

  -- There is, and the lower id is not held.
  pub low_lacks : (l : ℕ) → v ≡ phase_in s i → v ≢ 0 → l ≡ place_of ids m (low_id_in s i) → l ≡ 0 → Decides (EvidenceHeld ids m s i) false
  low_lacks l e n p z = decided_no (λ h. let q = (h (λ k. n (e ∙ k))).0 in omega arith)

  -- It is held, and the higher one's place decides.
  pub high_decides : (l r : ℕ) → v ≡ phase_in s i → v ≢ 0 → l ≡ place_of ids m (low_id_in s i) → l ≢ 0 → r ≡ place_of ids m (high_id_in s i)
      → Decides (EvidenceHeld ids m s i) (not (eqb r 0))
  high_decides l r e n p h q =
      by_eqb (λ t. Decides (EvidenceHeld ids m s i) (not t)) r 0 (λ z. decided_no (λ w. let u = (w (λ k. n (e ∙ k))).1 in omega arith))
      (λ z. decided_yes (λ k. (omega arith, omega arith)))

  -- The last row where there is none, and where there is one.
  pub last_row_none : v ≡ presence_in s i → v ≡ 0 → 0 ≡ last_row_in ids m s i
  last_row_none e z = rw (eq-eqb (presence_in s i) 0 (sym e ∙ z))

  pub last_row_some : (r : ℕ) → v ≡ presence_in s i → v ≢ 0 → r ≡ place_of ids m (last_id_in s i) → r ≡ last_row_in ids m s i
  last_row_some r e n p = rw (ne_eqb (presence_in s i) 0 (λ k. n (e ∙ k))) p

  -- The state of a growing entry, and of a forked one.
  pub growing_rows : (l : ℕ) → v ≡ phase_in s i → v ≡ 0 → l ≡ last_row_in ids m s i → growing l ≡ rows_in ids m s i
  growing_rows l e z p = rw (eq-eqb (phase_in s i) 0 (sym e ∙ z)) (ap growing p)

  pub forked_rows : (l lo hi : ℕ) → v ≡ phase_in s i → v ≢ 0 → l ≡ last_row_in ids m s i → lo ≡ place_of ids m (low_id_in s i) → hi ≡ place_of ids m (high_id_in s i)
      → forked l lo hi ≡ rows_in ids m s i
  forked_rows l lo hi e n p q r = rw (ne_eqb (phase_in s i) 0 (λ k. n (e ∙ k))) (rw (p, q, r))

module _ (ids : List ℕ) (m : ℕ) (s key : List ℕ) (n : ℕ) where
  -- Before the first entry the rest is all.
  pub rows_all : rows_for ids m s key n 0 ≡ rows_for ids m s key (n - 0) 0
  rows_all = let e : n - 0 ≡ n = omega arith in rw e

  module _ (i : ℕ) (x y : List ℕ) (t : Bool) (h : i < n) (p : x ≡ key_in s i) (q : y ≡ key) (g : t ≡ same_bytes x y) where
    same : same_bytes (key_in s i) key ≡ t
    same = sym (g ∙ rw (p, q))

    -- An entry with the key decides,
    pub rows_found : rows_for ids m s key n 0 ≡ rows_for ids m s key (n - i) i → t ≡ true → rows_for ids m s key n 0 ≡ some (rows_in ids m s i)
    unfolding rows_for
    rows_found e f = let d : n - i ≡ suc (n - (i + 1)) = omega arith in e ∙ rw (d, same, f)

    -- another leaves it to the rest.
    pub rows_more : rows_for ids m s key n 0 ≡ rows_for ids m s key (n - i) i → t ≡ false
        → rows_for ids m s key n 0 ≡ rows_for ids m s key (n - (i + 1)) (i + 1)
    unfolding rows_for
    rows_more e f =
        let d : n - i ≡ suc (n - (i + 1)) = omega arith in
        let a : i + 1 ≡ suc i = omega arith in
        e ∙ rw (d, same, f, a)

  -- After the last entry there is none.
  pub rows_none : (i : ℕ) → n ≤ i → rows_for ids m s key n 0 ≡ rows_for ids m s key (n - i) i → rows_for ids m s key n 0 ≡ none
  unfolding rows_for
  rows_none i h e = let d : n - i ≡ 0 = omega arith in rw d at e

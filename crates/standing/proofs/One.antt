-- A valid frontier is told by what it says: over one store no two say the same.
-- Assumes nothing.
use Prim.Native.Nat.{ℕ, ◌≤◌}
use mathlib.Core.Path.{◌≡◌, refl, sym, ap, ◌∙◌}
use mathlib.Core.List.{List}
use mathlib.Core.Option.{Option, none, some}
use native.Mathlib.Omega.{arith}
use Rattle.basics.proofs.Tests.{by_eqb, by_ltb}
use Rattle.store.specs.Table.{Table, WellFormed, key_at}
use Rattle.chains.specs.Chain.{State, growing, forked, ValidState, growing_valid, forked_valid}
use Rattle.logs.specs.Held.{chain_of}
use Rattle.frontiers.specs.Entries.{Entry, entry_of, ValidAt}
use Rattle.frontiers.proofs.Entries.{absent, rising_unique}
use Rattle.frontiers.proofs.Merged.{unknown}
use Rattle.standing.specs.Standing.{by_ids, SameStanding}
use Rattle.standing.specs.Reading.{rows_of, rows_at}
use Rattle.standing.proofs.Said.{EntriesOf, said, valid_within, says_entry}
use Rattle.standing.proofs.Rows.{row_message, node_place, row_own, last_own}

module _ (t : Table) (w : WellFormed t) where
  -- A valid state is the one that stands where it does.
  state_back : (A : ℕ) (L : State) → ValidState (chain_of t) A L → rows_of t (by_ids t L) ≡ L
  state_back A (growing l) (growing_valid n) = ap growing (last_own t w l (node_place t A l n))
  state_back A (forked l lo hi) (forked_valid n e) =
      rw (last_own t w l (node_place t A l n), row_own t w lo (row_message t A lo e.low), row_own t w hi (row_message t A hi e.high))

  -- So is an entry or an absence.
  entry_back : (A : ℕ) (x : Option State) → ValidAt (chain_of t) t.counts.authors A x → rows_at t (said t x) ≡ x
  entry_back A none v = refl
  entry_back A (some l) v = ap some (state_back A l v.1.1)

  module _ (f g : List Entry) (v : EntriesOf t f) (u : EntriesOf t g) (e : SameStanding t f t g) where
    -- Frontiers that say the same have the same entries:
    one_entry : (a : ℕ) → 1 ≤ a → a ≤ t.counts.authors → entry_of f a ≡ entry_of g a
    one_entry a h l =
        let p = says_entry t w f (valid_within t f v) a h l in
        let q = says_entry t w g (valid_within t g u) a h l in
        sym (entry_back a (entry_of f a) (v.each a)) ∙ ap (rows_at t) (sym p ∙ e (key_at t a) ∙ q) ∙ entry_back a (entry_of g a) (u.each a)

    -- they are one.
    pub one_frontier : f ≡ g
    one_frontier =
        rising_unique v.rising u.rising (λ a.
        by_ltb (λ b. entry_of f a ≡ entry_of g a) t.counts.authors a
        (λ h. unknown (chain_of t) t.counts.authors a (entry_of f a) h (v.each a)
        ∙ sym (unknown (chain_of t) t.counts.authors a (entry_of g a) h (u.each a)))
        (λ h. by_eqb (λ b. entry_of f a ≡ entry_of g a) a 0
        (λ z. absent v.rising a (omega arith) ∙ sym (absent u.rising a (omega arith)))
        (λ z. one_entry a (omega arith) h)))

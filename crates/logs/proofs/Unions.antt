-- The merge of two states by adding rows.
-- Assumes nothing.
use Prim.Native.Nat.{ℕ}
use mathlib.Core.Path.{◌≡◌, refl, sym, ◌∙◌}
use mathlib.Core.Logic.{inr}
use mathlib.Core.List.{List}
use Rattle.chains.specs.Chain.{Evidence, ValidState, forked, add, merge_of}
use Rattle.chains.proofs.Add.{add_adds}
use Rattle.chains.proofs.Merge.{merge_is_union, merge_of_valid}
use Rattle.logs.specs.declared.Phase.TheVariants.{Growing, Forked}
use Rattle.logs.specs.declared.LogState.{LogState}
use Rattle.logs.specs.Held.{chain}
use Rattle.logs.specs.States.{state_of, Addable, Added, Pair, Joined}
use Rattle.logs.proofs.Additions.{last_held, evidence_held}

module _ (ids rows : List ℕ) (n : ℕ) (first second : LogState) (h : Pair ids rows n first second) where
  -- The evidence of a forked first state is of the second's author.
  evidence : (low high : ℕ) → first.phase ≡ Forked low high → Evidence (chain ids rows n) second.author first.last low high
  evidence low high e =
      let v : ValidState (chain ids rows n) first.author (forked first.last low high) = rw e at h.first in
      rw h.one at (evidence_held ids rows n h.sound first.author first.last low high v)

  -- The last row of the first state may be added to the second.
  pub last_addable : Addable ids rows n second first.last
  last_addable =
      record { sound = h.sound; state = h.second; row = rw h.one at (last_held ids rows n h.sound first h.first) }

  -- So may its lower evidence row,
  pub low_addable : (low high : ℕ) → first.phase ≡ Forked low high → Addable ids rows n second low
  low_addable low high e = record { sound = h.sound; state = h.second; row = inr (evidence low high e).low }

  -- And its higher one after that.
  pub high_addable : (low high : ℕ) → first.phase ≡ Forked low high → (m : LogState) → Added ids rows n second low m → Addable ids rows n m high
  high_addable low high e m a =
      let s = chain ids rows n in
      let v : ValidState s second.author (add s (state_of second) low) = (add_adds s h.sound.valid second.author h.second low
      (inr (evidence low high e).low)).valid in
      record { sound = h.sound; state = rw (a.author, a.state) v; row = rw a.author (inr (evidence low high e).high) }

  -- What is the computed merge is the merge.
  computed : (r : LogState) → r.author ≡ second.author → state_of r ≡ merge_of (chain ids rows n) (state_of first) (state_of second) → Joined ids rows n
      first second r
  computed r a e =
      let s = chain ids rows n in
      let w : ValidState s first.author (state_of second) = rw h.one h.second in
      let b : r.author ≡ first.author = a ∙ sym h.one in
      record {
        author = b;
        state = e;
        merged = rw e (merge_is_union s h.sound.valid first.author (state_of first) (state_of second) h.first w);
        valid = rw (b, e) (merge_of_valid s h.sound.valid first.author h.first w);
      }

  -- The first state grows: its last row is added.
  pub growing_joined : first.phase ≡ Growing → (r : LogState) → Added ids rows n second first.last r → Joined ids rows n first second r
  unfolding merge_of
  growing_joined e r a = computed r a.author (a.state ∙ rw e refl)

  -- The first state is forked: its evidence is added, the lower and then the higher.
  pub forked_joined : (low high : ℕ) → first.phase ≡ Forked low high → (m r : LogState)
      → Added ids rows n second low m → Added ids rows n m high r → Joined ids rows n first second r
  unfolding merge_of
  forked_joined low high e m r a b = computed r (b.author ∙ a.author) (b.state ∙ rw (e, a.state) refl)

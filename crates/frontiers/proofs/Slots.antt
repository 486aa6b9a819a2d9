-- The joined entry of an author, by what the two searches found.
-- Assumes nothing.
use Rattle.std.specs.Prelude.{Some, None}
use Rattle.frontiers.specs.Slot.{Slot}
use Prim.Native.Nat.{ℕ}
use mathlib.Core.Path.{◌≡◌, refl, sym, ap, ◌∙◌}
use mathlib.Core.List.{List}
use mathlib.Core.Option.{Option, none, some}
use Rattle.store.specs.declared.lent.Counts.{Counts}
use Rattle.chains.specs.Chain.{Store, State, ValidState}
use Rattle.logs.specs.Held.{chain}
use Rattle.logs.specs.States.{state_of, Pair, Joined}
use Rattle.logs.specs.declared.LogState.{LogState}
use Rattle.frontiers.specs.Entries.{entry_of, ValidAt}
use Rattle.frontiers.specs.Numbers.{entries_of, ValidFrontier}
use Rattle.frontiers.specs.Found.{Holds}
use Rattle.frontiers.specs.Merging.{joined_at}
use Rattle.frontiers.specs.Ready.{Frontiers}
use Rattle.frontiers.proofs.Numbers.{valid_entries}

-- A slot that is empty, or has an entry, says what it holds.
pub holds_none : (a : ℕ) (x : Option State) (r : Slot) → r ≡ None → Holds a x r → x ≡ none
holds_none a x r e h = rw e at h

pub holds_some : (a : ℕ) (x : Option State) (r : Slot) (k : LogState) → r ≡ Some k → Holds a x r → (k.author ≡ a) × (x ≡ some (state_of k))
holds_some a x r k e h = rw e at h

-- No entry in the first: that of the second.
pub joined_second : (s : Store) (f g : List ℕ) (a : ℕ) (r q : Slot) → r ≡ None → Holds a (entry_of (entries_of f) a) r → Holds a (entry_of (entries_of g) a) q
    → Holds a (joined_at s f g a) q
unfolding joined_at
joined_second s f g a r q e h k = rw (holds_none a (entry_of (entries_of f) a) r e h) k

-- No entry in the second: that of the first.
pub joined_first : (s : Store) (f g : List ℕ) (a : ℕ) (r q : Slot) (k : LogState) → r ≡ Some k → q ≡ None → Holds a (entry_of (entries_of f) a) r
    → Holds a (entry_of (entries_of g) a) q → Holds a (joined_at s f g a) (Some k)
unfolding joined_at
joined_first s f g a r q k e d h j =
    let p = holds_some a (entry_of (entries_of f) a) r k e h in
    rw (p.1, holds_none a (entry_of (entries_of g) a) q d j) (p.0, refl)

-- An entry of a valid frontier is a valid state of its author.
entry_state : (s : Store) (n a : ℕ) (f : List ℕ) (k : LogState) → ValidFrontier s n f → (k.author ≡ a) × (entry_of (entries_of f) a ≡ some (state_of k))
    → ValidState s k.author (state_of k)
entry_state s n a f k v p =
    let w : ValidAt s n a (some (state_of k)) = rw p.1 at ((valid_entries s n f v).each a) in
    rw p.0 w.1.1

module _ (ids rows : List ℕ) (counts : Counts) (f g : List ℕ) (v : Frontiers ids rows counts f g) (a : ℕ) (r q : Slot) (k l : LogState)
    (e : r ≡ Some k) (d : q ≡ Some l) (h : Holds a (entry_of (entries_of f) a) r) (j : Holds a (entry_of (entries_of g) a) q) where
  -- Entries in both: two valid states of one author.
  pub entries_pair : Pair ids rows counts.rows k l
  entries_pair =
      let p = holds_some a (entry_of (entries_of f) a) r k e h in
      let o = holds_some a (entry_of (entries_of g) a) q l d j in
      record {
        sound = v.sound;
        one = p.0 ∙ sym o.0;
        first = entry_state (chain ids rows counts.rows) counts.authors a f k v.first p;
        second = entry_state (chain ids rows counts.rows) counts.authors a g l v.second o;
      }

  -- Their merge is the joined entry.
  pub joined_both : (m : LogState) → Joined ids rows counts.rows k l m → Holds a (joined_at (chain ids rows counts.rows) f g a) (Some m)
  unfolding joined_at
  joined_both m u =
      let p = holds_some a (entry_of (entries_of f) a) r k e h in
      let o = holds_some a (entry_of (entries_of g) a) q l d j in
      (u.author ∙ p.0, rw (p.1, o.1) (ap some (sym u.state)))

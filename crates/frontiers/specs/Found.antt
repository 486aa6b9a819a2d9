-- What a search for an author's entry answers.
-- Assumes nothing.
use Rattle.frontiers.specs.Slot.{Slot}
use Rattle.std.specs.Prelude.{ℕ, ◌+◌, ◌≡◌, Bool, true, false, List, [], length, Some, None}
use Rattle.std.proofs.Math.Option.{Option, none, some}
use Rattle.std.proofs.Math.Seq.{paste}
use Rattle.chains.specs.Chain.{State}
use Rattle.logs.specs.States.{state_of}
use Rattle.logs.specs.declared.LogState.{LogState}
use Rattle.frontiers.specs.Entries.{numbers}
use Rattle.frontiers.specs.Numbers.{author_at, state_at}

-- `k` is entry `i` of the frontier `f`.
pub record Read (f : List ℕ) (i : ℕ) (k : LogState) : Type 0 where
  pub author : k.author ≡ author_at f i
  pub state : state_of k ≡ state_at f i

-- A slot holds `x`, an entry of author `a` or its absence.
abbrev pub Holds : ℕ → Option State → Slot → Type 0
Holds a x None = x ≡ none
Holds a x (Some k) = (k.author ≡ a) × (x ≡ some (state_of k))

-- The numbers of the entry that a slot holds.
abbrev pub slot_numbers : Slot → List ℕ
slot_numbers None = []
slot_numbers (Some k) = numbers k.author (state_of k)

-- `text` stands behind the first `used` numbers, and all else stays.
pub record PutBehind (out : List ℕ) (used : ℕ) (text out' : List ℕ) (used' : ℕ) : Type 0 where
  pub content : out' ≡ paste out used text (length text)
  pub grown : used' ≡ used + length text

-- Is there an entry?
abbrev pub present : Option State → Bool
present none = false
present (some l) = true

-- "When can everyone be sure to show the same thing?": what request 12 says of studios that have met.
-- Assumes nothing.
use Rattle.std.specs.Prelude.{ℕ, ◌*◌, ◌≤◌, ◌≡◌, List, length, Ok}
use Rattle.store.specs.Table.{Table}
use Rattle.frontiers.specs.Numbers.{entry_width}
use Rattle.frontiers.specs.Calls.{MergesInto}
use Rattle.meetings.specs.Meetings.{Studio, Shown, Meetings, Held, CarriedTo, AnyStart, AllCarried, NeverOne}
use Rattle.meetings.specs.Merging.{IsMergeOf}

-- Studios started with `s`, the meetings `ms` have been held so far, and now they show `u`: said of any meetings, so of every moment.
pub record NowShow (t : Table) (n : ℕ) (s : Shown) (ms : Meetings) (u : Shown) : Type 0 where
  -- "Once the meetings have carried every start, directly or through others, to every studio, all frontiers are equal,
  pub equal : AllCarried n ms → (i j : ℕ) → Studio n i → Studio n j → u i ≡ u j
  -- and equal to the merge of all starts."
  pub of_all : AllCarried n ms → (i : ℕ) → Studio n i → IsMergeOf t (AnyStart n s) (u i)
  -- "Before that, each studio's frontier is the merge of exactly the starts carried to it,
  pub exactly : (i : ℕ) → Studio n i → IsMergeOf t (CarriedTo s ms i) (u i)
  -- its own among them."
  pub own : (i : ℕ) → Studio n i → CarriedTo s ms i (s i)
  -- A studio that has met nobody, or only as the other one, shows its start.
  pub alone : (i : ℕ) → Studio n i → NeverOne ms i → u i ≡ s i

-- The meetings can be held.
pub record CanBeHeld (t : Table) (n : ℕ) (s : Shown) (ms : Meetings) : Type 0 where
  pub shown : Shown
  pub held : Held t n s ms shown

-- The merge of `f` and `g` is done, into the list `room`.
pub record MergeIsDone (t : Table) (f g room : List ℕ) : Type 0 where
  pub after : List ℕ
  pub count : ℕ
  pub merges : MergesInto t f g room after (Ok count)

-- Room for five numbers an author.
abbrev pub RoomEnough : Table → List ℕ → Type 0
RoomEnough t room = t.counts.authors * entry_width ≤ length room

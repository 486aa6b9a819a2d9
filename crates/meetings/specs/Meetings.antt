-- Request 12, "Studios that meet in no fixed order": what the studios show, what a meeting does, and which starts are carried where.
-- Assumes nothing.
use Rattle.std.specs.Prelude.{ℕ, ◌≤◌, ◌≡◌, ◌≢◌, ◌⊎◌, List, take, Ok}
use Rattle.basics.specs.Bytes.{Bytes}
use Rattle.store.specs.Table.{Table, WellFormed}
use Rattle.frontiers.specs.Calls.{FrontierOf, MergesInto}

infixl 20 ◌then◌
infix 30 ◌meets◌
-- Studios have the numbers 1 to `n`.
abbrev pub Studio : ℕ → ℕ → Type 0
Studio n i = (1 ≤ i) × (i ≤ n)

-- What each studio shows: its frontier.
abbrev pub Shown : Type 0
Shown = ℕ → List ℕ

-- "Start several studios with valid frontiers over one store." The ids are bytes, as a lent part's are.
pub record Starts (t : Table) (n : ℕ) (s : Shown) : Type 0 where
  pub store : WellFormed t
  pub bytes : Bytes t.ids
  pub valid : (i : ℕ) → Studio n i → FrontierOf t (s i)

-- A meeting of two studios: it replaces the frontier of the one.
pub record Meeting : Type 0 where
  pub one : ℕ
  pub other : ℕ

-- `i` is the one, and `j` the other.
abbrev pub ◌meets◌ : ℕ → ℕ → Meeting
i meets j = record { one = i; other = j }

-- "Each meeting replaces one studio's frontier by its merge with another's present frontier." Before it the studios show `u`, after it
-- `v`: the one shows the numbers that the merge wrote, into whatever room, and every other studio what it showed.
pub record Meets (t : Table) (n : ℕ) (u : Shown) (m : Meeting) (v : Shown) : Type 0 where
  pub one : Studio n m.one
  pub other : Studio n m.other
  pub room : List ℕ
  pub after : List ℕ
  pub count : ℕ
  pub merges : MergesInto t (u m.one) (u m.other) room after (Ok count)
  pub replaced : v m.one ≡ take count after
  pub others : (i : ℕ) → Studio n i → i ≢ m.one → v i ≡ u i

-- Meetings in their order in time, the latest last.
pub data Meetings : Type 0 where
  start : Meetings
  ◌then◌ : Meetings → Meeting → Meetings

-- The meetings are held, one after the other: the studios show `s` at the start, and `u` after the last. "During the meetings nothing
-- else is admitted or appended": the table stays, and what they show after a meeting they show before the next.
pub data Held (t : Table) (n : ℕ) (s : Shown) : Meetings → Shown → Type 0 where
  begun : Held t n s start s
  met : {ms : Meetings} {m : Meeting} (u v : Shown) → Held t n s ms u → Meets t n u m v → Held t n s (ms then m) v

-- The meetings have carried the start of studio `k` to studio `i`, "directly or through others": at the start each studio has its own.
-- After a meeting it has what it had, and the one has what the other had, too.
abbrev pub Carried : Meetings → ℕ → ℕ → Type 0
Carried start k i = k ≡ i
Carried (ms then m) k i = Carried ms k i ⊎ ((i ≡ m.one) × Carried ms k m.other)

-- "the starts carried to it".
pub record CarriedTo (s : Shown) (ms : Meetings) (i : ℕ) (f : List ℕ) : Type 0 where
  pub studio : ℕ
  pub carried : Carried ms studio i
  pub its_start : f ≡ s studio

-- "all starts".
pub record AnyStart (n : ℕ) (s : Shown) (f : List ℕ) : Type 0 where
  pub studio : ℕ
  pub is : Studio n studio
  pub its_start : f ≡ s studio

-- "the meetings have carried every start, directly or through others, to every studio".
abbrev pub AllCarried : ℕ → Meetings → Type 0
AllCarried n ms = (k i : ℕ) → Studio n k → Studio n i → Carried ms k i

-- No meeting has replaced the frontier of studio `i`.
abbrev pub NeverOne : Meetings → ℕ → Type 0
NeverOne start i = Unit {0}
NeverOne (ms then m) i = NeverOne ms i × (i ≢ m.one)

-- Meetings of studios with the numbers 1 to `n`.
abbrev pub Among : ℕ → Meetings → Type 0
Among n start = Unit {0}
Among n (ms then m) = Among n ms × (Studio n m.one × Studio n m.other)

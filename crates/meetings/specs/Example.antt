-- A worked example: three studios over the sample chain of document 01, and four meetings.
-- Assumes nothing.
use Rattle.std.specs.Prelude.{ℕ, ◌≡◌, List, ◌++◌, eqb}
use Rattle.basics.specs.Pick.{pick}
use Rattle.chains.specs.Chain.{growing, forked}
use Rattle.logs.specs.Sample.{sample_table}
use Rattle.frontiers.specs.Entries.{numbers}
use Rattle.meetings.specs.Meetings.{Studio, Shown, ◌meets◌, Meetings, start, ◌then◌, Held, Carried, AllCarried}
use Rattle.meetings.specs.Shows.{CanBeHeld}

-- A is author 1 and B author 2. Studio 1 shows A growing at 3; studio 2 shows A growing at 4; studio 3 shows A growing at 9 and B growing at 8.
abbrev pub three_starts : Shown
three_starts i =
    pick (eqb i 1) (numbers 1 (growing 3))
    (pick (eqb i 2) (numbers 1 (growing 4)) (numbers 1 (growing 9) ++ numbers 2 (growing 8)))

-- Studio 1 meets 2, 3 meets 1, and 1 meets 3,
abbrev pub three_meetings : Meetings
three_meetings = start then 1 meets 2 then 3 meets 1 then 1 meets 3

-- and then 2 meets 3.
abbrev pub four_meetings : Meetings
four_meetings = three_meetings then 2 meets 3

-- The merge of all three starts: A forked at 2, on 9 and 3, and B growing at 8.
abbrev pub all_three : List ℕ
all_three = numbers 1 (forked 2 9 3) ++ numbers 2 (growing 8)

-- What the meetings come to.
pub record FourMeetings : Type 0 where
  -- Three meetings have not carried every start to every studio: that of 1 has not come to 2.
  pub not_yet : Carried three_meetings 1 2 → ⊥
  -- Studios 1 and 3 show the merge of all starts then, and 2 shows its own.
  pub after_three : (u : Shown) → Held sample_table 3 three_starts three_meetings u → (u 1 ≡ all_three) × ((u 2 ≡ three_starts 2) × (u 3 ≡ all_three))
  -- Four have, and all show the merge of all starts.
  pub all_carried : AllCarried 3 four_meetings
  pub after_four : (u : Shown) → Held sample_table 3 three_starts four_meetings u → (i : ℕ) → Studio 3 i → u i ≡ all_three
  -- They can be held.
  pub held : CanBeHeld sample_table 3 three_starts four_meetings

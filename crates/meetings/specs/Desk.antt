-- A way to carry everything: one desk meets everybody, and then everybody meets the desk.
-- Assumes nothing.
use Rattle.std.specs.Prelude.{ℕ, zero, suc}
use Rattle.meetings.specs.Meetings.{Meetings, start, ◌then◌, ◌meets◌}

-- Studio 1 is the desk: it meets the studios 1 to `n`, one after the other.
unfoldable pub gathered : ℕ → Meetings
gathered zero = start
gathered (suc n) = gathered n then 1 meets suc n

-- After the meetings `ms` the studios 1 to `n` meet the desk.
unfoldable pub handed_out : ℕ → Meetings → Meetings
handed_out zero ms = ms
handed_out (suc n) ms = handed_out n ms then suc n meets 1

-- Both.
abbrev pub by_one_desk : ℕ → Meetings
by_one_desk n = handed_out n (gathered n)

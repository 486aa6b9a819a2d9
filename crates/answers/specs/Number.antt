-- The table "Answer numbers" of document 01: each refusal and its number. HELD, 8, comes with a row and is an answer of admission.
-- Document 02, request 10: "The number 13 stays unused, and the numbers after it keep their places." Request 13: "24 WHOLE for a growing
-- state". Request 3: "22 UNKNOWN for a key or applying id that the store lacks". Request 7: "23 BACKSTEP". Request 14: "25 PAYLOAD", "26
-- OWNERLESS", "27 COMPONENT".
-- Assumes nothing.
use Rattle.std.specs.Prelude.{ℕ}
use Rattle.answers.specs.declared.Refusal.{Refusal}
use Rattle.answers.specs.declared.Refusal.TheVariants.{Store, Short, Size, Long, Kind, Flag, Sign, Index, Prev, Owner, Step, Dep, DepOwner}
use Rattle.answers.specs.declared.Refusal.TheVariants.{Full, State, Pair, Row, Frontier, Room, Unknown, Backstep, Whole, Payload, Ownerless, Component}

-- The number of a refusal. The names are the document's.
abbrev pub number_of : Refusal → ℕ
number_of Store = 1
number_of Short = 2
number_of Size = 3
number_of Long = 4
number_of Kind = 5
number_of Flag = 6
number_of Sign = 7
number_of Index = 9
number_of Prev = 10
number_of Owner = 11
number_of Step = 12
number_of Dep = 14
number_of DepOwner = 15
number_of Full = 16
number_of State = 17
number_of Pair = 18
number_of Row = 19
number_of Frontier = 20
number_of Room = 21
number_of Unknown = 22
number_of Backstep = 23
number_of Whole = 24
number_of Payload = 25
number_of Ownerless = 26
number_of Component = 27

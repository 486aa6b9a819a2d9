-- What a salvage writes and answers: document 02, §11.
-- Assumes nothing.
use Rattle.answers.specs.declared.Refusal.{Refusal}
use Rattle.rescue.specs.declared.Clean.{Clean}
use Rattle.std.specs.Prelude.{ℕ, zero, suc, ◌*◌, ◌≤◌, ◌<◌, ◌≡◌, List, [], ◌∷◌, ◌++◌, ◌⊎◌, length, drop, Result, Ok, Err}
use Rattle.basics.specs.Pick.{pick}
use Rattle.answers.specs.Number.{number_of}
use Rattle.answers.specs.declared.Refusal.TheVariants.{Size, Room}
use Rattle.cutting.specs.Cutting.{items_of, joined}
use Rattle.store.specs.declared.lent.Counts.{Counts}
use Rattle.admission.specs.Answer.{answer_number, answer_row}
use Rattle.morning.specs.Intake.{Kept, kept_of, answer_width, answer_to}
use Rattle.rescue.specs.Greedy.{Salvage, item_of, among, salvage_from, items_in, place_in}

-- "reads an intake of up to 1,024 items".
abbrev pub item_limit : ℕ
item_limit = 1024

-- All that is lent to be written: the parts of a store, the origins, the clean intake's room and the list.
pub record Lent : Type 0 where
  pub keys : List ℕ
  pub ids : List ℕ
  pub rows : List ℕ
  pub deps : List ℕ
  pub branches : List ℕ
  pub origins : List ℕ
  pub clean : List ℕ
  pub list : List ℕ

-- The same of each part by itself.
abbrev pub lent_of : List ℕ → List ℕ → List ℕ → List ℕ → List ℕ → List ℕ → List ℕ → List ℕ → Lent
lent_of keys ids rows deps branches origins clean list =
    record { keys = keys; ids = ids; rows = rows; deps = deps; branches = branches; origins = origins; clean = clean; list = list }

-- What the lent parts keep, with these counts.
abbrev pub store_in : Lent → Counts → Kept
store_in l c = kept_of l.keys l.ids l.rows l.deps l.branches l.origins c

-- The counts of an empty store.
abbrev pub empty_counts : Counts
empty_counts = record { rows = 0; authors = 0; deps = 0 }

-- "The lent store starts empty", whatever its parts hold.
abbrev pub empty_in : Lent → Kept
empty_in l = store_in l empty_counts

-- What is salvaged of a stick, once no further item is admitted.
abbrev pub salvage_of : List ℕ → Lent → Salvage
salvage_of stick l = salvage_from (items_of stick) (empty_in l)

-- "a clean intake in an order in which every item is admitted into an empty store".
abbrev pub clean_of : List (List ℕ) → Salvage → List ℕ
clean_of is g = joined (items_in is g.order)

-- "a list of two numbers for each original item: 0 .. when kept, or else the answer .. that the final store gives it (8 for a repeat)",
abbrev pub number_for : List (List ℕ) → Salvage → ℕ → ℕ
number_for is g p = pick (among p g.order) 0 (answer_number (answer_to g.kept (item_of is p)))

-- "and its place when kept, or else the .. row that the final store gives it".
abbrev pub place_for : List (List ℕ) → Salvage → ℕ → ℕ
place_for is g p = pick (among p g.order) (place_in p g.order) (answer_row (answer_to g.kept (item_of is p)))

-- The two numbers of each of the first `n` items.
unfoldable pub list_for : List (List ℕ) → Salvage → ℕ → List ℕ
list_for is g zero = []
list_for is g (suc p) = list_for is g p ++ (number_for is g p ∷ place_for is g p ∷ [])

-- All is written: the lent store "ends with the kept items, origin 0; room beyond stays", of the clean intake and of the list too. The counts
-- are the store's, and the answer has how many items the stick has, and how many bytes the clean intake.
pub record Rescues (stick : List ℕ) (l l' : Lent) (items bytes : ℕ) (counts : Counts) : Type 0 where
  pub store : store_in l' counts ≡ (salvage_of stick l).kept
  pub clean : l'.clean ≡ clean_of (items_of stick) (salvage_of stick l) ++ drop bytes l.clean
  pub list : l'.list ≡ list_for (items_of stick) (salvage_of stick l) items ++ drop (answer_width * items) l.list
  pub counted : items ≡ length (items_of stick)
  pub sized : bytes ≡ length (clean_of (items_of stick) (salvage_of stick l))

-- The clean intake's room or the list is too short.
abbrev pub TooShort : List ℕ → Lent → Type 0
TooShort stick l = (length l.clean < length stick) ⊎ (length l.list < answer_width * length (items_of stick))

-- What the call promises: of the stick and what is lent before, what is lent after, and the answer.
pub data Salvages (stick : List ℕ) (l l' : Lent) (a : Result Clean Refusal) : Type 0 where
  -- "Refusals: more than 1,024 items 3,
  too_many : item_limit < length (items_of stick) → a ≡ Err Size → l' ≡ l → Salvages stick l l' a
  -- then 21 when the clean intake's room is shorter than the intake, or the list than two numbers an item."
  no_room : length (items_of stick) ≤ item_limit → TooShort stick l → a ≡ Err Room → l' ≡ l → Salvages stick l l' a
  -- In any other case all is written.
  salvaged : length (items_of stick) ≤ item_limit → (TooShort stick l → ⊥) → (items bytes : ℕ) (counts : Counts)
      → a ≡ Ok (record { items = items; bytes = bytes; counts = counts }) → Rescues stick l l' items bytes counts → Salvages stick l l' a

-- The number of the call's answer: 0, or the refusal's.
abbrev pub salvaged_number : Result Clean Refusal → ℕ
salvaged_number (Ok c) = 0
salvaged_number (Err why) = number_of why

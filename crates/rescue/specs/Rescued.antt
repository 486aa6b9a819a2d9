-- What a salvage that is done says of the lent memory alone, in the order of document 02, §11.
-- Assumes nothing.
use Rattle.std.specs.Prelude.{ℕ, ◌+◌, ◌-◌, ◌*◌, ◌≤◌, ◌<◌, ◌≡◌, false, List, ◌≢◌, length, take, get_or}
use Rattle.cutting.specs.Cutting.{items_of}
use Rattle.admission.specs.Answer.{answer_number, answer_row}
use Rattle.morning.specs.Intake.{answer_width, answer_to, kept_after_all}
use Rattle.rescue.specs.Greedy.{salvage_origin, item_of, is_done}
use Rattle.rescue.specs.Orders.{AllAdmitted}
use Rattle.rescue.specs.Salvaging.{Lent, store_in, empty_in}
use Rattle.rescue.specs.Wrote.{RoomStays}
use Rattle.rescue.specs.declared.Clean.{Clean}

-- The clean intake's items.
abbrev pub clean_items : Lent → Clean → List (List ℕ)
clean_items l' c = items_of (take c.bytes l'.clean)

-- The first number of item `p` in the list,
abbrev pub listed_number : Lent → ℕ → ℕ
listed_number l' p = get_or l'.list (answer_width * p) 0

-- and the second.
abbrev pub listed_place : Lent → ℕ → ℕ
listed_place l' p = get_or l'.list (answer_width * p + 1) 0

-- What the list says of item `p`, whose bytes are `i`.
pub data ListedAs (l' : Lent) (c : Clean) (p : ℕ) (i : List ℕ) : Type 0 where
  -- "0 and its place when kept": at that place of the clean intake, counted from 1, are its bytes;
  kept_at : listed_number l' p ≡ 0 → 1 ≤ listed_place l' p → listed_place l' p ≤ c.counts.rows → item_of (clean_items l' c) (listed_place l' p - 1) ≡ i
      → ListedAs l' c p i
  -- "or else the answer and row that the final store gives it".
  dropped_with : listed_number l' p ≢ 0 → listed_number l' p ≡ answer_number (answer_to (store_in l' c.counts) i)
      → listed_place l' p ≡ answer_row (answer_to (store_in l' c.counts) i) → ListedAs l' c p i

-- Of the stick, what was lent before and after, and what the answer has.
pub record Rescued (stick : List ℕ) (l l' : Lent) (c : Clean) : Type 0 where
  -- "writes a clean intake in an order in which every item is admitted into an empty store,
  pub in_order : AllAdmitted (empty_in l) (clean_items l' c)
  pub many : length (clean_items l' c) ≡ c.counts.rows
  -- and a list of two numbers for each original item".
  pub items : c.items ≡ length (items_of stick)
  pub listed : (p : ℕ) → p < c.items → ListedAs l' c p (item_of (items_of stick) p)
  -- "this ends when none is": the final store admits no item.
  pub ended : (p : ℕ) → p < c.items → is_done (answer_to (store_in l' c.counts) (item_of (items_of stick) p)) ≡ false
  -- "The lent store starts empty and ends with the kept items, origin 0;
  pub store : store_in l' c.counts ≡ kept_after_all (empty_in l) salvage_origin (clean_items l' c)
  pub origins : (r : ℕ) → 1 ≤ r → r ≤ c.counts.rows → get_or l'.origins (r - 1) 0 ≡ 0
  -- room beyond stays."
  pub room : RoomStays (empty_in l) (store_in l' c.counts)

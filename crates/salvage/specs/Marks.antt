-- What the list says of each item until the end, and where the items of a stick begin.
-- Assumes nothing.
use Rattle.std.specs.Prelude.{ℕ, zero, suc, ◌+◌, ◌*◌, ◌≤◌, ◌<◌, ◌≡◌, Bool, List, ◌≢◌, length, drop, get_or, set, eqb}
use Rattle.basics.specs.Pick.{pick, both}
use Rattle.cutting.specs.Cutting.{items_of}
use Rattle.morning.specs.Intake.{answer_width}
use Rattle.rescue.specs.Greedy.{item_of}
use Rattle.salvage.specs.Names.{names_it}

-- The numbers of the first `n` places, added up.
unfoldable pub total : (ℕ → ℕ) → ℕ → ℕ
total f zero = 0
total f (suc n) = total f n + f n

-- Where item `p` begins: behind those before it.
abbrev pub begin_of : List (List ℕ) → ℕ → ℕ
begin_of is p = total (λ (q : ℕ). length (item_of is q)) p

-- The table has the beginnings of the first `n` items, and where the last ends.
pub record Begins (is : List (List ℕ)) (begins : List ℕ) (n : ℕ) : Type 0 where
  pub places : n < length begins
  pub begin : (p : ℕ) → p ≤ n → get_or begins p 0 ≡ begin_of is p

-- The table has the beginnings of all items of a stick.
pub record BeginsIn (stick begins : List ℕ) (n : ℕ) : Type 0 where
  pub all : n ≡ length (items_of stick)
  pub table : Begins (items_of stick) begins n

-- The mark of item `p`, and the number beside it.
abbrev pub mark_of : List ℕ → ℕ → ℕ
mark_of l p = get_or l (answer_width * p) 0

abbrev pub note_of : List ℕ → ℕ → ℕ
note_of l p = get_or l (answer_width * p + 1) 0

-- The marks: kept, with its place beside it; waiting for the name at this place; free to be tried, with all names up to this place in the
-- store; refused for ever.
abbrev pub kept_mark : ℕ
kept_mark = 0

abbrev pub waiting_mark : ℕ
waiting_mark = 1

abbrev pub free_mark : ℕ
free_mark = 2

abbrev pub refused_mark : ℕ
refused_mark = 3

-- The list with a mark and its number at item `p`.
abbrev pub mark_put : List ℕ → ℕ → ℕ → ℕ → List ℕ
mark_put l p mark note = set (set l (answer_width * p) mark) (answer_width * p + 1) note

-- The first `n` items are marked as free, with no name known; the rest of the list stays.
pub record AllFree (l : List ℕ) (n : ℕ) (l' : List ℕ) : Type 0 where
  pub size : length l' ≡ length l
  pub marks : (p : ℕ) → p < n → (mark_of l' p ≡ free_mark) × (note_of l' p ≡ 0)
  pub beyond : drop (answer_width * n) l' ≡ drop (answer_width * n) l

-- The lowest of the first `n` items that is free; `n` where none is.
pub record LowestFree (l : List ℕ) (n r : ℕ) : Type 0 where
  pub within : r ≤ n
  pub lower : (p : ℕ) → p < r → mark_of l p ≢ free_mark
  pub here : r < n → mark_of l r ≡ free_mark

-- Whether item `p`, with these bytes, waits for an id.
abbrev pub waits_for : List ℕ → List ℕ → ℕ → List ℕ → Bool
waits_for s l p id = both (eqb (mark_of l p) waiting_mark) (names_it s (note_of l p) id)

-- The list with item `p` free where it waits for the id.
abbrev pub woken_item : List ℕ → List ℕ → ℕ → List ℕ → List ℕ
woken_item s l p id = pick (waits_for s l p id) (set l (answer_width * p) free_mark) l

-- Each of the first `n` items is free where it waits for the id; nothing else changes.
pub record Woken (is : List (List ℕ)) (l id : List ℕ) (n : ℕ) (l' : List ℕ) : Type 0 where
  pub size : length l' ≡ length l
  pub marks : (p : ℕ) → p < n → mark_of l' p ≡ pick (waits_for (item_of is p) l p id) free_mark (mark_of l p)
  pub notes : (p : ℕ) → p < n → note_of l' p ≡ note_of l p
  pub beyond : drop (answer_width * n) l' ≡ drop (answer_width * n) l

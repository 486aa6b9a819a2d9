-- The list at the end: "0 and its place when kept, or else the answer and row that the final store gives it".
-- Assumes nothing.
use Rattle.std.specs.Prelude.{ℕ, ◌+◌, ◌*◌, ◌≤◌, ◌<◌, ◌≡◌, true, false, List, ◌≢◌, length, take, drop, eqb}
use Rattle.basics.specs.Pick.{pick}
use Rattle.morning.specs.Intake.{Kept, Sound, answer_width, answer_put, answer_to}
use Rattle.rescue.specs.Greedy.{Salvage, item_of, among, is_done, place_in}
use Rattle.rescue.specs.Salvaging.{list_for}
use Rattle.salvage.specs.Marks.{mark_of, note_of, kept_mark}
use Rattle.salvage.specs.Working.{saved}

-- An item is settled: it is kept, and its place is noted; or it is not, and the final store does not admit it.
pub data SettledAt (is : List (List ℕ)) (g : Salvage) (p mark note : ℕ) : Type 0 where
  as_kept : mark ≡ kept_mark → among p g.order ≡ true → note ≡ place_in p g.order → SettledAt is g p mark note
  as_left : mark ≢ kept_mark → among p g.order ≡ false → is_done (answer_to g.kept (item_of is p)) ≡ false → SettledAt is g p mark note

-- All items are.
abbrev pub Settled : List (List ℕ) → Kept → List ℕ → List ℕ → Type 0
Settled is k order list = (p : ℕ) → p < length is → SettledAt is (saved k order) p (mark_of list p) (note_of list p)

-- The answer to an item may be listed: it is kept, or the store does not admit it.
pub record MayAnswer (s : List ℕ) (p : ℕ) (k : Kept) (list : List ℕ) : Type 0 where
  pub sound : Sound k
  pub places : answer_width * p + 1 < length list
  pub left : mark_of list p ≢ kept_mark → is_done (answer_to k s) ≡ false

-- It is listed, unless the item is kept; the store stays.
pub record AnsweredItem (s : List ℕ) (p : ℕ) (k : Kept) (list : List ℕ) (k' : Kept) (list' : List ℕ) : Type 0 where
  pub kept : k' ≡ k
  pub listed : list' ≡ pick (eqb (mark_of list p) kept_mark) list (answer_put list p (answer_to k s))

-- All answers may be listed.
pub record MayAnswerAll (is : List (List ℕ)) (k : Kept) (list : List ℕ) : Type 0 where
  pub sound : Sound k
  pub places : answer_width * length is ≤ length list
  pub order : List ℕ
  pub settled : Settled is k order list

-- They are listed, for the first `n` items; the store and the rest of the list stay.
pub record AnsweredAll (is : List (List ℕ)) (n : ℕ) (k : Kept) (list : List ℕ) (k' : Kept) (list' : List ℕ) : Type 0 where
  pub kept : k' ≡ k
  pub size : length list' ≡ length list
  pub listed : (order : List ℕ) → Settled is k order list → take (answer_width * n) list' ≡ list_for is (saved k order) n
  pub beyond : drop (answer_width * n) list' ≡ drop (answer_width * n) list

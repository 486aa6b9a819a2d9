-- What a salvage that is done wrote, place by place.
-- Assumes nothing.
use Rattle.std.specs.Prelude.{ℕ, ◌+◌, ◌*◌, ◌≤◌, ◌<◌, ◌≡◌, List, length, take, drop, get_or}
use Rattle.basics.specs.Chunk.{chunk_size}
use Rattle.cutting.specs.Cutting.{items_of}
use Rattle.item.specs.Layout.{length_of}
use Rattle.item.specs.Offsets.{length_limit}
use Rattle.store.specs.Limits.{author_limit, row_width}
use Rattle.store.specs.Table.{firsts_of, branches_of}
use Rattle.morning.specs.Intake.{Kept, answer_width}
use Rattle.rescue.specs.Salvaging.{Lent, store_in, salvage_of, clean_of, number_for, place_for}
use Rattle.rescue.specs.declared.Clean.{Clean}

-- The clean intake and the list stand at the start of their rooms, and room beyond stays; the parts, with the counts, are the final store.
pub record Wrote (stick : List ℕ) (l l' : Lent) (c : Clean) : Type 0 where
  pub items : c.items ≡ length (items_of stick)
  pub store : store_in l' c.counts ≡ (salvage_of stick l).kept
  pub clean : take c.bytes l'.clean ≡ clean_of (items_of stick) (salvage_of stick l)
  pub clean_beyond : drop c.bytes l'.clean ≡ drop c.bytes l.clean
  pub clean_length : length l'.clean ≡ length l.clean
  pub number : (p : ℕ) → p < c.items → get_or l'.list (answer_width * p) 0 ≡ number_for (items_of stick) (salvage_of stick l) p
  pub place : (p : ℕ) → p < c.items → get_or l'.list (answer_width * p + 1) 0 ≡ place_for (items_of stick) (salvage_of stick l) p
  pub list_beyond : drop (answer_width * c.items) l'.list ≡ drop (answer_width * c.items) l.list
  pub list_length : length l'.list ≡ length l.list

-- "When a length is above 6,253 or the input ends inside an item, the rest counts as one dropped item, with 3 or 2": the number of such a rest.
pub data DroppedWith (rest : List ℕ) (n : ℕ) : Type 0 where
  above_limit : 4 ≤ length rest → length_limit < length_of rest → n ≡ 3 → DroppedWith rest n
  ends_inside : (4 ≤ length rest → length_of rest ≤ length_limit) → n ≡ 2 → DroppedWith rest n

-- "room beyond stays": of the parts of the store and of the origins, what lies beyond the counts is what it was.
pub record RoomStays (before after : Kept) : Type 0 where
  pub keys : drop (after.store.counts.authors * chunk_size) after.store.keys ≡ drop (after.store.counts.authors * chunk_size) before.store.keys
  pub ids : drop (after.store.counts.rows * chunk_size) after.store.ids ≡ drop (after.store.counts.rows * chunk_size) before.store.ids
  pub rows : drop (after.store.counts.rows * row_width) after.store.rows ≡ drop (after.store.counts.rows * row_width) before.store.rows
  pub deps : drop after.store.counts.deps after.store.deps ≡ drop after.store.counts.deps before.store.deps
  pub firsts : (a : ℕ) → after.store.counts.authors < a → a ≤ author_limit → firsts_of after.store a ≡ firsts_of before.store a
  pub branches : (r : ℕ) → after.store.counts.rows < r → branches_of after.store r ≡ branches_of before.store r
  pub origins : drop after.store.counts.rows after.origins ≡ drop after.store.counts.rows before.origins

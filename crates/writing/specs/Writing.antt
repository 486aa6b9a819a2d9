-- Document 02, request 1: "Write one item from its fields into a lent buffer."
-- Assumes nothing.
use Rattle.answers.specs.declared.Refusal.{Refusal}
use Rattle.std.specs.Prelude.{ℕ, ◌/◌, ◌%◌, ◌≡◌, Bool, List, ◌++◌, eqb, ltb, length, drop, Result, Ok, Err}
use Rattle.basics.specs.Pick.{pick, both}
use Rattle.basics.specs.Chunk.{chunk_size}
use Rattle.answers.specs.declared.Refusal.TheVariants.{Short, Size, Flag, Room}
use Rattle.item.specs.Offsets.{payload_limit, count_limit}
use Rattle.writing.specs.Message.{Message, item_bytes}

-- How many bytes a signature has.
abbrev pub signature_size : ℕ
signature_size = 64

-- Each field and each dependency id is of its full length.
abbrev pub full_lengths : List ℕ → List ℕ → List ℕ → List ℕ → Bool
full_lengths key previous dependencies signature =
    both (eqb (length key) chunk_size)
    (both (eqb (length previous) chunk_size)
    (both (eqb (length dependencies % chunk_size) 0) (eqb (length signature) signature_size)))

-- "Refusals, in this order: a field or dependency id not of its full length 2, payload or dependencies above limit 3, mark 6, too
-- little room 21." Else it is done, with as many bytes as the item has. "Admission rules aren't judged here, only the layout."
unfoldable pub writing_of : Message → ℕ → Result ℕ Refusal
writing_of m room =
    pick (full_lengths m.key m.previous m.dependencies m.signature)
    (pick (ltb payload_limit (length m.payload)) (Err Size)
    (pick (ltb count_limit (length m.dependencies / chunk_size)) (Err Size)
    (pick (ltb 1 m.mark) (Err Flag)
    (pick (ltb room (length (item_bytes m))) (Err Room) (Ok (length (item_bytes m)))))))
    (Err Short)

-- The buffer afterwards: the item, and "bytes after the item stay"; a refusal leaves all of it.
unfoldable pub buffer_after : Result ℕ Refusal → Message → List ℕ → List ℕ
buffer_after (Ok n) m out = item_bytes m ++ drop n out
buffer_after (Err why) m out = out

-- What writing a message promises of its answer, and of the buffer before and after.
pub record WritesItem (m : Message) (out out' : List ℕ) (r : Result ℕ Refusal) : Type 0 where
  pub answer : r ≡ writing_of m (length out)
  pub buffer : out' ≡ buffer_after r m out

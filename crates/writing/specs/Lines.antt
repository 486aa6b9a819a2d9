-- When a message is written, and the line of each refusal: document 02, request 1.
-- Assumes nothing.
use Rattle.std.specs.Prelude.{ℕ, ◌/◌, ◌%◌, ◌≤◌, ◌<◌, ◌≡◌, length}
use Rattle.basics.specs.Chunk.{chunk_size}
use Rattle.answers.specs.declared.Refusal.{Refusal}
use Rattle.answers.specs.declared.Refusal.TheVariants.{Short, Size, Flag, Room}
use Rattle.item.specs.Offsets.{payload_limit, count_limit}
use Rattle.writing.specs.Message.{Message, item_bytes}
use Rattle.writing.specs.Writing.{signature_size}

-- Each field and each dependency id is of its full length.
pub record Full (m : Message) : Type 0 where
  pub key_full : length m.key ≡ chunk_size
  pub previous_full : length m.previous ≡ chunk_size
  pub dependencies_full : length m.dependencies % chunk_size ≡ 0
  pub signature_full : length m.signature ≡ signature_size

-- What a message has to be, to be written: full fields, payload and dependencies within their limits, mark 0 or 1.
pub record Layable (m : Message) : Type 0 where
  pub full : Full m
  pub payload_limit_lem : length m.payload ≤ payload_limit
  pub count_limit_lem : length m.dependencies / chunk_size ≤ count_limit
  pub mark_0_or_1 : m.mark ≤ 1

-- The line of each refusal, for a buffer of `room` bytes; no other refusal is given.
pub data Line (m : Message) (room : ℕ) : Refusal → Type 0 where
  -- "a field or dependency id not of its full length 2"
  not_full : (Full m → ⊥) → Line m room Short
  -- "payload or dependencies above limit 3"
  payload_above : payload_limit < length m.payload → Line m room Size
  dependencies_above : count_limit < length m.dependencies / chunk_size → Line m room Size
  -- "mark 6"
  other_mark : 1 < m.mark → Line m room Flag
  -- "too little room 21"
  too_short : room < length (item_bytes m) → Line m room Room

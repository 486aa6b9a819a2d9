-- What is read of an item of kind 3 by the rows of a store, over the lent parts alone.
-- Assumes nothing.
use Rattle.answers.specs.declared.Refusal.{Refusal}
use Rattle.std.specs.Prelude.{ℕ, zero, suc, ◌≤◌, ◌<◌, ◌≡◌, ◌≢◌, List, eqb, length, Result, Ok, Err}
use Rattle.std.proofs.Math.Option.{Option, none, some}
use Rattle.std.proofs.Math.Seq.{paste}
use Rattle.basics.specs.Pick.{pick}
use Rattle.chunks.specs.Bytes.{same_bytes}
use Rattle.chunks.specs.Piece.{piece_at}
use Rattle.chunks.specs.Lookup.{place_of}
use Rattle.answers.specs.Number.{number_of}
use Rattle.store.specs.declared.lent.Counts.{Counts}
use Rattle.store.specs.Limits.{row_limit, author_limit}
use Rattle.chains.specs.Chain.{State, growing, forked}
use Rattle.logs.specs.Held.{Sound}
use Rattle.frontiers.specs.Entries.{flat, collect}
use Rattle.frontiers.specs.Ready.{ValidOver}
use Rattle.kind3.specs.Entries.{HasEntries, key_in, phase_in, presence_in, last_id_in, low_id_in, high_id_in, ZerosKept, RisesIn}

-- The last id of entry `i` is held where there is a last row,
abbrev pub LastHeld : List ℕ → ℕ → List ℕ → ℕ → Type 0
LastHeld ids m s i = presence_in s i ≢ 0 → 1 ≤ place_of ids m (last_id_in s i)

-- its evidence ids where it is forked,
abbrev pub EvidenceHeld : List ℕ → ℕ → List ℕ → ℕ → Type 0
EvidenceHeld ids m s i = phase_in s i ≢ 0 → (1 ≤ place_of ids m (low_id_in s i)) × (1 ≤ place_of ids m (high_id_in s i))

-- and its key.
abbrev pub EntryHeld : List ℕ → List ℕ → Counts → List ℕ → ℕ → Type 0
EntryHeld keys ids counts s i = (1 ≤ place_of keys counts.authors (key_in s i)) × (LastHeld ids counts.rows s i × EvidenceHeld ids counts.rows s i)

-- So of each of the first `n` entries.
abbrev pub AllHeld : List ℕ → List ℕ → Counts → List ℕ → ℕ → Type 0
AllHeld keys ids counts s n = (i : ℕ) → i < n → EntryHeld keys ids counts s i

-- The last row of entry `i`, or none.
abbrev pub last_row_in : List ℕ → ℕ → List ℕ → ℕ → ℕ
last_row_in ids m s i = pick (eqb (presence_in s i) 0) 0 (place_of ids m (last_id_in s i))

-- The state of entry `i` by the first `m` rows.
abbrev pub rows_in : List ℕ → ℕ → List ℕ → ℕ → State
rows_in ids m s i =
    pick (eqb (phase_in s i) 0) (growing (last_row_in ids m s i))
    (forked (last_row_in ids m s i) (place_of ids m (low_id_in s i)) (place_of ids m (high_id_in s i)))

-- The state of the first of the `k` entries from entry `i` on that has a key, if one has.
unfoldable pub rows_for : List ℕ → ℕ → List ℕ → List ℕ → ℕ → ℕ → Option State
rows_for ids m s key zero i = none
rows_for ids m s key (suc k) i = pick (same_bytes (key_in s i) key) (some (rows_in ids m s i)) (rows_for ids m s key k (suc i))

-- What is read of author `b`.
abbrev pub read_at : List ℕ → List ℕ → Counts → List ℕ → ℕ → ℕ → Option State
read_at keys ids counts s n b = rows_for ids counts.rows s (piece_at keys b) n 0

-- What is read, as numbers.
unfoldable pub read_numbers : List ℕ → List ℕ → Counts → List ℕ → ℕ → List ℕ
read_numbers keys ids counts s n = flat (collect (read_at keys ids counts s n) counts.authors 0)

-- What is read may be taken: "keys that don't rise", "bytes not zero where they don't apply" and a frontier that is not valid are 20.
pub record MayTake (keys ids rows : List ℕ) (counts : Counts) (s : List ℕ) (n : ℕ) : Type 0 where
  pub rise : RisesIn s n
  pub zeros : ZerosKept s n
  pub valid : ValidOver ids rows counts (read_numbers keys ids counts s n)

-- What reading asks of a store and an item: every well_formed table and every item of kind 3 has it.
pub record MayRead (ids rows : List ℕ) (counts : Counts) (s : List ℕ) (n : ℕ) : Type 0 where
  pub sound : Sound ids rows counts.rows
  pub rows_limit : counts.rows ≤ row_limit
  pub authors_limit : counts.authors ≤ author_limit
  pub entries : HasEntries s n

-- Why what was read is not kept, with number `k`.
pub data NotKept (ids rows : List ℕ) (counts : Counts) (read out : List ℕ) (k : ℕ) : Type 0 where
  not_valid : k ≡ 20 → (ValidOver ids rows counts read → ⊥) → NotKept ids rows counts read out k
  no_room : k ≡ 21 → ValidOver ids rows counts read → length out < length read → NotKept ids rows counts read out k

-- It is kept: it stands at the start of the output, `k` numbers.
pub record Kept (ids rows : List ℕ) (counts : Counts) (read out out' : List ℕ) (k : ℕ) : Type 0 where
  pub valid : ValidOver ids rows counts read
  pub count : k ≡ length read
  pub fits : k ≤ length out
  pub content : out' ≡ paste out 0 read k

-- What keeping a frontier answers.
abbrev pub Keeps : List ℕ → List ℕ → Counts → List ℕ → List ℕ → List ℕ → Result ℕ Refusal → Type 0
Keeps ids rows counts read out out' (Ok k) = Kept ids rows counts read out out' k
Keeps ids rows counts read out out' (Err why) = NotKept ids rows counts read out (number_of why) × (out' ≡ out)

-- Why what is known is not taken, with number `k`.
pub data NotTaken (keys ids rows : List ℕ) (counts : Counts) (s : List ℕ) (n : ℕ) (out : List ℕ) (k : ℕ) : Type 0 where
  not_valid : k ≡ 20 → (MayTake keys ids rows counts s n → ⊥) → NotTaken keys ids rows counts s n out k
  no_room : k ≡ 21 → MayTake keys ids rows counts s n → length out < length (read_numbers keys ids counts s n) → NotTaken keys ids rows counts s n out k

-- It is taken: it stands at the start of the output, `k` numbers.
pub record Taken (keys ids rows : List ℕ) (counts : Counts) (s : List ℕ) (n : ℕ) (out out' : List ℕ) (k : ℕ) : Type 0 where
  pub may : MayTake keys ids rows counts s n
  pub count : k ≡ length (read_numbers keys ids counts s n)
  pub fits : k ≤ length out
  pub content : out' ≡ paste out 0 (read_numbers keys ids counts s n) k

-- What taking an item answers whose entries are known.
abbrev pub Takes : List ℕ → List ℕ → List ℕ → Counts → List ℕ → ℕ → List ℕ → List ℕ → Result ℕ Refusal → Type 0
Takes keys ids rows counts s n out out' (Ok k) = Taken keys ids rows counts s n out out' k
Takes keys ids rows counts s n out out' (Err why) = NotTaken keys ids rows counts s n out (number_of why) × (out' ≡ out)

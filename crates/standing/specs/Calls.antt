-- The promises of the two calls. Document 02, §3: "Refusals: writing gives 1, 20, 21; reading gives 1, then the layout's in the order of kind 1
-- ..; phase or presence byte not 0 or 1, FLAG; then 22 UNKNOWN for a key or applying id that the store lacks, then 20 (also for keys that don't
-- rise and for bytes not zero where they don't apply), then 21."
-- Assumes nothing.
use Rattle.std.specs.Prelude.{ℕ, ◌≤◌, ◌<◌, ◌≡◌, List, length, Result, Ok, Err}
use Rattle.std.proofs.Math.Seq.{paste}
use Rattle.answers.specs.Number.{number_of}
use Rattle.answers.specs.declared.Refusal.{Refusal}
use Rattle.store.specs.Table.{Table, WellFormed}
use Rattle.frontiers.specs.Entries.{flat}
use Rattle.frontiers.specs.Numbers.{entries_of}
use Rattle.frontiers.specs.Calls.{FrontierOf}
use Rattle.kind3.specs.Layout.{layout_of}
use Rattle.kind3.specs.Laid.{IsStandingItem}
use Rattle.kind3.specs.Entries.{FlagsKept, ZerosKept}
use Rattle.standing.specs.Sending.{Sent, KeysRise, IsSent}
use Rattle.standing.specs.Reading.{Known, read_entries}
use Rattle.standing.specs.Bytes.{item_bytes}
use Rattle.standing.specs.Decoding.{sents_of}

-- WRITING

-- "Write it from a store and frontier": a valid frontier over a well_formed table.
pub record MayWrite (t : Table) (f : List ℕ) : Type 0 where
  pub well_formed : WellFormed t
  pub frontier : FrontierOf t f

-- The item of what is sent stands at the start of the output, `n` bytes; room beyond it stays.
pub record SentInto (t : Table) (f out out' : List ℕ) (n : ℕ) : Type 0 where
  pub sent : List Sent
  pub is_sent : IsSent t (entries_of f) sent
  pub count : n ≡ length (item_bytes sent)
  pub fits : n ≤ length out
  pub content : out' ≡ paste out 0 (item_bytes sent) n

-- The output is shorter than the item.
pub record NoRoomToSend (t : Table) (f out : List ℕ) : Type 0 where
  pub sent : List Sent
  pub is_sent : IsSent t (entries_of f) sent
  pub short : length out < length (item_bytes sent)

-- A frontier is not sent, with number `n`: each line in the document's order, and that no earlier one held.
pub data NotSent (t : Table) (f out : List ℕ) (n : ℕ) : Type 0 where
  not_well_formed : n ≡ 1 → (WellFormed t → ⊥) → NotSent t f out n
  not_valid : n ≡ 20 → WellFormed t → (FrontierOf t f → ⊥) → NotSent t f out n
  no_room : n ≡ 21 → MayWrite t f → NoRoomToSend t f out → NotSent t f out n

-- What writing promises; a refusal leaves the output as it was.
abbrev pub WritesStanding : Table → List ℕ → List ℕ → List ℕ → Result ℕ Refusal → Type 0
WritesStanding t f out out' (Ok n) = MayWrite t f × SentInto t f out out' n
WritesStanding t f out out' (Err why) = NotSent t f out (number_of why) × (out' ≡ out)

-- READING

-- The frontier that is read of an item of `n` entries, as numbers.
abbrev pub frontier_read : Table → List ℕ → ℕ → List ℕ
frontier_read u s n = flat (read_entries u (sents_of s n))

-- The layout is sound, and no phase or presence byte is other than 0 or 1.
pub record Legible (u : Table) (s : List ℕ) (n : ℕ) : Type 0 where
  pub well_formed : WellFormed u
  pub item : IsStandingItem s n
  pub flags : FlagsKept s n

-- Nothing of 20: keys rise, bytes are zero where they don't apply, and what is read is a valid frontier.
pub record Readable (u : Table) (s : List ℕ) (n : ℕ) : Type 0 where
  pub rise : KeysRise (sents_of s n)
  pub zeros : ZerosKept s n
  pub valid : FrontierOf u (frontier_read u s n)

-- Nothing of 1 to 6, 22 and 20.
pub record MayReadItem (u : Table) (s : List ℕ) (n : ℕ) : Type 0 where
  pub legible : Legible u s n
  pub known : Known u (sents_of s n)
  pub readable : Readable u s n

-- "read it into another store's row numbers": the frontier stands at the start of the output, `k` numbers; room beyond it stays.
pub record ReadInto (u : Table) (s out out' : List ℕ) (k : ℕ) : Type 0 where
  pub entries : ℕ
  pub may : MayReadItem u s entries
  pub count : k ≡ length (frontier_read u s entries)
  pub fits : k ≤ length out
  pub content : out' ≡ paste out 0 (frontier_read u s entries) k

-- An item is not read, with number `k`: each line in the document's order, and that no earlier one held.
pub data NotRead (u : Table) (s out : List ℕ) (k : ℕ) : Type 0 where
  not_well_formed : k ≡ 1 → (WellFormed u → ⊥) → NotRead u s out k
  not_laid : (why : Refusal) → k ≡ number_of why → WellFormed u → layout_of s ≡ Err why → NotRead u s out k
  not_flags : (n : ℕ) → k ≡ 6 → WellFormed u → IsStandingItem s n → (FlagsKept s n → ⊥) → NotRead u s out k
  not_known : (n : ℕ) → k ≡ 22 → Legible u s n → (Known u (sents_of s n) → ⊥) → NotRead u s out k
  not_valid : (n : ℕ) → k ≡ 20 → Legible u s n → Known u (sents_of s n) → (Readable u s n → ⊥) → NotRead u s out k
  no_room : (n : ℕ) → k ≡ 21 → MayReadItem u s n → length out < length (frontier_read u s n) → NotRead u s out k

-- What reading promises; a refusal leaves the output as it was.
abbrev pub ReadsStanding : Table → List ℕ → List ℕ → List ℕ → Result ℕ Refusal → Type 0
ReadsStanding u s out out' (Ok k) = ReadInto u s out out' k
ReadsStanding u s out out' (Err why) = NotRead u s out (number_of why) × (out' ≡ out)

-- Document 02, §3: what the bytes of an item of kind 3 say.
-- Assumes nothing.
use Rattle.std.specs.Prelude.{ℕ, zero, suc, List, [], ◌∷◌, eqb}
use Rattle.std.proofs.Math.Option.{Option, none, some}
use Rattle.basics.specs.Pick.{pick}
use Rattle.kind3.specs.Entries.{key_in, phase_in, presence_in, last_id_in, low_id_in, high_id_in}
use Rattle.standing.specs.Standing.{Standing, growing_at, forked_at}
use Rattle.standing.specs.Sending.{Sent}

-- "one byte before it, 1 present or 0 none": the last id of entry `i`, or none.
abbrev pub last_in : List ℕ → ℕ → Option (List ℕ)
last_in s i = pick (eqb (presence_in s i) 0) none (some (last_id_in s i))

-- Where the log stands that entry `i` speaks of: growing, or forked with the lower and the higher evidence id.
abbrev pub says_in : List ℕ → ℕ → Standing
says_in s i = pick (eqb (phase_in s i) 0) (growing_at (last_in s i)) (forked_at (last_in s i) (low_id_in s i) (high_id_in s i))

-- Entry `i`.
abbrev pub sent_in : List ℕ → ℕ → Sent
sent_in s i = record { key = key_in s i; says = says_in s i }

-- The `k` entries from entry `i` on.
unfoldable pub sents_at : List ℕ → ℕ → ℕ → List Sent
sents_at s zero i = []
sents_at s (suc k) i = sent_in s i ∷ sents_at s k (suc i)

-- The entries of an item that has `n`.
abbrev pub sents_of : List ℕ → ℕ → List Sent
sents_of s n = sents_at s n 0

-- Document 02, §3: the entries that are sent: "per entry author key 32, phase 1, last id 32, and two evidence ids of 32."
-- Assumes nothing.
use Rattle.std.specs.Prelude.{ℕ, ◌≡◌, true, List, [], ◌∷◌}
use Rattle.std.proofs.Math.Option.{Option, none, some}
use Rattle.basics.specs.Pick.{pick}
use Rattle.chunks.specs.Bytes.{same_bytes, comes_before}
use Rattle.store.specs.Table.{Table}
use Rattle.frontiers.specs.Entries.{Entry}
use Rattle.standing.specs.Standing.{Standing, standing}

-- One entry as it is sent: an author's key, and where the author's log stands.
pub record Sent : Type 0 where
  pub key : List ℕ
  pub says : Standing

-- What entries that are sent say of the author with the key `k`.
unfoldable pub sent_for : List Sent → List ℕ → Option Standing
sent_for [] k = none
sent_for (w ∷ ws) k = pick (same_bytes w.key k) (some w.says) (sent_for ws k)

-- "Entries rise by key": above `b`, and from entry to entry, as 32 unsigned bytes, first byte first.
pub data KeysRiseFrom : List ℕ → List Sent → Type 0 where
  end : {b : List ℕ} → KeysRiseFrom b []
  next : {b : List ℕ} {w : Sent} {ws : List Sent} → comes_before b w.key ≡ true → KeysRiseFrom w.key ws → KeysRiseFrom b (w ∷ ws)

-- No bytes come before every key.
abbrev pub KeysRise : List Sent → Type 0
KeysRise ws = KeysRiseFrom [] ws

-- `ws` are the entries that are sent for the entries `es` of a frontier over `t`: they rise by key, and say of every author what the frontier does.
pub record IsSent (t : Table) (es : List Entry) (ws : List Sent) : Type 0 where
  pub rise : KeysRise ws
  pub each : (k : List ℕ) → sent_for ws k ≡ standing t es k

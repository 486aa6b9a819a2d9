-- What is sent of a valid frontier over a well_formed store has full lengths, and at most 64 entries: its bytes are read back as they were.
-- Assumes nothing.
use Prim.Native.Nat.{ℕ, ◌+◌, ◌≤◌}
use mathlib.Core.Path.{◌≡◌, refl, sym, ap, ◌∙◌}
use mathlib.Core.List.{List, [], ◌∷◌}
use mathlib.Core.Option.{Option, none, some}
use native.Mathlib.Omega.{arith}
use lib.ListN.{length}
use Rattle.chunks.proofs.Finding.{place_some}
use Rattle.chunks.proofs.Pieces.{length_piece}
use Rattle.store.specs.Table.{Table, WellFormed}
use Rattle.frontiers.specs.Entries.{Entry, RisingFrom, end, next}
use Rattle.standing.specs.Standing.{Standing, growing_at, forked_at}
use Rattle.standing.specs.Sending.{Sent, IsSent}
use Rattle.standing.specs.Reading.{author_with, row_with, KnownLast, KnownIds, Known}
use Rattle.standing.specs.Bytes.{item_bytes}
use Rattle.standing.proofs.Said.{EntriesOf, Within, valid_within, within_first, within_rest}
use Rattle.standing.proofs.Sent.{sent_length}
use Rattle.standing.proofs.Knowing.{sent_known}
use Rattle.standing.proofs.Parts.{last_part, FullSent, AllFull, length_no_id}
use Rattle.standing.proofs.Again.{ReadsBack, reads_back}

-- Entries that rise from `b` are at most as many as the authors above it.
pub rising_few : (n b : ℕ) (es : List Entry) → b ≤ n → RisingFrom b es → Within n es → b + length es ≤ n
rising_few n b [] h end g = omega arith
rising_few n b (e ∷ es) h (next p r) g =
    let i = rising_few n e.author es (within_first n e es g).1 r (within_rest n e es g) in
    omega arith

module _ (t : Table) (w : WellFormed t) where
  -- A key that the table has has 32 bytes,
  key_full : (k : List ℕ) → 1 ≤ author_with t k → length k ≡ 32
  key_full k h =
      let p = place_some t.keys k t.counts.authors (λ z. omega arith) in
      let l = w.keys_held in
      let b = p.within in
      ap length (sym p.here) ∙ length_piece t.keys (author_with t k) p.some (omega arith)

  -- an id that it has,
  id_full : (x : List ℕ) → 1 ≤ row_with t x → length x ≡ 32
  id_full x h =
      let p = place_some t.ids x t.counts.rows (λ z. omega arith) in
      let l = w.ids_held in
      let b = p.within in
      ap length (sym p.here) ∙ length_piece t.ids (row_with t x) p.some (omega arith)

  -- and zero bytes in the place of one.
  last_full : (l : Option (List ℕ)) → KnownLast t l → length (last_part l) ≡ 32
  last_full none h = length_no_id
  last_full (some x) h = id_full x h

  -- So an entry that it knows has full lengths,
  known_full : (k : List ℕ) (s : Standing) → 1 ≤ author_with t k → KnownIds t s → FullSent (record { key = k; says = s })
  known_full k (growing_at l) h i = record { key = key_full k h; last = last_full l i; low = length_no_id; high = length_no_id }
  known_full k (forked_at l lo hi) h i =
      record { key = key_full k h; last = last_full l i.0; low = id_full lo i.1.0; high = id_full hi i.1.1 }

  -- and all that it knows.
  pub all_full : (ws : List Sent) → Known t ws → AllFull ws
  all_full [] h = tt
  all_full (v ∷ ws) h = (known_full v.key v.says h.0.0 h.0.1, all_full ws h.1)

  -- The bytes of what is sent of a valid frontier are read back.
  pub sent_back : (es : List Entry) (ws : List Sent) → EntriesOf t es → IsSent t es ws → ReadsBack (item_bytes ws) ws
  sent_back es ws v p =
      let a = sent_length t w es ws v p in
      let b = rising_few t.counts.authors 0 es (omega arith) v.rising (valid_within t es v) in
      let c = w.authors_limit in
      reads_back ws (all_full ws (sent_known t t w es es ws v (λ k. refl) p)) (omega arith)

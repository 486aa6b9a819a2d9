-- The entries read: of the author that has a key, what is said of the key, by the table's rows.
-- Assumes nothing.
use Prim.Native.Nat.{ℕ, ◌≤◌}
use mathlib.Core.Path.{◌≡◌, refl, sym, ap, ◌∙◌}
use mathlib.Core.List.{List, [], ◌∷◌}
use mathlib.Core.Option.{Option, none, some}
use native.Mathlib.Omega.{arith}
use Rattle.basics.specs.Pick.{pick}
use Rattle.basics.proofs.Tests.{by_eqb, by_ltb}
use Rattle.chunks.proofs.Finding.{place_some}
use Rattle.store.specs.Table.{Table, key_at}
use Rattle.chains.specs.Chain.{State}
use Rattle.frontiers.specs.Entries.{entry_of, Rising, ValidAt, ValidEntries}
use Rattle.frontiers.proofs.Entries.{absent, collect_rising, collect_entry, collect_above}
use Rattle.logs.specs.Held.{chain_of}
use Rattle.standing.specs.Standing.{Standing}
use Rattle.standing.specs.Sending.{Sent, sent_for}
use Rattle.standing.specs.Reading.{author_with, rows_at, KnownIds, Known, read_entries}
use Rattle.standing.proofs.Said.{by_same}

-- The author that has a key, and the ids that apply, are known where something is said of the key.
abbrev pub KnownFor : Table → List ℕ → Option Standing → Type 0
KnownFor u k none = Unit {0}
KnownFor u k (some s) = (1 ≤ author_with u k) × KnownIds u s

-- So they are in what is known.
pub known_for : (u : Table) (ws : List Sent) → Known u ws → (k : List ℕ) → KnownFor u k (sent_for ws k)
unfolding sent_for
known_for u [] h k = tt
known_for u (w ∷ ws) h k =
    by_same (λ b. KnownFor u k (pick b (some w.says) (sent_for ws k))) w.key k (λ e. rw (← e) h.0) (λ d. known_for u ws h.1 k)

module _ (u : Table) (ws : List Sent) where
  -- What is read of an author: what is said of the author's key.
  abbrev read : ℕ → Option State
  read b = rows_at u (sent_for ws (key_at u b))

  -- The entries read rise.
  pub read_rising : Rising (read_entries u ws)
  unfolding read_entries
  read_rising = collect_rising read u.counts.authors 0

  -- An author of the table has the entry that is said of the author's key,
  pub read_entry : (b : ℕ) → 1 ≤ b → b ≤ u.counts.authors → entry_of (read_entries u ws) b ≡ rows_at u (sent_for ws (key_at u b))
  unfolding read_entries
  read_entry b h l = collect_entry read u.counts.authors 0 b (omega arith) (omega arith)

  -- so the entries are valid where each of these is.
  pub read_valid : ((b : ℕ) → 1 ≤ b → b ≤ u.counts.authors → ValidAt (chain_of u) u.counts.authors b (rows_at u (sent_for ws (key_at u b))))
      → ValidEntries (chain_of u) u.counts.authors (read_entries u ws)
  unfolding read_entries
  read_valid v = record { rising = read_rising; each = each }
    where
      each : (b : ℕ) → ValidAt (chain_of u) u.counts.authors b (entry_of (read_entries u ws) b)
      each b =
          by_ltb (λ t. ValidAt (chain_of u) u.counts.authors b (entry_of (read_entries u ws) b)) u.counts.authors b
          (λ h. rw (collect_above read u.counts.authors 0 b (omega arith)) tt)
          (λ h. by_eqb (λ t. ValidAt (chain_of u) u.counts.authors b (entry_of (read_entries u ws) b)) b 0
          (λ z. rw (absent read_rising b (omega arith)) tt)
          (λ z. rw (read_entry b (omega arith) h) (v b (omega arith) h)))

  -- The author that has a key has the entry that is said of it: nothing is said of a key that the table lacks.
  pub read_for : Known u ws → (k : List ℕ) → entry_of (read_entries u ws) (author_with u k) ≡ rows_at u (sent_for ws k)
  read_for h k =
      by_eqb (λ t. entry_of (read_entries u ws) (author_with u k) ≡ rows_at u (sent_for ws k)) (author_with u k) 0
      (λ z. absent read_rising (author_with u k) (omega arith) ∙ sym (ap (rows_at u) (nothing (sent_for ws k) z (known_for u ws h k))))
      (λ z.
      let p = place_some u.keys k u.counts.authors z in
      read_entry (author_with u k) p.some p.within ∙ ap (λ x. rows_at u (sent_for ws x)) p.here)
    where
      nothing : (s : Option Standing) → author_with u k ≡ 0 → KnownFor u k s → s ≡ none
      nothing none z p = refl
      nothing (some s) z p = absurd (let q = p.0 in omega arith)

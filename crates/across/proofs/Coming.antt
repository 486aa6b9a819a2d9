-- What is sent of a valid frontier, read in a store that holds what it names: a valid frontier that says the same.
-- Assumes nothing.
use Prim.Native.Nat.{ℕ}
use mathlib.Core.Path.{◌≡◌, refl, sym, ap, ◌∙◌, subst}
use mathlib.Core.List.{List}
use mathlib.Core.Option.{Option, none, some}
use native.Mathlib.Omega.{arith}
use Rattle.chunks.proofs.Finding.{place_some}
use Rattle.store.specs.Table.{Table, key_at}
use Rattle.chains.specs.Chain.{State}
use Rattle.logs.specs.Held.{chain_of}
use Rattle.frontiers.specs.Entries.{Entry, entry_of, ValidAt}
use Rattle.standing.specs.Standing.{SameStanding}
use Rattle.standing.specs.Sending.{Sent, sent_for, IsSent}
use Rattle.standing.specs.Reading.{author_with, rows_at, Known, read_entries}
use Rattle.standing.proofs.Said.{EntriesOf, said, says, author_own}
use Rattle.standing.proofs.Read.{KnownFor, known_for, read_valid, read_for}
use Rattle.across.specs.Stores.{TwoStores}
use Rattle.across.proofs.States.{state_comes}

module _ (t u : Table) (s : TwoStores t u) (es : List Entry) (ws : List Sent) (v : EntriesOf t es) (p : IsSent t es ws) (h : Known u ws) where
  -- What is sent of a key is what the entry of the author with that key says.
  sent_says : (k : List ℕ) → sent_for ws k ≡ said t (entry_of es (author_with t k))
  sent_says k = p.each k ∙ says t s.first es v k

  -- One author's entry as it comes: valid, and saying the same.
  comes : (k : List ℕ) (x : Option State) → ValidAt (chain_of t) t.counts.authors (author_with t k) x → KnownFor u k (said t x)
      → ValidAt (chain_of u) u.counts.authors (author_with u k) (rows_at u (said t x)) × (said u (rows_at u (said t x)) ≡ said t x)
  comes k none q g = (tt, refl)
  comes k (some l) q g =
      let a = place_some t.keys k t.counts.authors (λ z. let o = q.0 in omega arith) in
      let b = place_some u.keys k u.counts.authors (λ z. let o = g.0 in omega arith) in
      let c = state_comes t u s (author_with t k) (author_with u k) (a.here ∙ sym b.here) b.some b.within l q.1.1 g.1 in
      ((b.some, (b.within, c.0)), ap some c.1)

  -- So is every one.
  comes_for : (k : List ℕ) → ValidAt (chain_of u) u.counts.authors (author_with u k) (rows_at u (sent_for ws k))
      × (said u (rows_at u (sent_for ws k)) ≡ sent_for ws k)
  comes_for k =
      let e = sent_says k in
      rw e (comes k (entry_of es (author_with t k)) (v.each (author_with t k)) (subst (KnownFor u k) e (known_for u ws h k)))

  -- The entries read are valid,
  pub comes_valid : EntriesOf u (read_entries u ws)
  comes_valid =
      read_valid u ws (λ b i j.
      subst (λ (c : ℕ). ValidAt (chain_of u) u.counts.authors c (rows_at u (sent_for ws (key_at u b)))) (author_own u s.second b i j)
      (comes_for (key_at u b)).0)

  -- and say of every author what the frontier does.
  pub comes_same : SameStanding t es u (read_entries u ws)
  comes_same k =
      sym (p.each k) ∙ sym (comes_for k).1 ∙ sym (ap (said u) (read_for u ws h k)) ∙ sym (says u s.second (read_entries u ws) comes_valid k)

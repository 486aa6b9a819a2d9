-- What a frontier says of an author, by key, is what its entry of that author says, by ids.
-- Assumes nothing.
use Prim.Native.Nat.{ℕ, ◌≤◌}
use mathlib.Core.Path.{◌≡◌, refl, sym, ap, ◌∙◌, subst}
use mathlib.Core.Bool.{Bool, true, false}
use mathlib.Core.List.{List, [], ◌∷◌}
use mathlib.Core.Option.{Option, none, some, IsSome}
use mathlib.Core.Logic.{◌≢◌}
use native.Mathlib.Omega.{arith}
use Rattle.basics.specs.Pick.{pick}
use Rattle.basics.proofs.Tests.{by_eqb, by_test}
use Rattle.chunks.specs.Bytes.{same_bytes}
use Rattle.chunks.specs.Lookup.{NoneIs}
use Rattle.chunks.proofs.Sameness.{same_equal, same_differs}
use Rattle.chunks.proofs.Finding.{place_some, place_none, place_own}
use Rattle.store.specs.Table.{Table, WellFormed, key_at}
use Rattle.store.proofs.Facts.{same_key_lem}
use Rattle.chains.specs.Chain.{State}
use Rattle.frontiers.specs.Entries.{Entry, entry_of, ValidAt, ValidEntries}
use Rattle.frontiers.proofs.Entries.{entry_first, entry_later, absent}
use Rattle.logs.specs.Held.{chain_of}
use Rattle.standing.specs.Standing.{Standing, by_ids, standing}
use Rattle.standing.specs.Reading.{author_with}

-- To show something of the test of two byte lists, show it where they are one and where they are not.
pub by_same : (P : Bool → Type 0) (a b : List ℕ) → (a ≡ b → P true) → (a ≢ b → P false) → P (same_bytes a b)
by_same P a b f g = by_test P (same_bytes a b) (λ e. f (same_equal a b e)) (λ e. g (same_differs a b e))

-- What an entry or its absence says, by ids.
abbrev pub said : Table → Option State → Option Standing
said t none = none
said t (some l) = some (by_ids t l)

-- Valid entries over a table.
abbrev pub EntriesOf : Table → List Entry → Type 0
EntriesOf t es = ValidEntries (chain_of t) t.counts.authors es

-- Each author with an entry is one of the first `n`.
abbrev pub Within : ℕ → List Entry → Type 0
Within n es = (a : ℕ) → IsSome (entry_of es a) → (1 ≤ a) × (a ≤ n)

-- So are those of valid entries,
pub valid_within : (t : Table) (es : List Entry) → EntriesOf t es → Within t.counts.authors es
valid_within t es v a = here (entry_of es a) (v.each a)
  where
    here : (x : Option State) → ValidAt (chain_of t) t.counts.authors a x → IsSome x → (1 ≤ a) × (a ≤ t.counts.authors)
    here none p h = absurd h
    here (some l) p h = (p.0, p.1.0)

-- the first author,
pub within_first : (n : ℕ) (e : Entry) (es : List Entry) → Within n (e ∷ es) → (1 ≤ e.author) × (e.author ≤ n)
within_first n e es h = h e.author (subst IsSome (sym (entry_first e es e.author refl)) tt)

-- and those of the rest.
pub within_rest : (n : ℕ) (e : Entry) (es : List Entry) → Within n (e ∷ es) → Within n es
unfolding entry_of
within_rest n e es h a p = h a (by_eqb (λ b. IsSome (pick b (some e.state) (entry_of es a))) e.author a (λ q. tt) (λ q. p))

module _ (t : Table) (w : WellFormed t) where
  -- What is said of an author's key is what the author's entry says.
  pub says_entry : (es : List Entry) → Within t.counts.authors es → (a : ℕ) → 1 ≤ a → a ≤ t.counts.authors
      → standing t es (key_at t a) ≡ said t (entry_of es a)
  unfolding standing entry_of
  says_entry [] h a i j = refl
  says_entry (e ∷ es) h a i j =
      let f = within_first t.counts.authors e es h in
      by_same (λ b. pick b (some (by_ids t e.state)) (standing t es (key_at t a)) ≡ said t (entry_of (e ∷ es) a)) (key_at t e.author) (key_at t a)
      (λ p. sym (ap (said t) (entry_first e es a (same_key_lem t w e.author a f.0 f.1 i j p))))
      (λ p.
      says_entry es (within_rest t.counts.authors e es h) a i j
      ∙ sym (ap (said t) (entry_later e es a (λ q. p (ap (key_at t) q)))))

  -- Of a key that the table lacks nothing is said.
  pub says_nothing : (es : List Entry) → Within t.counts.authors es → (k : List ℕ) → NoneIs t.keys t.counts.authors k → standing t es k ≡ none
  unfolding standing
  says_nothing [] h k n = refl
  says_nothing (e ∷ es) h k n =
      let f = within_first t.counts.authors e es h in
      by_same (λ b. pick b (some (by_ids t e.state)) (standing t es k) ≡ none) (key_at t e.author) k
      (λ p. absurd (n e.author f.1 f.0 p))
      (λ p. says_nothing es (within_rest t.counts.authors e es h) k n)

  -- So of every key: what is said of it is what the entry of the author that has it says.
  pub says : (es : List Entry) → EntriesOf t es → (k : List ℕ)
      → standing t es k ≡ said t (entry_of es (author_with t k))
  says es v k =
      by_eqb (λ b. standing t es k ≡ said t (entry_of es (author_with t k))) (author_with t k) 0
      (λ z.
      says_nothing es (valid_within t es v) k (place_none t.keys k t.counts.authors z)
      ∙ sym (ap (said t) (absent v.rising (author_with t k) (omega arith))))
      (λ z.
      let p = place_some t.keys k t.counts.authors z in
      ap (standing t es) (sym p.here) ∙ says_entry es (valid_within t es v) (author_with t k) p.some p.within)

  -- The author with an author's key is that author.
  pub author_own : (a : ℕ) → 1 ≤ a → a ≤ t.counts.authors → author_with t (key_at t a) ≡ a
  author_own a h l = place_own t.keys t.counts.authors a w.keys_distinct h l

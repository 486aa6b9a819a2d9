-- "Entries beyond the counts are never read": two stores that agree within the counts, with parts of equal lengths, give one verdict.
-- Assumes nothing.
use Rattle.std.specs.Prelude.{Result, Ok, Err}
use Rattle.answers.specs.declared.Refusal.{Refusal}
use Prim.Native.Nat.{ℕ, zero, suc, ◌≤◌, ◌<◌}
use mathlib.Core.Path.{◌≡◌, refl, ap, ◌∙◌}
use mathlib.Core.List.{List, [], ◌∷◌}
use native.Mathlib.Omega.{arith}
use lib.ListN.{length, get_or}
use Rattle.chunks.specs.Lookup.{place_of}
use Rattle.chunks.proofs.Finding.{place_agree}
use Rattle.item.specs.Id.{id_of}
use Rattle.item.specs.Layout.{layout_of, key_of, previous_of, dependency_of}
use Rattle.item.specs.declared.Fields.{Fields}
use Rattle.store.specs.Agree.{Agree}
use Rattle.store.specs.Table.{Table, WellFormed, row_at, has_author, one_per_author}
use Rattle.store.specs.declared.lent.Counts.{Counts}
use Rattle.store.specs.declared.Row.{Row}
use Rattle.store.proofs.Agreeing.{agree_rows, agree_ids, agree_keys}
use Rattle.store.proofs.Rows.{SameRows}
use Rattle.judging.specs.Lengths.{SameLengths}
use Rattle.judging.specs.Message.{row_with, key_number, author_with, lacks, named, dep_rows}
use Rattle.judging.specs.Verdict.{full, crossed, dep_tests, prev_tests, index_tests, chain_tests, then_deps, rules_of, then_room, judged_of, then_judged}
use Rattle.judging.specs.Verdict.{verdict_of}
use Rattle.judging.specs.declared.Verdict.{Verdict}
use Rattle.judging.specs.declared.Verdict.TheVariants.{Fits, Holds, Breaks}
use Rattle.judging.proofs.Named.{named_length, named_at}
use Rattle.judging.proofs.Older.{place_within}

module _ (rows others : List ℕ) (n : ℕ) (same : SameRows rows others n) where
  -- Rows within the first `n` have the same authors.
  has_same : (a : ℕ) (ds : List ℕ) → ((k : ℕ) → k < length ds → get_or ds k 0 ≤ n) → has_author rows a ds ≡ has_author others a ds
  unfolding has_author
  has_same a [] h = refl
  has_same a (d ∷ ds) h =
      let q : row_at rows d ≡ row_at others d = same d (h zero (omega arith)) in
      rw (q, has_same a ds (λ k l. h (suc k) (omega arith)))

  one_same : (ds : List ℕ) → ((k : ℕ) → k < length ds → get_or ds k 0 ≤ n) → one_per_author rows ds ≡ one_per_author others ds
  unfolding one_per_author
  one_same [] h = refl
  one_same (d ∷ ds) h =
      let q : row_at rows d ≡ row_at others d = same d (h zero (omega arith)) in
      let r : (k : ℕ) → k < length ds → get_or ds k 0 ≤ n = λ k l. h (suc k) (omega arith) in
      rw (q, has_same (row_at others d).author ds r, one_same ds r)

module _ (t u : Table) (g : Agree t u) (l : SameLengths t u) (w : WellFormed t) (s : List ℕ) (f : Fields) where
  -- The counts are the same,
  count_rows : t.counts.rows ≡ u.counts.rows
  count_rows = ap (λ (c : Counts). c.rows) g.same_counts

  count_authors : t.counts.authors ≡ u.counts.authors
  count_authors = ap (λ (c : Counts). c.authors) g.same_counts

  count_deps : t.counts.deps ≡ u.counts.deps
  count_deps = ap (λ (c : Counts). c.deps) g.same_counts

  -- so is what is found,
  row_same : (x : List ℕ) → row_with t x ≡ row_with u x
  row_same x =
      place_agree t.ids u.ids x t.counts.rows (λ i h _. agree_ids t u w g.within i h) ∙ ap (λ (n : ℕ). place_of u.ids n x) count_rows

  key_same : (k : List ℕ) → key_number t k ≡ key_number u k
  key_same k =
      place_agree t.keys u.keys k t.counts.authors (λ i h _. agree_keys t u w g.within i h) ∙ ap (λ (n : ℕ). place_of u.keys n k) count_authors

  author_same : (k : List ℕ) → author_with t k ≡ author_with u k
  author_same k = rw (key_same k, count_authors)

  -- so is which dependencies lack, and the rows of those that do not.
  lacks_same : (k : ℕ) → lacks t.ids t.counts.rows s f k ≡ lacks u.ids u.counts.rows s f k
  unfolding lacks
  lacks_same zero = refl
  lacks_same (suc k) = rw (lacks_same k, row_same (dependency_of f k s))

  pub named_same : (k : ℕ) → named t.ids t.counts.rows s f k ≡ named u.ids u.counts.rows s f k
  unfolding named
  named_same zero = refl
  named_same (suc k) = rw (named_same k, row_same (dependency_of f k s))

  -- The rows that are named are within the count, so their authors are the same.
  named_within : (k : ℕ) → k < length (dep_rows t s f) → get_or (dep_rows t s f) k 0 ≤ t.counts.rows
  named_within k h =
      let e : length (dep_rows t s f) ≡ f.count = named_length t.ids t.counts.rows s f f.count in
      rw (named_at t.ids t.counts.rows s f f.count k (omega arith)) (place_within t.ids (dependency_of f k s) t.counts.rows)

  crossed_same : (a : ℕ) → crossed t.rows a (dep_rows t s f) ≡ crossed u.rows a (dep_rows u s f)
  crossed_same a =
      let h = has_same t.rows u.rows t.counts.rows (agree_rows t u w g.within) a (dep_rows t s f) named_within in
      let o = one_same t.rows u.rows t.counts.rows (agree_rows t u w g.within) (dep_rows t s f) named_within in
      rw (h, o) (ap (crossed u.rows a) (named_same f.count))

  -- Each test gives the same: 10 to 12,
  prev_same : (a p : ℕ) → p ≤ t.counts.rows → prev_tests t.rows a f p ≡ prev_tests u.rows a f p
  unfolding prev_tests
  prev_same a p h = rw (agree_rows t u w g.within p h)

  -- 9,
  index_same : (a : ℕ) (x : List ℕ) → index_tests t.ids t.rows t.counts.rows a x f ≡ index_tests u.ids u.rows u.counts.rows a x f
  unfolding index_tests
  index_same a x = rw (prev_same a (row_with t x) (place_within t.ids x t.counts.rows), row_same x)

  -- 6 to 8,
  chain_same : chain_tests t s f ≡ chain_tests u s f
  unfolding chain_tests
  chain_same = rw (row_same (id_of s), author_same (key_of s), index_same (author_with u (key_of s)) (previous_of s))

  -- 14 and 15,
  deps_same : (v : Verdict) → then_deps t s f v ≡ then_deps u s f v
  unfolding then_deps dep_tests
  deps_same (Fits row) = rw (lacks_same f.count, crossed_same row.author)
  deps_same (Holds r) = refl
  deps_same (Breaks r) = refl

  -- and 16.
  full_same : (row : Row) → full t row ≡ full u row
  full_same row = rw (l.keys, l.ids, l.rows, l.deps, l.branches, count_rows, count_authors, count_deps)

  room_same : (v : Verdict) → then_room t v ≡ then_room u v
  unfolding then_room
  room_same (Fits row) = rw (full_same row)
  room_same (Holds r) = refl
  room_same (Breaks r) = refl

  -- An item that has these fields gets one verdict,
  pub judged_same : judged_of t s f ≡ judged_of u s f
  judged_same = room_same (rules_of t s f) ∙ ap (then_room u) (deps_same (chain_tests t s f) ∙ ap (then_deps u s f) chain_same)

-- and so does any item.
pub verdict_same : (t u : Table) → Agree t u → SameLengths t u → WellFormed t → (s : List ℕ) → verdict_of t s ≡ verdict_of u s
unfolding then_judged
verdict_same t u g l w s = by (layout_of s)
  where
    by : (y : Result Fields Refusal) → then_judged t s y ≡ then_judged u s y
    by (Ok f) = judged_same t u g l w s f
    by (Err r) = refl

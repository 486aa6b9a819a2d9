-- What an unrefused call wrote: the numbers of the merged entries, a valid frontier, with the room beyond as it was. And the
-- sentence of locality, of two unrefused calls. The ids are bytes, as a lent part's are.
-- Assumes nothing.
use Rattle.std.specs.Prelude.{Ok}
use Prim.Native.Nat.{ℕ}
use mathlib.Core.Path.{◌≡◌, sym, ap, ◌∙◌, subst}
use mathlib.Core.Logic.{◌≢◌}
use mathlib.Core.List.{List, [], ◌∷◌}
use mathlib.Core.Option.{Option, none, some}
use native.Mathlib.Omega.{arith}
use lib.ListN.{length, take, drop}
use lib.Seq.{take_all, length-paste}
use Rattle.basics.proofs.Prefixes.{at_paste, after_paste}
use Rattle.basics.specs.Bytes.{Bytes}
use Rattle.store.specs.Table.{Table, row_at, author_of}
use Rattle.chains.specs.Chain.{Store, State, growing}
use Rattle.logs.specs.Held.{chain_of}
use Rattle.logs.proofs.Tables.{chain_valid}
use Rattle.frontiers.specs.Entries.{entry_of, flat, Joins}
use Rattle.frontiers.specs.Numbers.{entries_of}
use Rattle.frontiers.specs.Calls.{FrontierOf, MergedOf, MergesInto}
use Rattle.frontiers.specs.Appending.{row_frontier, AppendsEntry}
use Rattle.frontiers.proofs.Entries.{entry_first, entry_later, some_not_none}
use Rattle.frontiers.proofs.Numbers.{valid_entries, entries_flat}
use Rattle.frontiers.proofs.Merged.{merged_local}
use Rattle.frontiers.proofs.Appends.{append_pair}
use Rattle.frontiers.proofs.Answers.{result_valid}

module _ (t : Table) (f g out out' : List ℕ) (n : ℕ) (p : MergesInto t f g out out' (Ok n)) where
  -- The first numbers of the output are those of the merged entries,
  pub wrote_numbers : take n out' ≡ flat p.1.result
  wrote_numbers =
      let e = p.1.count in
      ap (take n) p.1.content ∙ at_paste out 0 (flat p.1.result) n (omega arith) (omega arith) ∙ take_all n (flat p.1.result) (omega arith)

  -- so that their entries are the merged frontier's;
  pub wrote_merged : MergedOf t f g (entries_of (take n out'))
  wrote_merged = subst (MergedOf t f g) (sym (ap entries_of wrote_numbers ∙ entries_flat p.1.result)) p.1.merged

  -- they are a valid frontier,
  pub wrote_valid : Bytes t.ids → FrontierOf t (take n out')
  wrote_valid b = subst (FrontierOf t) (sym wrote_numbers) (result_valid t b f g out p.0 p.1.result p.1.merged)

  -- and "Room beyond it stays."
  pub wrote_beyond : drop n out' ≡ drop n out
  wrote_beyond = let e = p.1.count in ap (drop n) p.1.content ∙ after_paste out 0 (flat p.1.result) n n (omega arith) (omega arith) (omega arith)

  -- The output is as long as it was.
  pub wrote_length : length out' ≡ length out
  wrote_length =
      let e = p.1.count in
      let h = p.1.fits in
      ap length p.1.content ∙ length-paste out 0 (flat p.1.result) n (omega arith) (omega arith)

-- "In two unrefused calls on one store, equal entries (or absences) for an author give that author equal results."
pub calls_local : (t : Table) (f g out out' : List ℕ) (n : ℕ) (h k over over' : List ℕ) (m : ℕ) → Bytes t.ids
    → MergesInto t f g out out' (Ok n) → MergesInto t h k over over' (Ok m) → (a : ℕ)
    → entry_of (entries_of f) a ≡ entry_of (entries_of h) a → entry_of (entries_of g) a ≡ entry_of (entries_of k) a
    → entry_of (entries_of (take n out')) a ≡ entry_of (entries_of (take m over')) a
calls_local t f g out out' n h k over over' m b p q a e d =
    let s = chain_of t in
    let c = t.counts.authors in
    merged_local s (chain_valid t p.0.well_formed b) c (entries_of f) (entries_of g) (entries_of (take n out')) (entries_of h) (entries_of k)
    (entries_of (take m over')) a
    (valid_entries s c f p.0.first) (valid_entries s c g p.0.second) (wrote_merged t f g out out' n p) (wrote_merged t h k over over' m q) e d

-- The frontier of one row alone has one entry: growing at that row.
row_entries : (rows : List ℕ) (x : ℕ) → entries_of (row_frontier rows x) ≡ record { author = (row_at rows x).author; state = growing x } ∷ []
unfolding flat
row_entries rows x = entries_flat (record { author = (row_at rows x).author; state = growing x } ∷ [])

-- The row's author has that entry, and no other author has one.
pub row_entry : (rows : List ℕ) (x a : ℕ) → (row_at rows x).author ≡ a → entry_of (entries_of (row_frontier rows x)) a ≡ some (growing x)
row_entry rows x a e = rw (row_entries rows x) (entry_first (record { author = (row_at rows x).author; state = growing x }) [] a e)

pub row_absent : (rows : List ℕ) (x a : ℕ) → (row_at rows x).author ≢ a → entry_of (entries_of (row_frontier rows x)) a ≡ none
unfolding entry_of
row_absent rows x a e = rw (row_entries rows x) (entry_later (record { author = (row_at rows x).author; state = growing x }) [] a e)

-- Joined with an absence an entry, or an absence, stays.
joins_absence : (s : Store) (x y r : Option State) → y ≡ none → Joins s x y r → r ≡ x
joins_absence s none none r e j = j
joins_absence s (some l) none r e j = j
joins_absence s x (some k) r e j = absurd (some_not_none e)

module _ (t : Table) (f : List ℕ) (used x : ℕ) (f' : List ℕ) (n : ℕ) (b : Bytes t.ids) (p : AppendsEntry t f used x f' (Ok n)) where
  -- An append that is done is a merge with the frontier of the row alone,
  pub append_merges : MergesInto t (take used f) (row_frontier t.rows x) f f' (Ok n)
  append_merges = (append_pair t b p.0.well_formed f used x p.0, p.1)

  -- so what it wrote is the numbers of the merged entries,
  pub appended_numbers : take n f' ≡ flat p.1.result
  unfolding append_merges
  appended_numbers = wrote_numbers t (take used f) (row_frontier t.rows x) f f' n append_merges

  -- whose entries are the merged frontier's;
  pub appended_merged : MergedOf t (take used f) (row_frontier t.rows x) (entries_of (take n f'))
  appended_merged = wrote_merged t (take used f) (row_frontier t.rows x) f f' n append_merges

  -- it is a valid frontier,
  pub appended_valid : FrontierOf t (take n f')
  appended_valid = wrote_valid t (take used f) (row_frontier t.rows x) f f' n append_merges b

  -- the numbers beyond it stay, and the list is as long as it was.
  pub appended_beyond : drop n f' ≡ drop n f
  appended_beyond = wrote_beyond t (take used f) (row_frontier t.rows x) f f' n append_merges

  pub appended_length : length f' ≡ length f
  appended_length = wrote_length t (take used f) (row_frontier t.rows x) f f' n append_merges

  -- The entry of every other author, or its absence, is what it was.
  pub appended_others : (a : ℕ) → author_of t x ≢ a → entry_of (entries_of (take n f')) a ≡ entry_of (entries_of (take used f)) a
  appended_others a e =
      joins_absence (chain_of t) (entry_of (entries_of (take used f)) a) (entry_of (entries_of (row_frontier t.rows x)) a) (entry_of (entries_of (take n f')) a)
      (row_absent t.rows x a e) (appended_merged.joins a)

-- Locality of two appends.
pub appends_local : (t : Table) (f : List ℕ) (used x : ℕ) (f' : List ℕ) (n : ℕ) (g : List ℕ) (held y : ℕ) (g' : List ℕ) (m : ℕ) → Bytes t.ids
    → AppendsEntry t f used x f' (Ok n) → AppendsEntry t g held y g' (Ok m) → (a : ℕ)
    → entry_of (entries_of (take used f)) a ≡ entry_of (entries_of (take held g)) a
    → entry_of (entries_of (row_frontier t.rows x)) a ≡ entry_of (entries_of (row_frontier t.rows y)) a
    → entry_of (entries_of (take n f')) a ≡ entry_of (entries_of (take m g')) a
appends_local t f used x f' n g held y g' m b p q =
    calls_local t (take used f) (row_frontier t.rows x) f f' n (take held g) (row_frontier t.rows y) g g' m b
    (append_merges t f used x f' n b p) (append_merges t g held y g' m b q)

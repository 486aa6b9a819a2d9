-- One row appended: the frontier of that row is valid, a valid frontier has at most one entry an author, and what the append promises.
-- Assumes nothing.
use Rattle.std.specs.Prelude.{Result, Ok, Err}
use Rattle.answers.specs.declared.Refusal.{Refusal}
use Prim.Native.Nat.{ℕ, zero, suc, ◌+◌, ◌*◌, ◌/◌, ◌%◌, ◌≤◌, ◌<◌}
use mathlib.Core.Path.{◌≡◌, refl, ap}
use mathlib.Core.Logic.{inr}
use mathlib.Core.List.{List, [], ◌∷◌}
use mathlib.Core.Option.{none, some}
use native.Mathlib.Omega.{arith}
use native.Mathlib.Nat.{div-add-mod'}
use lib.ListN.{length, take}
use lib.Seq.{length-take-le}
use Rattle.basics.specs.Pick.{pick}
use Rattle.basics.proofs.Tests.{by_eqb}
use Rattle.basics.specs.Bytes.{Bytes}
use Rattle.store.specs.Table.{Table, WellFormed, author_of}
use Rattle.store.proofs.Facts.{author_held}
use Rattle.chains.specs.Chain.{Store, growing, growing_valid}
use Rattle.logs.specs.Held.{chain_of}
use Rattle.logs.proofs.Tables.{table_sound}
use Rattle.frontiers.specs.Entries.{Entry, entry_of, flat, RisingFrom, end, next, ValidAt}
use Rattle.frontiers.specs.Numbers.{entries_of, entries_at}
use Rattle.frontiers.specs.Calls.{FrontierOf, TwoFrontiers}
use Rattle.frontiers.specs.Appending.{row_frontier, Appendable, AppendsTo, Held, NotAppended, AppendAccepted, AppendsEntry}
use Rattle.frontiers.proofs.Entries.{entry_first, entry_later}
use Rattle.frontiers.proofs.Numbers.{valid_entries, flat_valid}
use Rattle.frontiers.proofs.Calls.{written_merged, numbers_short}

-- The first numbers of a copy of the first numbers are those numbers.
pub copy_is : (f : List ℕ) (used : ℕ) (r : List ℕ) → used ≤ length f → take (length (take used f)) r ≡ take used f → take used r ≡ take used f
copy_is f used r h e = rw (length-take-le used f h) at e

-- Rising entries with authors up to `n` are at most as many.
rising_few : (s : Store) (n b : ℕ) (es : List Entry) → b ≤ n → RisingFrom b es → ((a : ℕ) → b < a → ValidAt s n a (entry_of es a)) → length es + b ≤ n
rising_few s n b [] h end v = omega arith
rising_few s n b (e ∷ es) h (next p r) v =
    let k : ValidAt s n e.author (some e.state) = rw (entry_first e es e.author refl) at (v e.author p) in
    let m = k.1.0 in
    let l : length es + e.author ≤ n = rising_few s n e.author es m r (λ a q. rw (entry_later e es a (λ z. omega arith)) at (v a (omega arith))) in
    omega arith

-- As many entries as were asked for.
length_entries : (f : List ℕ) (k i : ℕ) → length (entries_at f k i) ≡ k
unfolding entries_at
length_entries f zero i = refl
length_entries f (suc k) i = ap suc (length_entries f k (suc i))

module _ (t : Table) (b : Bytes t.ids) (w : WellFormed t) where
  -- The frontier of one row alone is valid.
  pub row_valid : (x : ℕ) → Held t x → FrontierOf t (row_frontier t.rows x)
  unfolding flat entry_of
  row_valid x h =
      let a = author_held t w x h.counted h.some in
      flat_valid (chain_of t) t.counts.authors (record { author = author_of t x; state = growing x } ∷ [])
      record {
        rising = next {b = 0} {e = record { author = author_of t x; state = growing x }} a.0 end;
        each = λ c.
            by_eqb (λ z. ValidAt (chain_of t) t.counts.authors c (pick z (some (growing x)) none)) (author_of t x) c
            (λ p. (omega (arith, a.0), (omega (arith, a.1), growing_valid (inr record { some = h.some; held = h.counted; by = p }))))
            (λ p. tt);
      }

  -- A valid frontier has at most five numbers an author.
  pub frontier_few : (f : List ℕ) → FrontierOf t f → length f ≤ t.counts.authors * 5
  unfolding entries_of
  frontier_few f v =
      let d : length f / 5 * 5 + length f % 5 ≡ length f = div-add-mod' (length f) 5 in
      let z = v.whole in
      let e : length (entries_of f) ≡ length f / 5 = length_entries f (length f / 5) 0 in
      let k = valid_entries (chain_of t) t.counts.authors f v in
      let l = rising_few (chain_of t) t.counts.authors 0 (entries_of f) (omega arith) k.rising (λ a h. k.each a) in
      omega arith

  module _ (f : List ℕ) (used x : ℕ) (a : AppendAccepted t f used x) where
    -- What the inner function needs.
    pub append_ready : Appendable t.ids t.rows t.counts f used x
    append_ready =
        let l = frontier_few (take used f) a.frontier.valid in
        let e = length-take-le used f a.frontier.within in
        let m = w.authors_limit in
        record {
          sound = table_sound t w b;
          authors = w.authors_limit;
          within = a.frontier.within;
          few = omega arith;
          frontier = a.frontier.valid;
          author = (author_held t w x a.row.counted a.row.some).1;
          row = row_valid x a.row;
        }

    -- The two frontiers that it merges are valid.
    pub append_pair : TwoFrontiers t (take used f) (row_frontier t.rows x)
    append_pair = record { well_formed = w; first = a.frontier.valid; second = row_valid x a.row }

    -- What it answers is what the call promises.
    pub append_answers : (f' : List ℕ) (r : Result ℕ Refusal) → AppendsTo t.ids t.rows t.counts f used x f' r → AppendsEntry t f used x f' r
    append_answers f' (Ok n) q = (a, written_merged t (take used f) (row_frontier t.rows x) b append_pair f f' n q.0 q.1)
    append_answers f' (Err why) q = (
      NotAppended.no_room q.0 w a.frontier a.row
          (numbers_short t (take used f) (row_frontier t.rows x) b append_pair f q.1.0),
      q.1.1,
    )
